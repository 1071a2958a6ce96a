-- Definitions and laws of the crate `numbers`: whole and decimal numbers, and days of a month. A definition's laws stand in the file of its
-- name with `Laws`, its examples in the one with `Cases`.
pub mod Number
pub mod NumberLaws
pub mod NumberCases
