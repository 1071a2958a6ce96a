-- Definitions and laws of the crate `read_layout`: what `read_layout` gives and writes.
-- A definition's laws stand in the file of its name with `Laws`, its examples in the one with `Cases`.
pub mod ReadLayout
pub mod ReadLayoutLaws
pub mod ReadLayoutCases
