-- Definitions and laws of the crate `formats`: the values of FIX fields. A definition's laws stand in the file of its name with `Laws`,
-- its examples in the one with `Cases`.
pub mod Boolean
pub mod BooleanLaws
pub mod FieldValue
pub mod FieldValueLaws
pub mod StarredCases
