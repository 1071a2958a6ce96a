-- Definitions and laws of the crate `field_types`: the data types of FIX fields. A definition's laws stand in the file of its name with
-- `Laws`.
pub mod FieldType
pub mod FieldTypeLaws
