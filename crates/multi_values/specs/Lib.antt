-- Definitions and laws of the crate `multi_values`: lists of values in one field. A definition's laws stand in the file of its name with
-- `Laws`, its examples in the one with `Cases`.
pub mod MultiValue
pub mod MultiValueLaws
pub mod MultiValueOrder
pub mod MultiValueCases
