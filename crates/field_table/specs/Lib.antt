-- Definitions and laws of the crate `field_table`: what a walk reads. A definition's laws stand in the file of its name with `Laws`.
-- To read: `WalkInput` and `FieldTable`; `ReliedRules` is what the theorem on readings relies on.
pub mod WalkInput
pub mod ReliedRules
pub mod FieldTable
pub mod FieldTableLaws
