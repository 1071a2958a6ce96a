-- Definitions and laws of the crate `verdict`: the verdict on one field. A definition's laws stand in the file of its name with `Laws`.
-- To read: `Verdict`; `FieldRecords` is for the code.
pub mod Verdict
pub mod DefinitionFacts
pub mod VerdictLaws
pub mod AdmittedCharacters
pub mod FieldRecords
pub mod FieldRecordsLaws
