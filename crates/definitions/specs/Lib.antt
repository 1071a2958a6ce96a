-- Definitions and laws of the crate `definitions`: what is looked up in the words of a dictionary, and what the lookups mean by the lines of
-- its text. A definition's laws stand in the file of its name with `Laws`, examples in `DictionaryCases`.
-- To read: `DefinedFields` and `DefinedTags`; `PassAccepted` and `AcceptedPass` show the check of the words exact.
pub mod Definitions
pub mod DictionaryCases
pub mod DefinitionsLaws
pub mod IndexLaws
pub mod PassAccepted
pub mod AcceptedPass
pub mod DefinedFields
pub mod WordLinesLaws
pub mod DefinedFieldsLaws
pub mod DefinedTags
pub mod DefinedTagsLaws
pub mod AdmittedRecords
