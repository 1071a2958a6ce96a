-- Definitions and laws of the crate `bodies`: a dictionary's bodies in its words, and what the code that adds them promises. A definition's
-- laws stand in the file of its name with `Laws`.
pub mod DictionaryInWords
pub mod DictionaryPlaces
pub mod AcceptedPlaces
pub mod DictionaryLookups
pub mod BodyLines
pub mod FillLaws
pub mod ExpansionPromises
pub mod ExpansionPromisesLaws
