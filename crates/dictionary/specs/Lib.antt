-- Definitions and laws of the crate `dictionary`: the words of a dictionary and their check. A definition's laws stand in the file of its name
-- with `Laws`.
pub mod DictionaryWords
pub mod DictionaryCheck
pub mod LinesTaken
pub mod LineOrder
pub mod LineOrderLaws
pub mod LineRuns
pub mod LineRunsLaws
pub mod DictionaryCheckLaws
pub mod DictionaryFacts
pub mod DictionaryRecords
