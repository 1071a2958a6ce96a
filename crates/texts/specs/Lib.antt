-- Definitions and laws of the crate `texts`: a dictionary text as a whole, and its refusals. A definition's
-- laws stand in the file of its name with `Laws`, its examples in the one with `Cases`.
pub mod DictionaryOrderLaws
pub mod DictionaryText
pub mod DictionaryTextLaws
pub mod DictionaryTextCases
