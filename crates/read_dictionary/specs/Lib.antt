-- Definitions and laws of the crate `read_dictionary`: what the call writes. A definition's laws stand in the file of its name with `Laws`, its
-- examples in the one with `Cases`.
pub mod ReadDictionary
pub mod ReadDictionaryCases
pub mod ReadDictionaryLaws
pub mod TextCheck
pub mod TextCheckLaws
