-- The definition and the laws of the crate `put_dictionary`: the words of an index, written into lent words.
pub mod IndexWords
pub mod IndexWordsLaws
