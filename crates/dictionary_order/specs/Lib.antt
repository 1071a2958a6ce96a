-- The definitions and laws of the crate `dictionary_order`: which line of a dictionary text may follow which (document 01, 'The dictionary text').
pub mod DictionaryOrder
pub mod DictionaryOrderLaws
