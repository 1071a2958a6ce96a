-- Definitions and laws of the crate `ascending`: ordered lists of words, the search in them, and each word once. A definition's laws
-- stand in the file of its name with `Laws`. To read: `Sort`, `Search` and `Dedup`.
pub mod Sort
pub mod SortLaws
pub mod Search
pub mod SearchLaws
pub mod Dedup
pub mod DedupLaws
