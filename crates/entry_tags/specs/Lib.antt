-- Definitions and laws of the crate `entry_tags`: the tags seen in an entry, and the words that hold them. The laws stand in
-- `EntryTagsLaws`.
pub mod EntryTags
pub mod EntryTagsLaws
