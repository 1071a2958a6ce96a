-- Definitions and laws of the crate `message_level`: the walk of a message as a definition, the tags seen at its level, and what is missing there. A
-- definition's laws stand in the file of its name with `Laws`. To read: `MessageWalk`, then `MessageWords`.
pub mod MessageWalk
pub mod MessageWords
pub mod MessageWalkLaws
pub mod SeenTags
pub mod SeenTagsLaws
pub mod MissingLaws
