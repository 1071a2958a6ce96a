-- Definitions and laws of the crate `walk_steps`: what a group walk reads from lent words, its decisions at a field and the events it
-- writes at one place. A definition's laws stand in the file of its name with `Laws`. To read: `WalkWords`, then `LayoutLookups`.
pub mod WalkWords
pub mod WalkWordsLaws
pub mod WordSteps
pub mod WordStepsLaws
pub mod WrittenEvents
pub mod WrittenEventsLaws
pub mod LayoutLookups
