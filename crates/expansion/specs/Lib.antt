-- Definitions and laws of the crate `expansion`: a dictionary as a tree, the layout that a message type of it has, and the trace of
-- an expansion with its steps. A definition's laws stand in the file of its name with `Laws`, its examples in the one with `Cases`.
pub mod Dictionary
pub mod Expansion
pub mod ExpansionCases
pub mod Trace
pub mod TraceLaws
pub mod Steps
pub mod StepsLaws
pub mod SeenLaws
pub mod Retained
pub mod RetainedLaws
pub mod ExpansionInduction
pub mod ExpansionLaws
pub mod ExpansionRules
pub mod ExpansionLimits
pub mod ExpansionGroups
