-- Definitions and laws of the crate `group_reading`: the readings of a group by document 01's grammar, the walk of a group as a definition, and the theorem
-- on both. A definition's laws stand in the file of its name with `Laws`, its examples in the one with `Cases`. To read: `GroupReading`, then `ReadingTheorem`.
pub mod GroupReading
pub mod GroupReadingLaws
pub mod GroupSteps
pub mod GroupStepsLaws
pub mod GroupWalk
pub mod GroupWalkLaws
pub mod GroupWalkCases
pub mod ReadingTheorem
