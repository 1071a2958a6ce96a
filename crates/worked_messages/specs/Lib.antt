-- The walk of a message and its verdicts on small messages, by computation: document 01's list in full, and messages that tell wrong meanings apart.
pub mod MessageWalkCases
pub mod VerdictCases
