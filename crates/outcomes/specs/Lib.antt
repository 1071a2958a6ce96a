-- Definitions and laws of the crate `outcomes`: what the gate's calls answer, as numbers. To read: `Outcome` and `Answers`.
pub mod Outcome
pub mod OutcomeLaws
pub mod Answers
