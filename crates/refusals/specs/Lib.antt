-- Definitions of the crate `refusals`: the number and the place of each refusal.
pub mod Refusal
pub mod HandedOn
