-- The definition and the laws of the crate `gate`: what `gate_level_members` answers. The other calls' answers stand in the crate `outcomes`.
pub mod MembersOutcome
pub mod MembersOutcomeLaws
