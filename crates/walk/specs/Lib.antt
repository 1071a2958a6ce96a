-- Definitions and laws of the crate `walk`: the call `walk_group`, and that it finds the readings of the group. A definition's laws stand
-- in the file of its name with `Laws`. To read: `WalkCall`, then `CallTheorem`.
pub mod WalkCall
pub mod WalkCallLaws
pub mod CallTheorem
