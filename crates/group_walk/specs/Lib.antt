-- The promises of the crate `group_walk`: what the functions that walk a group answer, and the laws of their loops. What a walk is
-- is defined in `group_reading` (`GroupWalk.antt`).
pub mod WalkPromises
pub mod WalkLoops
