-- The definition and the laws of the crate `arrange`: what a trace tells of the layout of a message type, level by level.
pub mod ArrangeGather
pub mod ArrangeGatherLaws
