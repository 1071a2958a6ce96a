-- The definition of the crate `files`: what is promised of a file that was read.
pub mod Files
