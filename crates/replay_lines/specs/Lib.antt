-- What the contracts of replay_lines rest on.
pub mod FirstSpaceLaws
