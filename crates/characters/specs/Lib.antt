-- Definitions and laws of the crate `characters`: the characters of a value after `from_utf8_lossy`. A definition's laws stand in the file of its
-- name with `Laws`, its examples in the one with `Cases`.
pub mod Characters
pub mod CharactersLaws
pub mod CharactersCases
