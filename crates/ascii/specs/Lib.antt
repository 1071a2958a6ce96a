-- Definitions and laws of the crate `ascii`: bytes, digits, letters and parts of a value. A definition's laws stand in the file of its
-- name with `Laws`, its examples in the one with `Cases`.
pub mod Notation
pub mod NotationLaws
pub mod Bytes
pub mod BytesLaws
pub mod Digits
pub mod DigitsLaws
pub mod Letters
pub mod LettersLaws
pub mod LettersCases
pub mod Split
pub mod SplitLaws
pub mod SplitParts
pub mod Membership
