-- Definitions and laws of the crate `expand`: the call `expand`. A definition's laws stand in the file of its name with `Laws`.
pub mod ExpandCall
pub mod ExpandSteps
pub mod ExpandCallLaws
