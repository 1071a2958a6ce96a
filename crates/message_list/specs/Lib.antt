-- Definitions and laws of the crate `message_list`: the calls of the gate, one behind the other.
pub mod ListCall
pub mod ListCallLaws
pub mod ListSteps
