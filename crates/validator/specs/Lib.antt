-- Definitions and laws of the crate `validator`: the call `walk_message`. A definition's laws stand in the file of its name with `Laws`; examples
-- of the walk stand in the crate `worked_messages`. To read: `MessageWalk` and `MessageWords` of message_level, then `MessageCall`, `MessageStretches` and `MessageWalkTheorem`.
pub mod MessageCall
pub mod CallPromises
pub mod MessageCallLaws
pub mod MessageStretches
pub mod MessageWalkTheorem
