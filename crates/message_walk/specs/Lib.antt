-- What the loop over the fields of a message asks and promises, and its laws, for the crate `message_walk`. The walk's definition is in message_level.
pub mod MessagePromises
pub mod MessageTurnLaws
