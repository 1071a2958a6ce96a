-- Definitions and laws of the crate `events`: the events of a walk and the space for their words. A definition's laws stand in the file of its
-- name with `Laws`. To read: `Events`; `EventSpace` is for the code.
pub mod Events
pub mod EventsLaws
pub mod EventSpace
pub mod EventSpaceLaws
