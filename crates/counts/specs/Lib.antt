-- Definitions and laws of the crate `counts`: the number that a count field declares. A definition's laws stand in the file of its name with
-- `Laws`.
pub mod Count
pub mod CountLaws
