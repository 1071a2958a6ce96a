-- Definitions and laws of the crate `message_text`: the message text, its field table and the type of a message. A definition's laws stand in the file of
-- its name with `Laws`, its examples in the one with `Cases`. `MessageTable` has the theorems on the table, `TableSays` what they say.
pub mod MessageText
pub mod MessageTextLaws
pub mod MessageTextCases
pub mod MessageType
pub mod MessageTypeLaws
pub mod MessageTypeCases
pub mod TableSays
pub mod MessageTable
