-- Definitions and laws of the crate `layout_text`: the order of the lines of a layout text, and the layout that it tells.
-- A definition's laws stand in the file of its name with `Laws`, its examples in the one with `Cases`.
pub mod LayoutText
pub mod LayoutTextLaws
pub mod LayoutTextCases
pub mod LevelLines
pub mod LevelLinesLaws
pub mod LayoutOfText
pub mod InOrder
pub mod LayoutOfTextLaws
pub mod AcceptedText
pub mod CloseOpenLaws
