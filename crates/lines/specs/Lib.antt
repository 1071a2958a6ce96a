-- Definitions and laws of the crate `lines`: lines and the parts of a line. A definition's laws stand in the file
-- of its name with `Laws`, its examples in the one with `Cases`.
pub mod Lines
pub mod LinesLaws
pub mod TextLines
pub mod TextLinesLaws
pub mod LineParts
pub mod LinePartsLaws
pub mod LinePartsCases
