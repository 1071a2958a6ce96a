-- Definitions and laws of the crate `list_lines`: the lines of a list. A definition's laws stand in the file of its name with `Laws`, its
-- examples in the one with `Cases`.
pub mod ListLines
pub mod ListLinesLaws
pub mod PrintedNumbers
pub mod ListLinesCases
