-- The definition and the laws of the crate `listing`: the list that `gatelist` prints, made of the lines of `list_lines`.
pub mod ListText
pub mod ListTextLaws
