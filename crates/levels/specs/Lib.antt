-- Definitions and laws of the crate `levels`: the level that a path of count tags leads to, and its
-- members. A definition's laws stand in the file of its name with `Laws`; that the levels in the words
-- are those of the layout stands in `MembersLayout`.
pub mod Members
pub mod MembersLaws
pub mod MembersLayout
pub mod ReadLevelLaws
