-- Definitions and laws of the crate `layout_rules`: the first broken rule of a layout text (document 01, 'The layout text'). A definition's
-- laws stand in the file of its name with `Laws`. To read: `FirstBroken`; `OpenBlocks` and `RulesLoop` are for the code.
pub mod FirstBroken
pub mod FirstBrokenLaws
pub mod OpenBlocks
pub mod OpenBlocksLaws
pub mod RulesLoop
pub mod MemberLaws
