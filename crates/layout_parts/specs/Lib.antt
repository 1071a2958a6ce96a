-- Definitions and laws of the crate `layout_parts`: from the lines of a layout text to the parts that `put_layout` is lent. A definition's laws
-- stand in the file of its name with `Laws`; `PartsLoops` and `GatherLoop` are for the code.
pub mod LayoutParts
pub mod LayoutPartsLaws
pub mod PartsLoops
pub mod GatherLoop
