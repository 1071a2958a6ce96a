-- Definitions and laws of the crate `arrange_level`: the trace of an expansion, and one level of it, read and put in order. A definition's laws
-- stand in the file of its name with `Laws`, its examples in the one with `Cases`.
pub mod ArrangeTrace
pub mod ArrangeTraceLaws
pub mod ArrangeGroups
pub mod ArrangeGroupsLaws
pub mod ArrangeCases
pub mod ArrangeLevelLaws
pub mod ArrangeRows
pub mod ArrangeRowsLaws
pub mod ArrangeWeightLaws
