-- Definitions and laws of the crate `layouts`: the layout of a message type, its rules, and its arrangement in words. A definition's laws
-- stand in the file of its name with `Laws`, its examples in the one with `Cases`.
pub mod Limits
pub mod Layout
pub mod LayoutLaws
pub mod LayoutRules
pub mod LayoutRulesLaws
pub mod LayoutWords
pub mod LayoutWordsLaws
pub mod LayoutCheck
pub mod LayoutCheckLaws
pub mod LayoutCheckFacts
pub mod LayoutCheckRules
pub mod LayoutCheckSound
pub mod LayoutCheckComplete
pub mod GatheredLayout
pub mod GatheredLayoutLaws
pub mod LayoutCases
pub mod LayoutCheckTests
