-- Definitions and laws of the crate `dates`: FIX's dates and times. A definition's laws stand in the file of its name with `Laws`, examples in
-- `DateCases` of the crate `strict_dates`.
pub mod Date
pub mod DateLaws
pub mod DateSplits
