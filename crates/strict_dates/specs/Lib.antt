-- Definitions and laws of the crate `strict_dates`: strict mode's ranges. Their laws stand in `StrictDateLaws`, examples of these and of the crate `dates` in
-- `DateCases`.
pub mod StrictDate
pub mod StrictDateLaws
pub mod DateCases
