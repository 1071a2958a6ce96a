-- Definitions and laws of the crate `line_forms`: what a line says. A definition's laws stand in the file of its name
-- with `Laws`, its examples in the one with `Cases`.
pub mod LineForms
pub mod LineFormsLaws
pub mod LineFormsCases
