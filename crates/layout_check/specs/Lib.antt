-- The law of the crate `layout_check`: words that pass are the words of one layout alone. The check's definition and its other laws
-- stand in the crate `layouts`.
pub mod LayoutCheckUnique
