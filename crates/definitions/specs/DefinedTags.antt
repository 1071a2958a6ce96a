-- The tags that a dictionary defines: TAG of each `def` line of its text (`DefinedFields.antt`), ascending. The Rust's `Dictionary::get_field` finds exactly these.
-- Assumes nothing.
--
--   defined_tags words   the tags that the dictionary with these words defines, ascending
use Rattle.std.specs.Prelude.{ℕ, List}
use Rattle.ascending.specs.Sort.{sorted}
use Rattle.dictionary.specs.DictionaryWords.{word_lines}
use Rattle.definitions.specs.DefinedFields.{tags_in}

abbrev pub defined_tags : List ℕ → List ℕ
defined_tags words = sorted (tags_in (word_lines words))
