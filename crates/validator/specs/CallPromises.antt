-- What the functions of the call `walk_message` ask once the lent words are checked, and how many words a walk can need. Assumes nothing.
--
--   Accepted dictionary words fields message   dictionary and layout words that passed their checks, and an accepted field table
--   most_words words rows                       as many words as a walk over so many fields can need
use Rattle.std.specs.Prelude.{◌≡◌, ℕ, ◌+◌, ◌*◌, ◌<◌, true, List, length}
use Rattle.dictionary.specs.DictionaryCheck.{is_dictionary}
use Rattle.layouts.specs.Limits.{gate_limits}
use Rattle.layouts.specs.LayoutWords.{group_count, level_required, level_count_tags}
use Rattle.layouts.specs.LayoutCheckFacts.{Passed}
use Rattle.field_table.specs.FieldTableLaws.{AcceptedTable}

pub record Accepted (dictionary words fields message : List ℕ) : Type 0 where
  pub defines : is_dictionary dictionary ≡ true
  pub passed : Passed gate_limits words
  pub few_groups_lem : group_count words < 4294967296
  pub table : AcceptedTable fields (length message)

-- 5 N events of the loop over N fields, and one for each required tag and each group of the top
abbrev pub most_words : List ℕ → ℕ → ℕ
most_words words rows = 5 * (5 * rows + length (level_required words 0) + length (level_count_tags words 0))
