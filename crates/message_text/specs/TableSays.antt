-- What it means that a row of a field table says what a line of the message text says, and that a stretch holds the message's type. The theorems are in
-- `MessageTable.antt`. Assumes nothing.
--
--   line_at position lines               the line at this position, from 0
--   RowSays table text line position    the table's row at this position says what the line says: "one tag=value line a field", "the value is all behind
--                                       the first ="
--   TypeSays part text type             the stretch holds the type, and lies in the text
use Rattle.std.specs.Prelude.{◌≡◌, ℕ, zero, suc, ◌-◌, ◌≤◌, List, [], length, take, drop, Some}
use Rattle.lines.specs.Lines.{before, behind, Pieces, last, piece}
use Rattle.lines.specs.LineParts.{number_of}
use Rattle.field_table.specs.FieldTable.{tag_of, first_of, past_of}
use Rattle.message_text.specs.declared.message_type.Stretch.{Stretch}
use Rattle.message_text.specs.MessageText.{equals_sign}
use Rattle.message_text.specs.MessageType.{part_of}

unfoldable pub line_at : ℕ → Pieces → List ℕ
line_at position (last bytes) = []
line_at zero (piece line others) = line
line_at (suc position) (piece line others) = line_at position others

pub record RowSays (table text line : List ℕ) (position : ℕ) : Type 0 where
  pub tag_before : number_of (before equals_sign line) ≡ Some (tag_of table position)
  pub value_behind : take (past_of table position - first_of table position) (drop (first_of table position) text) ≡ behind equals_sign line
  pub ordered : first_of table position ≤ past_of table position
  pub inside : past_of table position ≤ length text

pub record TypeSays (part : Stretch) (text type : List ℕ) : Type 0 where
  pub holds : part_of part text ≡ type
  pub ordered : part.first ≤ part.past
  pub inside : part.past ≤ length text
