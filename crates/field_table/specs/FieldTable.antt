-- The field table (document 01, 'The events of a walk'): "three 32-bit words a field: tag, first byte, byte after the last, in the message. At most
-- 4,096 fields."; and refusal 12. Assumes nothing.
--
--   row_count fields                          the number of whole rows
--   tag_of, first_of, past_of fields position   the three words of a row
--   is_bad_field fields message_length position "a field that starts behind its end or ends behind the message"
--   bad_from fields message_length rows position   the first bad field among so many rows from the position on
--   table_check_of fields message_length        row 12 of the refusals: whether it finds something, and its place
--   fields_of fields message                  the fields as the walk sees them
use Rattle.std.specs.Prelude.{ℕ, zero, suc, ◌+◌, ◌*◌, ◌-◌, ◌/◌, ◌%◌, Bool, not, ◌||◌, List, length, get_or, take, drop, if◌then◌else◌, Result, Ok, Err}
use Rattle.ascii.specs.Notation.{◌≡ᵇ◌, ◌<ᵇ◌}
use Rattle.field_table.specs.WalkInput.{Fields}
use Rattle.refusals.specs.declared.refusal.Refusal.{Refusal}
use Rattle.refusals.specs.declared.refusal.Refusal.TheVariants.{BadField}

abbrev pub row_count : List ℕ → ℕ
row_count fields = length fields / 3

abbrev pub tag_of : List ℕ → ℕ → ℕ
tag_of fields position = get_or fields (3 * position) 0

abbrev pub first_of : List ℕ → ℕ → ℕ
first_of fields position = get_or fields (3 * position + 1) 0

abbrev pub past_of : List ℕ → ℕ → ℕ
past_of fields position = get_or fields (3 * position + 2) 0

unfoldable pub is_bad_field : List ℕ → ℕ → ℕ → Bool
is_bad_field fields message_length position = past_of fields position <ᵇ first_of fields position || message_length <ᵇ past_of fields position

-- "first such field, from 1"
unfoldable pub bad_from : List ℕ → ℕ → ℕ → ℕ → Result Unit Refusal
bad_from fields message_length zero position = Ok tt
bad_from fields message_length (suc rows) position =
    if is_bad_field fields message_length position
    then Err (BadField (suc position))
    else bad_from fields message_length rows (suc position)

-- "words not in threes or over 4,096 fields; else a field .."
unfoldable pub table_check_of : List ℕ → ℕ → Result Unit Refusal
table_check_of fields message_length =
    if not (length fields % 3 ≡ᵇ 0) || 4096 <ᵇ row_count fields
    then Err (BadField 0)
    else bad_from fields message_length (row_count fields) 0

abbrev pub fields_of : List ℕ → List ℕ → Fields
fields_of fields message = record {
  field_count = row_count fields;
  tag_at = tag_of fields;
  value_at = λ position. take (past_of fields position - first_of fields position) (drop (first_of fields position) message);
}
