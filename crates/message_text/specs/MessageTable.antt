-- What the field table of an accepted message text says (document 01, 'One list in full'): a field for each line, with the line's tag, and all behind its first `=` for
-- its value; row 12 finds nothing in it where it has at most 4,096 fields; the type is the value of the first line whose tag is 35. Assumes nothing.
--
--   table-says                          each row says what its line says
--   table-accepted, table-many          what row 12 finds in the table
--   table-written                       the words that `read_message` wrote are the table
--   type-says, type-inside              the stretch of the type holds the value of the first 35, and lies in the text
use Rattle.std.proofs.Math.Path.{◌≡◌}
use Rattle.std.specs.Prelude.{refl, Bool, true, false, List, [], ◌∷◌, ◌++◌, eqb, leb, ltb, take, drop, if◌then◌else◌, Option, Some, None, Result, Ok, Err}
use Rattle.std.proofs.Common.{◌∙◌, append_assoc, arith, length-append, length-drop, take_at, ltb-false}
use Prim.Native.Nat.{ℕ, zero, suc, ◌+◌, ◌*◌, ◌-◌, ◌≤◌, ◌<◌}
use Rattle.std.proofs.Math.ListN.{length}
use Rattle.std.proofs.Math.Seq.{drop-append-add}
use Rattle.std.proofs.lemmas.List.{drop-append-le}
use Rattle.ascii.specs.Bytes.{non_empty}
use Rattle.refusals.specs.declared.refusal.Refusal.TheVariants.{TextTooLong, UnknownForm, BadField, SpaceShort}
use Rattle.lines.specs.Lines.{position_of, behind, Pieces, last, piece, lines_of, line_feed}
use Rattle.field_table.specs.FieldTable.{row_count, table_check_of}
use Rattle.field_table.specs.FieldTableLaws.{table_check_of-accepted, table_check_of-many}
use Rattle.message_text.specs.MessageText.{equals_sign, field_line_of, rows_with, rows_from, table_of, on_field, count_from, message_text_of, space_answer, space_with, read_message_of, fields_in}
use Rattle.message_text.specs.TableSays.{line_at, RowSays, TypeSays}
use Rattle.message_text.specs.MessageTextLaws.{Says, field_line_of-says, joined, joined-lines, count_from-last, table_of_length, table_of_few}
use Rattle.message_text.specs.MessageType.{stretch, type_tag, type_place_of, type_with, type_in}
use Rattle.refusals.specs.declared.refusal.Refusal.{Refusal}

-- ---- the value of a line, where the text has `prior` before the line and `rest` behind it

value-part : (prior line rest : List ℕ) (value : ℕ) → value ≤ length line
    → take (length prior + length line - (length prior + value)) (drop (length prior + value) (prior ++ (line ++ rest))) ≡ drop value line
value-part prior line rest value within =
    let size : length (drop value line) ≡ length prior + length line - (length prior + value) = omega (arith, length-drop value line) in
    rw (drop-append-add prior (line ++ rest) value, drop-append-le value line rest within) (take_at (drop value line) rest (length prior + length line - (length prior + value)) size)

value_behind : (prior line rest : List ℕ) (tag value : ℕ) → Says line tag value
    → take (length prior + length line - (length prior + value)) (drop (length prior + value) (prior ++ (line ++ rest))) ≡ behind equals_sign line
value_behind prior line rest tag value says =
    let begins : value ≡ suc (position_of equals_sign line) = omega (arith, says.value_behind) in
    value-part prior line rest value says.within ∙ rw begins

-- what stands before the next line
next-prior : (prior line : List ℕ) → length ((prior ++ line) ++ (line_feed ∷ [])) ≡ length prior + length line + 1
next-prior prior line = omega (arith, length-append (prior ++ line) (line_feed ∷ []), length-append prior line)

next-text : (prior line others : List ℕ) → prior ++ (line ++ (line_feed ∷ others)) ≡ ((prior ++ line) ++ (line_feed ∷ [])) ++ others
next-text prior line others = simp append_assoc

-- ---- the rows

first-row : (prior line rest others : List ℕ) (tag value : ℕ) → Says line tag value
    → RowSays (tag ∷ (length prior + value) ∷ (length prior + length line) ∷ others) (prior ++ (line ++ rest)) line 0
first-row prior line rest others tag value says = record {
  tag_before = says.tag_before;
  value_behind = value_behind prior line rest tag value says;
  ordered = omega (arith, says.within);
  inside = omega (arith, length-append prior (line ++ rest), length-append line rest);
}

later-row : (table text line : List ℕ) (tag first past position : ℕ) → RowSays table text line position → RowSays (tag ∷ first ∷ past ∷ table) text line (suc position)
later-row table text line tag first past position row =
    let tag-place : 3 * suc position ≡ suc (suc (suc (3 * position))) = omega arith in
    let first-place : 3 * suc position + 1 ≡ suc (suc (suc (3 * position + 1))) = omega arith in
    let past-place : 3 * suc position + 2 ≡ suc (suc (suc (3 * position + 2))) = omega arith in
    record {
      tag_before = rw tag-place row.tag_before;
      value_behind = rw (first-place, past-place) row.value_behind;
      ordered = rw (first-place, past-place) row.ordered;
      inside = rw past-place row.inside;
    }

module _ (line : List ℕ) (others : Pieces) (prior : List ℕ) (count total : ℕ) where
  row_by : (field : Option (ℕ × ℕ)) → field_line_of line ≡ field
      → on_field field (count_from (count + 1) others) (Err (UnknownForm (count + 1))) ≡ Ok total
      → ((position : ℕ) → count_from (count + 1) others ≡ Ok total → count + 1 + position < total
      → RowSays (rows_from (length prior + length line + 1) others) (prior ++ (line ++ (line_feed ∷ joined others))) (line_at position others) position)
      → (position : ℕ) → count + position < total
      → RowSays (rows_with (length prior) (length prior + length line) field (rows_from (length prior + length line + 1) others)) (prior ++ (line ++ (line_feed ∷ joined others)))
      (line_at position (piece line others)) position
  unfolding line_at
  row_by None says refused deeper position below = let zero_one : ◌≡◌ {A = ℕ} 0 1 = cc in absurd (omega arith)
  row_by (Some (tag, value)) says accepted deeper zero below =
      first-row prior line (line_feed ∷ joined others) (rows_from (length prior + length line + 1) others) tag value (field_line_of-says line tag value says)
  row_by (Some (tag, value)) says accepted deeper (suc position) below =
      later-row (rows_from (length prior + length line + 1) others) (prior ++ (line ++ (line_feed ∷ joined others))) (line_at position others)
      tag (length prior + value) (length prior + length line) position (deeper position accepted (omega arith))

rows_say : (lines : Pieces) (prior : List ℕ) (count total : ℕ) → count_from count lines ≡ Ok total
    → (position : ℕ) → count + position < total
    → RowSays (rows_from (length prior) lines) (prior ++ joined lines) (line_at position lines) position
unfolding count_from rows_from joined
rows_say (last bytes) prior count total accepted position below = absurd (omega (arith, count_from-last count total (non_empty bytes) accepted))
rows_say (piece line others) prior count total accepted position below =
    row_by line others prior count total (field_line_of line) refl accepted
    (λ further accepts under.
    rw (← next-prior prior line, next-text prior line (joined others)) (rows_say others ((prior ++ line) ++ (line_feed ∷ [])) (count + 1) total accepts further under))
    position below

-- ---- the type

module _ (line : List ℕ) (others : Pieces) (prior : List ℕ) (count total : ℕ) where
  type-choice : (here : Bool) (tag value : ℕ) (rows : List ℕ) → Says line tag value
      → TypeSays (type_place_of rows) (prior ++ (line ++ (line_feed ∷ joined others))) (type_in others)
      → TypeSays (if here then stretch (length prior + value) (length prior + length line) else type_place_of rows) (prior ++ (line ++ (line_feed ∷ joined others)))
      (if here then behind equals_sign line else type_in others)
  type-choice true tag value rows says deeper = record {
    holds = value_behind prior line (line_feed ∷ joined others) tag value says;
    ordered = omega (arith, says.within);
    inside = omega (arith, length-append prior (line ++ (line_feed ∷ joined others)), length-append line (line_feed ∷ joined others));
  }
  type-choice false tag value rows says deeper = deeper

  type-by : (field : Option (ℕ × ℕ)) → field_line_of line ≡ field
      → on_field field (count_from (count + 1) others) (Err (UnknownForm (count + 1))) ≡ Ok total
      → (count_from (count + 1) others ≡ Ok total
      → TypeSays (type_place_of (rows_from (length prior + length line + 1) others)) (prior ++ (line ++ (line_feed ∷ joined others))) (type_in others))
      → TypeSays (type_place_of (rows_with (length prior) (length prior + length line) field (rows_from (length prior + length line + 1) others)))
      (prior ++ (line ++ (line_feed ∷ joined others))) (type_with line field (type_in others))
  unfolding type_place_of
  type-by None says refused deeper = let zero_one : ◌≡◌ {A = ℕ} 0 1 = cc in absurd (omega arith)
  type-by (Some (tag, value)) says accepted deeper =
      type-choice (eqb tag type_tag) tag value (rows_from (length prior + length line + 1) others) (field_line_of-says line tag value says) (deeper accepted)

type-rows : (lines : Pieces) (prior : List ℕ) (count total : ℕ) → count_from count lines ≡ Ok total
    → TypeSays (type_place_of (rows_from (length prior) lines)) (prior ++ joined lines) (type_in lines)
unfolding count_from rows_from joined type_place_of type_in
type-rows (last bytes) prior count total accepted = record { holds = refl; ordered = omega arith; inside = omega arith }
type-rows (piece line others) prior count total accepted =
    type-by line others prior count total (field_line_of line) refl accepted
    (λ accepts. rw (← next-prior prior line, next-text prior line (joined others)) (type-rows others ((prior ++ line) ++ (line_feed ∷ [])) (count + 1) total accepts))

-- ---- an accepted text

accepted-by : (text : List ℕ) (count : ℕ) (long : Bool) → ltb 65536 (length text) ≡ long
    → (if long then Err TextTooLong else count_from 0 (lines_of text)) ≡ Ok count
    → (count_from 0 (lines_of text) ≡ Ok count) × (length text ≤ 65536)
accepted-by text count true test refused = let zero_one : ◌≡◌ {A = ℕ} 0 1 = cc in absurd (omega arith)
accepted-by text count false test accepted = (accepted, ltb-false 65536 (length text) test)

pub accepted-text : (text : List ℕ) (count : ℕ) → message_text_of text ≡ Ok count → (count_from 0 (lines_of text) ≡ Ok count) × (length text ≤ 65536)
unfolding message_text_of
accepted-text text count accepted = accepted-by text count (ltb 65536 (length text)) refl accepted

module _ (text : List ℕ) (count : ℕ) (accepted : message_text_of text ≡ Ok count) where
  counted : count_from 0 (lines_of text) ≡ Ok count
  counted = (accepted-text text count accepted).0

  pub table-length : length (table_of text) ≡ 3 * count
  table-length = table_of_length text count counted

  table-rows : row_count (table_of text) ≡ count
  table-rows = omega (arith, table-length)

  -- a line has at least three bytes
  pub table-few : 3 * count ≤ 65536
  table-few = omega (arith, table-length, table_of_few text, (accepted-text text count accepted).1)

  -- "one tag=value line a field"; "the value is all behind the first ="
  pub table-says : (position : ℕ) → position < count → RowSays (table_of text) text (line_at position (lines_of text)) position
  table-says position below = rw joined-lines at (rows_say (lines_of text) [] 0 count counted position (omega arith))

  -- row 12 finds nothing
  pub table-accepted : count ≤ 4096 → table_check_of (table_of text) (length text) ≡ Ok tt
  table-accepted few =
      (table_check_of-accepted (table_of text) (length text)).1 (record {
        threes = omega (arith, table-length);
        few = omega (arith, table-rows);
        ordered = λ position below. (table-says position (omega (arith, table-rows))).ordered;
        inside = λ position below. (table-says position (omega (arith, table-rows))).inside;
      })

  -- "over 4,096 fields": 12, place 0
  pub table-many : 4096 < count → table_check_of (table_of text) (length text) ≡ Err (BadField 0)
  table-many many = table_check_of-many (table_of text) (length text) (omega (arith, table-length)) (omega (arith, table-rows))

  -- "type from the first 35, else empty"
  pub type-says : TypeSays (type_place_of (table_of text)) text (type_in (lines_of text))
  type-says = rw joined-lines at (type-rows (lines_of text) [] 0 count counted)

-- ---- the words that were lent

written-by : (read : Result ℕ Refusal) (table words : List ℕ) (count : ℕ) → ((total : ℕ) → read ≡ Ok total → length table ≡ 3 * total)
    → space_answer read (length words) ≡ Ok count → (read ≡ Ok count) × (take (3 * count) (space_with read table words) ≡ table)
written-by (Err refusal) table words count size refused = let zero_one : ◌≡◌ {A = ℕ} 0 1 = cc in absurd (omega arith)
written-by (Ok total) table words count size answered = go (leb (3 * total) (length words)) answered
  where
    go : (fits : Bool) → (if fits then Ok total else Err (SpaceShort (3 * total))) ≡ Ok count
        → (◌≡◌ {A = Result ℕ Refusal} (Ok total) (Ok count)) × (take (3 * count) (if fits then table ++ drop (3 * total) words else words) ≡ table)
    go false short = let zero_one : ◌≡◌ {A = ℕ} 0 1 = cc in absurd (omega arith)
    go true same = let is-count : total ≡ count = cc in (same, take_at table (drop (3 * total) words) (3 * count) (omega (arith, size total refl)))

pub table-written : (text words : List ℕ) (count : ℕ) → read_message_of text (length words) ≡ Ok count
    → (message_text_of text ≡ Ok count) × (take (3 * count) (fields_in text words) ≡ table_of text)
unfolding read_message_of fields_in
table-written text words count answered = written-by (message_text_of text) (table_of text) words count (table-length text) answered
