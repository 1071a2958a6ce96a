-- Laws of `MessageText.antt`, in its order: what a line says, the loops over the lines of a text, and how many words the table has. The lines still to be
-- read are those of `drop first text`; a search for the line feed from `first` on stopped at `past`. Assumes nothing.
use Rattle.std.specs.Prelude.{◌≡◌, ℕ, zero, suc, ◌+◌, ◌*◌, ◌≤◌, ◌<◌, Bool, true, false, List, [], ◌∷◌, ◌++◌, eqb, take, if◌then◌else◌, Option, Some, None, Result, Ok, Err}
use Rattle.std.specs.List.{position}
use Rattle.std.specs.Option.{ok_or}
use denote.Ref.{Bor}
use Rattle.std.proofs.Math.Path.{refl, sym}
use Rattle.std.proofs.Common.{ap, ◌∙◌, length-append, eq-eqb, ne_eqb, eqb-true, le-leb, lt-ltb, le-ltb}
use native.Mathlib.Omega.{arith}
use Rattle.std.proofs.Math.Numerals.{add-three}
use Rattle.std.proofs.Math.ListN.{length}
use Rattle.std.proofs.lemmas.List.Edits.{sets, sets-eq}
use Rattle.std.proofs.Math.Seq.{length-sets}
use Rattle.std.proofs.lemmas.Bool.{eqb-false, lt-leb}
use Rattle.ascii.specs.Bytes.{non_empty}
use Rattle.refusals.specs.declared.refusal.Refusal.{Refusal}
use Rattle.refusals.specs.declared.refusal.Refusal.TheVariants.{TextTooLong, UnknownForm, SpaceShort}
use Rattle.lines.specs.Lines.{position_of, before, Pieces, last, piece, longer, cut, lines_of, line_feed}
use Rattle.lines.specs.LinesLaws.{position_of_within, position_of-found, position_of-missing}
use Rattle.lines.specs.TextLines.{GivesLine, IsFirstLine, IsUnended}
use Rattle.lines.specs.LineParts.{no_leading_zero, number_of}
use Rattle.message_text.specs.MessageText.{equals_sign, field_with, field_line_of, rows_with, rows_from, table_of, on_field, count_from, message_text_of, space_answer, space_with, read_message_of, fields_in}

-- ---- field_line_of

module _ (line : List ℕ) (place : ℕ) (found : place ≡ 0 + position_of equals_sign line) where
  pub field_line_of-no_sign : place ≡ length line → field_line_of line ≡ None
  unfolding field_line_of
  field_line_of-no_sign at-end = rw (eq-eqb (position_of equals_sign line) (length line) (omega arith))

  pub field_line_of-number : (place ≡ length line → ⊥) → (number : Option ℕ) → number ≡ number_of (take place line)
      → field_line_of line ≡ field_with (place + 1) number
  unfolding field_line_of
  field_line_of-number before-end read_number reads =
      let position : position_of equals_sign line ≡ place = omega arith in
      let other : position_of equals_sign line ≡ length line → ⊥ = λ same. before-end (omega arith) in
      rw (ne_eqb (position_of equals_sign line) (length line) other, reads, ← position)

-- the same, where the library's `position` looks for the sign
pub field_line_of-missing : (line : List ℕ) → position (λ each. eqb each equals_sign) line ≡ None → field_line_of line ≡ None
field_line_of-missing line missing = field_line_of-no_sign line (length line) (omega (arith, position_of-missing equals_sign line missing)) refl

pub field_line_of-found : (line : List ℕ) (place : ℕ) → position (λ each. eqb each equals_sign) line ≡ Some place
    → field_line_of line ≡ field_with (place + 1) (number_of (take place line))
field_line_of-found line place found =
    let here = position_of-found equals_sign line place found in
    field_line_of-number line place (omega (arith, here)) (λ same. absurd (omega (arith, here))) (number_of (take place line)) refl

-- what a line says of its field: the tag stands before the first `=`, the value begins behind it
pub record Says (line : List ℕ) (tag value : ℕ) : Type 0 where
  pub tag_before : number_of (before equals_sign line) ≡ Some tag
  pub value_behind : value ≡ position_of equals_sign line + 1
  pub some_tag : 2 ≤ value
  pub within : value ≤ length line

-- a tag has a digit
digit-before : (line : List ℕ) (tag position : ℕ) → number_of (take position line) ≡ Some tag → 1 ≤ position
unfolding number_of non_empty no_leading_zero
digit-before line tag zero reads = let zero_one : ◌≡◌ {A = ℕ} 0 1 = cc in absurd (omega arith)
digit-before line tag (suc position) reads = omega arith

says-by : (line : List ℕ) (tag value : ℕ) (none : Bool) (number : Option ℕ)
    → eqb (position_of equals_sign line) (length line) ≡ none
    → number_of (before equals_sign line) ≡ number
    → (if none then None else field_with (position_of equals_sign line + 1) number) ≡ Some (tag, value)
    → Says line tag value
says-by line tag value true read_number at-end reads says = let zero_one : ◌≡◌ {A = ℕ} 0 1 = cc in absurd (omega arith)
says-by line tag value false None inside reads says = let zero_one : ◌≡◌ {A = ℕ} 0 1 = cc in absurd (omega arith)
says-by line tag value false (Some other) inside reads says =
    let same : ◌≡◌ {A = ℕ × ℕ} (other, position_of equals_sign line + 1) (tag, value) = cc in
    let is-tag : other ≡ tag = ap (λ (pair : ℕ × ℕ). pair.0) same in
    let is-value : position_of equals_sign line + 1 ≡ value = ap (λ (pair : ℕ × ℕ). pair.1) same in
    record {
      tag_before = rw (← is-tag) reads;
      value_behind = sym is-value;
      some_tag = omega (arith, digit-before line other (position_of equals_sign line) reads);
      within = omega (arith, position_of_within equals_sign line, eqb-false (position_of equals_sign line) (length line) inside);
    }

pub field_line_of-says : (line : List ℕ) (tag value : ℕ) → field_line_of line ≡ Some (tag, value) → Says line tag value
unfolding field_line_of
field_line_of-says line tag value says = says-by line tag value (eqb (position_of equals_sign line) (length line)) (number_of (before equals_sign line)) refl refl says

-- ---- count_from: the loop of `count_fields`

-- the field of a line that the iterator gives
abbrev pub field_in : Option (Bor (List ℕ)) → Option (ℕ × ℕ)
field_in (Some line) = field_line_of line.now
field_in None = None

-- the lines before those that are left are of the form; they are so many
pub record CountSoFar (text : List ℕ) (count : ℕ) (left : List ℕ) : Type 0 where
  pub few : count + length left ≤ length text
  pub rest : count_from 0 (lines_of text) ≡ count_from count (lines_of left)

pub count-begins : (text : List ℕ) → CountSoFar text 0 text
count-begins text = record { few = omega arith; rest = refl }

module _ (text : List ℕ) (count : ℕ) (left : List ℕ) (so_far : CountSoFar text count left) where
  pub count-ends : left ≡ [] → count_from 0 (lines_of text) ≡ Ok count
  unfolding count_from non_empty cut
  count-ends none = so_far.rest ∙ rw none refl

  -- the field of the next line, or of the bytes after the last line feed
  module _ (given : Option (Bor (List ℕ))) (left' : List ℕ) (gives : GivesLine left (Some given) left') (field : Option (ℕ × ℕ)) (reads : field ≡ field_in given) where
    pub count-stops : (refusal : Refusal) → ok_or field (UnknownForm (count + 1)) ≡ Err refusal → count_from 0 (lines_of text) ≡ Err refusal
    unfolding count_from
    count-stops refusal refused = so_far.rest ∙ stops given gives (rw reads at refused)
      where
        stops : (each : Option (Bor (List ℕ))) → GivesLine left (Some each) left' → ok_or (field_in each) (UnknownForm (count + 1)) ≡ Err refusal
            → count_from count (lines_of left) ≡ Err refusal
        stops None unended same = let is : UnknownForm (count + 1) ≡ refusal = cc in rw (unended.0.uncut, unended.0.some_byte, is)
        stops (Some line) first same = rw first.cut_off (line_stops (field_line_of line.now) same)
          where
            line_stops : (read : Option (ℕ × ℕ)) → ok_or read (UnknownForm (count + 1)) ≡ Err refusal
                → on_field read (count_from (count + 1) (lines_of left')) (Err (UnknownForm (count + 1))) ≡ Err refusal
            line_stops (Some pair) other = cc
            line_stops None same = let is : UnknownForm (count + 1) ≡ refusal = cc in rw is

    pub count-goes_on : (pair : ℕ × ℕ) → ok_or field (UnknownForm (count + 1)) ≡ Ok pair → CountSoFar text (count + 1) left'
    unfolding count_from
    count-goes_on pair taken = goes_on given gives (rw reads at taken)
      where
        goes_on : (each : Option (Bor (List ℕ))) → GivesLine left (Some each) left' → ok_or (field_in each) (UnknownForm (count + 1)) ≡ Ok pair
            → CountSoFar text (count + 1) left'
        goes_on None unended other = cc
        goes_on (Some line) first same = record {
          few = omega (arith, so_far.few, ap length first.bytes, length-append line.now (line_feed ∷ left'));
          rest = so_far.rest ∙ rw first.cut_off (line_goes_on (field_line_of line.now) same);
        }
          where
            line_goes_on : (read : Option (ℕ × ℕ)) → ok_or read (UnknownForm (count + 1)) ≡ Ok pair
                → on_field read (count_from (count + 1) (lines_of left')) (Err (UnknownForm (count + 1))) ≡ count_from (count + 1) (lines_of left')
            line_goes_on (Some read_pair) is = refl
            line_goes_on None other = cc

-- ---- rows_from: the loop of `put_fields`

-- the rows of the lines before those that are left, which begin at `first`, are written, up to `at`
pub record RowsSoFar (text words₀ words : List ℕ) (at first : ℕ) (left : List ℕ) : Type 0 where
  pub place : first + length left ≡ length text
  pub same : length words ≡ length words₀
  pub room : at + length (rows_from first (lines_of left)) ≤ length words
  pub rest : sets words₀ 0 (table_of text) ≡ sets words at (rows_from first (lines_of left))

pub rows_begin : (text words : List ℕ) → length (table_of text) ≤ length words → RowsSoFar text words words 0 0 text
rows_begin text words room = record { place = omega arith; same = refl; room = omega arith; rest = refl }

module _ (text words₀ words : List ℕ) (at first : ℕ) (left : List ℕ) (so_far : RowsSoFar text words₀ words at first left) where
  pub rows_end : left ≡ [] → words ≡ sets words₀ 0 (table_of text)
  unfolding rows_from cut
  rows_end none = sym (so_far.rest ∙ rw none refl)

  pub rows_unended : IsUnended left → words ≡ sets words₀ 0 (table_of text)
  unfolding rows_from
  rows_unended unended = sym (so_far.rest ∙ rw unended.uncut refl)

  module _ (line left' : List ℕ) (is : IsFirstLine left line left') (field : Option (ℕ × ℕ)) (reads : field ≡ field_line_of line) where
    line-length : length left ≡ length line + 1 + length left'
    line-length = omega (arith, ap length is.bytes, length-append line (line_feed ∷ left'))

    rows_line : rows_from first (lines_of left) ≡ rows_with first (first + length line) field (rows_from (first + length line + 1) (lines_of left'))
    unfolding rows_from
    rows_line = rw (is.cut_off, ← reads)

    pub rows_stop : field ≡ None → words ≡ sets words₀ 0 (table_of text)
    rows_stop none = sym (so_far.rest ∙ rw (rows_line, none))

    module _ (tag value : ℕ) (some : field ≡ Some (tag, value)) where
      row_line : rows_from first (lines_of left) ≡ tag ∷ (first + value) ∷ (first + length line) ∷ rows_from (first + length line + 1) (lines_of left')
      row_line = rows_line ∙ rw some

      pub room_of_rows : at + 3 ≤ length words
      room_of_rows = omega (arith, so_far.room, ap length row_line)

      -- the line lies in the text, the value in the line
      pub row-value : (first + length line < length text) × (first + value ≤ first + length line)
      row-value =
          let says = field_line_of-says line tag value (sym reads ∙ some) in
          (omega (arith, so_far.place, line-length), omega (arith, says.within))

      pub rows_go_on : (words' : List ℕ) → words' ≡ sets words at (tag ∷ (first + value) ∷ (first + length line) ∷ [])
          → RowsSoFar text words₀ words' (at + 3) (first + length line + 1) left'
      rows_go_on words' put =
          let keeps : length words' ≡ length words = rw put (length-sets words at (tag ∷ (first + value) ∷ (first + length line) ∷ [])) in
          record {
            place = omega (arith, so_far.place, line-length);
            same = keeps ∙ so_far.same;
            room = omega (arith, so_far.room, ap length row_line, keeps);
            rest = so_far.rest ∙ rw (row_line, put, add-three);
          }

-- ---- the text of its lines

unfoldable pub joined : Pieces → List ℕ
joined (last bytes) = bytes
joined (piece line others) = line ++ (line_feed ∷ joined others)

joined-longer : (byte : ℕ) (lines : Pieces) → joined (longer byte lines) ≡ byte ∷ joined lines
unfolding joined longer
joined-longer byte (last bytes) = refl
joined-longer byte (piece line others) = refl

joined_by : (here : Bool) (first : ℕ) (lines : Pieces) → (here ≡ true → first ≡ line_feed)
    → joined (if here then piece [] lines else longer first lines) ≡ first ∷ joined lines
joined_by true first lines is-feed = unfold joined in rw (is-feed refl)
joined_by false first lines is-feed = joined-longer first lines

pub joined-lines : (text : List ℕ) → joined (lines_of text) ≡ text
unfolding cut
joined-lines [] = unfold joined in refl
joined-lines (first ∷ rest) =
    joined_by (eqb first line_feed) first (cut line_feed rest) (eqb-true first line_feed) ∙ ap (λ (others : List ℕ). first ∷ others) (joined-lines rest)

-- ---- the number of words

count_by : (first past count total : ℕ) (others : Pieces) (field : Option (ℕ × ℕ))
    → (count_from (count + 1) others ≡ Ok total → 3 * (count + 1) + length (rows_from (past + 1) others) ≡ 3 * total)
    → on_field field (count_from (count + 1) others) (Err (UnknownForm (count + 1))) ≡ Ok total
    → 3 * count + length (rows_with first past field (rows_from (past + 1) others)) ≡ 3 * total
count_by first past count total others (Some (tag, value)) deeper accepted = omega (arith, deeper accepted)
count_by first past count total others None deeper refused = let zero_one : ◌≡◌ {A = ℕ} 0 1 = cc in absurd (omega arith)

pub count_from-last : (count total : ℕ) (some : Bool) → (if some then Err (UnknownForm (count + 1)) else Ok count) ≡ Ok total → count ≡ total
count_from-last count total true refused = let zero_one : ◌≡◌ {A = ℕ} 0 1 = cc in absurd (omega arith)
count_from-last count total false accepted = cc

count_from-words : (lines : Pieces) (first count total : ℕ) → count_from count lines ≡ Ok total → 3 * count + length (rows_from first lines) ≡ 3 * total
unfolding count_from rows_from
count_from-words (last bytes) first count total accepted = omega (arith, count_from-last count total (non_empty bytes) accepted)
count_from-words (piece line others) first count total accepted =
    count_by first (first + length line) count total others (field_line_of line) (count_from-words others (first + length line + 1) (count + 1) total) accepted

-- three words a field
pub table_of_length : (text : List ℕ) (count : ℕ) → count_from 0 (lines_of text) ≡ Ok count → length (table_of text) ≡ 3 * count
table_of_length text count accepted = omega (arith, count_from-words (lines_of text) 0 0 count accepted)

-- a row has three words, its line at least three bytes
few-by : (first past : ℕ) (line rows more : List ℕ) (field : Option (ℕ × ℕ)) → field_line_of line ≡ field → length rows ≤ length more
    → length (rows_with first past field rows) ≤ length line + (1 + length more)
few-by first past line rows more (Some (tag, value)) says deeper = let said = field_line_of-says line tag value says in omega (arith, said.some_tag, said.within)
few-by first past line rows more None says deeper = omega arith

rows_from_few : (lines : Pieces) (first : ℕ) → length (rows_from first lines) ≤ length (joined lines)
unfolding rows_from joined
rows_from_few (last bytes) first = omega arith
rows_from_few (piece line others) first =
    let next = first + length line + 1 in
    let few = few-by first (first + length line) line (rows_from next others) (joined others) (field_line_of line) refl (rows_from_few others next) in
    omega (arith, length-append line (line_feed ∷ joined others))

pub table_of_few : (text : List ℕ) → length (table_of text) ≤ length text
table_of_few text = omega (arith, rows_from_few (lines_of text) 0, ap length (joined-lines text))

-- ---- the answer

module _ (text words : List ℕ) (count : ℕ) (accepted : count_from 0 (lines_of text) ≡ Ok count) where
  pub space_short : length words < 3 * count → space_answer (Ok count) (length words) ≡ Err (SpaceShort (3 * count))
  space_short short = rw (lt-leb (3 * count) (length words) short)

  pub space-kept : length words < 3 * count → space_with (Ok count) (table_of text) words ≡ words
  space-kept short = rw (lt-leb (3 * count) (length words) short)

  module _ (enough : 3 * count ≤ length words) where
    pub space-enough : space_answer (Ok count) (length words) ≡ Ok count
    space-enough = rw (le-leb (3 * count) (length words) enough)

    pub space-written : space_with (Ok count) (table_of text) words ≡ sets words 0 (table_of text)
    space-written =
        let size = table_of_length text count accepted in
        let from_zero : 0 + 3 * count ≡ 3 * count = omega arith in
        rw (le-leb (3 * count) (length words) enough, sets-eq (table_of text) words 0 (omega arith), size, from_zero)

module _ (text words : List ℕ) where
  pub read-too_long : 65536 < length text → read_message_of text (length words) ≡ Err TextTooLong
  unfolding read_message_of message_text_of
  read-too_long long = rw (lt-ltb 65536 (length text) long)

  pub fields-too_long : 65536 < length text → fields_in text words ≡ words
  unfolding fields_in message_text_of
  fields-too_long long = rw (lt-ltb 65536 (length text) long)

  module _ (short : length text ≤ 65536) (read : Result ℕ Refusal) (counted : read ≡ count_from 0 (lines_of text)) where
    pub read-counted : read_message_of text (length words) ≡ space_answer read (length words)
    unfolding read_message_of message_text_of
    read-counted = rw (le-ltb 65536 (length text) short, counted)

    pub fields-counted : fields_in text words ≡ space_with read (table_of text) words
    unfolding fields_in message_text_of
    fields-counted = rw (le-ltb 65536 (length text) short, counted)
