-- Laws of the lengths of records' lines: a line of a known form is given by its kind, no line has more than 38 bytes (`line_from-few`), and the loop of
-- `text_length`. Assumes nothing.
use Rattle.std.specs.Prelude.{◌≡◌, refl, ℕ, zero, suc, ◌+◌, ◌*◌, ◌-◌, ◌≤◌, ◌<◌, Bool, true, false, cond, List, eqb, leb, ltb, length, take, drop, Some, None, Ok, Err}
use Rattle.std.proofs.Common.{sym, ap, ◌∙◌, length-take, length-drop, drop-drop}
use Rattle.std.proofs.lemmas.Bool.{false≢true}
use native.Mathlib.Omega.{arith}
use Rattle.std.proofs.Math.ListN.{get_or}
use Rattle.line_forms.specs.declared.line.Line.{Line}
use Rattle.line_forms.specs.declared.line.Line.TheVariants.{Def, Value, BeginHeader, BeginTrailer, EndHeader, EndTrailer, Component, Message, Field, Group, Use, End, Unknown}
use Rattle.lines.specs.LineParts.{number_of}
use Rattle.records.specs.Records.{letters_text, holds_letters, holds_value, is_unused, admitted_from, def_from, value_from, message_from, field_from, group_from, use_from, end_of_letters, end_of_number, outer_from, body_from, line_from, lines_from}
use Rattle.records.specs.KnownLines.{is_known, AreKnown}
use Rattle.records.specs.declared.record_kind.RecordKind.{RecordKind}
use Rattle.records.specs.declared.record_kind.UnknownKind.{UnknownKind}
use Rattle.records.specs.RecordKind.{kind_number, kind_numbered}
use Rattle.records.specs.RecordKindLaws.{number-kind_numbered}
use Rattle.records.specs.RecordsLaws.{line_from-kind, line_from-unknown, line_from-part}
use Rattle.records.specs.WordTextLaws.{letters_length-range, holds_value-length}
use Rattle.records.specs.LineLengths.{app_length, length_of, text_length}
use Rattle.records.specs.TypeTextLaws.{type_lengths-few}
use Rattle.records.specs.NumeralLaws.{digit_count-few}

-- ---- a line of a known form

known-one : (test : Bool) (line : Line) → is_known (cond test line Unknown) ≡ true → cond test line Unknown ≡ line
unfolding is_known
known-one true line known = refl
known-one false line known = absurd (false≢true known)

known_two : (first second : Bool) (line : Line) → is_known (cond first (cond second line Unknown) Unknown) ≡ true → cond first (cond second line Unknown) Unknown ≡ line
unfolding is_known
known_two true second line known = known-one second line known
known_two false second line known = absurd (false≢true known)

known-three : (first second third : Bool) (line : Line) → is_known (cond first (cond second (cond third line Unknown) Unknown) Unknown) ≡ true
    → cond first (cond second (cond third line Unknown) Unknown) Unknown ≡ line
unfolding is_known
known-three true second third line known = known_two second third line known
known-three false second third line known = absurd (false≢true known)

module _ (words : List ℕ) (known : is_known (line_from words) ≡ true) where
  pub known-def : get_or words 0 0 ≡ 1 → line_from words ≡ Def (get_or words 1 0) (get_or words 2 0)
  known-def kind =
      let line = line_from-kind words 1 kind in
      sym line ∙ known_two (ltb (get_or words 2 0) 34) (is_unused 3 words) _ (rw (← line) at known)

  pub known-value : get_or words 0 0 ≡ 2 → line_from words ≡ Value (admitted_from words)
  known-value kind =
      let line = line_from-kind words 2 kind in
      sym line ∙ known_two (leb 1 (get_or words 1 0)) (holds_value (get_or words 1 0) (drop 2 words)) _ (rw (← line) at known)

  pub known-begin_header : get_or words 0 0 ≡ 3 → line_from words ≡ BeginHeader
  known-begin_header kind = let line = line_from-kind words 3 kind in sym line ∙ known-one (is_unused 1 words) _ (rw (← line) at known)

  pub known-begin_trailer : get_or words 0 0 ≡ 4 → line_from words ≡ BeginTrailer
  known-begin_trailer kind = let line = line_from-kind words 4 kind in sym line ∙ known-one (is_unused 1 words) _ (rw (← line) at known)

  pub known-component : get_or words 0 0 ≡ 5 → line_from words ≡ Component (get_or words 1 0)
  known-component kind = let line = line_from-kind words 5 kind in sym line ∙ known-one (is_unused 2 words) _ (rw (← line) at known)

  pub known-message : get_or words 0 0 ≡ 6 → line_from words ≡ Message (get_or words 1 0) (eqb (get_or words 2 0) 1)
  known-message kind =
      let line = line_from-kind words 6 kind in
      sym line ∙ known-three (holds_letters (get_or words 1 0)) (leb (get_or words 2 0) 1) (is_unused 3 words) _ (rw (← line) at known)

  pub known-field : get_or words 0 0 ≡ 7 → line_from words ≡ Field (get_or words 1 0) (eqb (get_or words 2 0) 1)
  known-field kind =
      let line = line_from-kind words 7 kind in
      sym line ∙ known_two (leb (get_or words 2 0) 1) (is_unused 3 words) _ (rw (← line) at known)

  pub known-group : get_or words 0 0 ≡ 8 → line_from words ≡ Group (get_or words 1 0) (get_or words 2 0) (eqb (get_or words 3 0) 1)
  known-group kind =
      let line = line_from-kind words 8 kind in
      sym line ∙ known_two (leb (get_or words 3 0) 1) (is_unused 4 words) _ (rw (← line) at known)

  pub known-use : get_or words 0 0 ≡ 9 → line_from words ≡ Use (get_or words 1 0) (eqb (get_or words 2 0) 1)
  known-use kind =
      let line = line_from-kind words 9 kind in
      sym line ∙ known_two (leb (get_or words 2 0) 1) (is_unused 3 words) _ (rw (← line) at known)

  pub known-end_header : get_or words 0 0 ≡ 10 → line_from words ≡ EndHeader
  known-end_header kind = let line = line_from-kind words 10 kind in sym line ∙ known-one (is_unused 1 words) _ (rw (← line) at known)

  pub known-end_trailer : get_or words 0 0 ≡ 11 → line_from words ≡ EndTrailer
  known-end_trailer kind = let line = line_from-kind words 11 kind in sym line ∙ known-one (is_unused 1 words) _ (rw (← line) at known)

  pub known-end_letters : get_or words 0 0 ≡ 12 → line_from words ≡ End (number_of (letters_text (get_or words 1 0))) (Some (get_or words 1 0))
  known-end_letters kind =
      let line = line_from-kind words 12 kind in
      sym line ∙ known_two (holds_letters (get_or words 1 0)) (is_unused 2 words) _ (rw (← line) at known)

  pub known-end_number : get_or words 0 0 ≡ 13 → line_from words ≡ End (Some (get_or words 1 0)) None
  known-end_number kind =
      let line = line_from-kind words 13 kind in
      sym line ∙ known_two (leb 10000 (get_or words 1 0)) (is_unused 2 words) _ (rw (← line) at known)

  pub other_unknown : Unknown ≡ line_from words → 0 ≡ length_of (line_from words) + 1
  unfolding is_known
  other_unknown none = absurd (false≢true (rw (← none) at known))

  -- the kind of the record, by its number
  pub known-numbered : (kind : RecordKind) → Ok kind ≡ kind_numbered (get_or words 0 0) → get_or words 0 0 ≡ kind_number kind
  known-numbered kind numbered = number-kind_numbered (get_or words 0 0) kind (sym numbered)

  pub known-kind : (unknown : UnknownKind) → Err unknown ≡ kind_numbered (get_or words 0 0) → ⊥
  unfolding is_known
  known-kind unknown numbered = false≢true (rw (← line_from-unknown words unknown numbered) at known)

-- ---- no line has more than 38 bytes

abbrev Few : Line → Type 0
Few line = length_of line ≤ 38

few-either : (test : Bool) (this that : Line) → Few this → Few that → Few (cond test this that)
few-either true this that few other = few
few-either false this that other few = few

unknown_few : Few Unknown
unfolding length_of
unknown_few = omega arith

few-one : (test : Bool) (line : Line) → Few line → Few (cond test line Unknown)
few-one test line few = few-either test line Unknown few unknown_few

few-two : (first second : Bool) (line : Line) → Few line → Few (cond first (cond second line Unknown) Unknown)
few-two first second line few = few-one first (cond second line Unknown) (few-one second line few)

value-by : (words : List ℕ) → length words ≡ 10 → (first second : Bool) → holds_value (get_or words 1 0) (drop 2 words) ≡ second
    → Few (cond first (cond second (Value (admitted_from words)) Unknown) Unknown)
unfolding length_of
value-by words ten true true holds = omega (arith, holds_value-length (get_or words 1 0) (drop 2 words) holds, length-drop 2 words)
value-by words ten true false holds = omega arith
value-by words ten false second holds = omega arith

app_few : (app : Bool) → app_length app ≤ 5
app_few true = omega arith
app_few false = omega arith

module _ (words : List ℕ) (ten : length words ≡ 10) where
  abbrev first_word : ℕ
  first_word = get_or words 1 0

  abbrev second_word : ℕ
  second_word = get_or words 2 0

  def_few : Few (Def first_word second_word)
  unfolding length_of
  def_few = omega (arith, digit_count-few first_word, type_lengths-few second_word)

  message-few : (app : Bool) → Few (Message first_word app)
  unfolding length_of
  message-few app = omega (arith, letters_length-range first_word, app_few app)

  field_few : (required : Bool) → Few (Field first_word required)
  unfolding length_of
  field_few required = omega (arith, digit_count-few first_word)

  group-few : (required : Bool) → Few (Group first_word second_word required)
  unfolding length_of
  group-few required = omega (arith, digit_count-few first_word, digit_count-few second_word)

  use_few : (required : Bool) → Few (Use first_word required)
  unfolding length_of
  use_few required = omega (arith, digit_count-few first_word)

  component-few : Few (Component first_word)
  unfolding length_of
  component-few = omega (arith, digit_count-few first_word)

  letters-few : Few (End (number_of (letters_text first_word)) (Some first_word))
  unfolding length_of
  letters-few = omega (arith, letters_length-range first_word)

  number_few : Few (End (Some first_word) None)
  unfolding length_of
  number_few = omega (arith, digit_count-few first_word)

  begin_few : Few BeginHeader × (Few BeginTrailer × (Few EndHeader × Few EndTrailer))
  unfolding length_of
  begin_few = (omega arith, (omega arith, (omega arith, omega arith)))

  outer-by : (def value header trailer component message : Bool)
      → Few (
      cond def (def_from words) (
      cond value (value_from words) (
      cond header (cond (is_unused 1 words) BeginHeader Unknown) (
      cond trailer (cond (is_unused 1 words) BeginTrailer Unknown) (
      cond component (cond (is_unused 2 words) (Component first_word) Unknown) (
      cond message (message_from words) Unknown))))))
  outer-by true value header trailer component message = few-two (ltb second_word 34) (is_unused 3 words) _ def_few
  outer-by false true header trailer component message = value-by words ten (leb 1 first_word) (holds_value first_word (drop 2 words)) refl
  outer-by false false true trailer component message = few-one (is_unused 1 words) _ begin_few.0
  outer-by false false false true component message = few-one (is_unused 1 words) _ begin_few.1.0
  outer-by false false false false true message = few-one (is_unused 2 words) _ component-few
  outer-by false false false false false true =
      few-one (holds_letters first_word) _ (few-two (leb second_word 1) (is_unused 3 words) _ (message-few (eqb second_word 1)))
  outer-by false false false false false false = unknown_few

  outer-few : Few (outer_from words)
  unfolding outer_from
  outer-few =
      let kind = get_or words 0 0 in
      outer-by (eqb kind 1) (eqb kind 2) (eqb kind 3) (eqb kind 4) (eqb kind 5) (eqb kind 6)

  body-by : (field group uses header trailer letters number : Bool)
      → Few (
      cond field (field_from words) (
      cond group (group_from words) (
      cond uses (use_from words) (
      cond header (cond (is_unused 1 words) EndHeader Unknown) (
      cond trailer (cond (is_unused 1 words) EndTrailer Unknown) (
      cond letters (end_of_letters words) (
      cond number (end_of_number words) Unknown)))))))
  body-by true group uses header trailer letters number = few-two (leb second_word 1) (is_unused 3 words) _ (field_few (eqb second_word 1))
  body-by false true uses header trailer letters number = few-two (leb (get_or words 3 0) 1) (is_unused 4 words) _ (group-few (eqb (get_or words 3 0) 1))
  body-by false false true header trailer letters number = few-two (leb second_word 1) (is_unused 3 words) _ (use_few (eqb second_word 1))
  body-by false false false true trailer letters number = few-one (is_unused 1 words) _ begin_few.1.1.0
  body-by false false false false true letters number = few-one (is_unused 1 words) _ begin_few.1.1.1
  body-by false false false false false true number = few-two (holds_letters first_word) (is_unused 2 words) _ letters-few
  body-by false false false false false false true = few-two (leb 10000 first_word) (is_unused 2 words) _ number_few
  body-by false false false false false false false = unknown_few

  body-few : Few (body_from words)
  unfolding body_from
  body-few =
      let kind = get_or words 0 0 in
      body-by (eqb kind 7) (eqb kind 8) (eqb kind 9) (eqb kind 10) (eqb kind 11) (eqb kind 12) (eqb kind 13)

  pub line_from-few : length_of (line_from words) ≤ 38
  unfolding line_from
  line_from-few = few-either (leb (get_or words 0 0) 6) (outer_from words) (body_from words) outer-few body-few

-- ---- text_length: a record more, and the loop of `text_length`

pub text_length-after : (before after : ℕ) (words : List ℕ)
    → text_length (lines_from (before + after) words) ≡ text_length (lines_from before words) + text_length (lines_from after (drop (10 * before) words))
unfolding lines_from text_length
text_length-after zero after words = let all : 0 + after ≡ after = omega arith in rw all (omega arith)
text_length-after (suc before) after words =
    let next : suc before + after ≡ suc (before + after) = omega arith in
    let place : 10 + 10 * before ≡ 10 * suc before = omega arith in
    let rest = rw (drop-drop (10 * before) 10 words, place) at (text_length-after before after (drop 10 words)) in
    ap (λ (count : ℕ). text_length (lines_from count words)) next ∙ omega (arith, rest)

pub text_length-behind : (lines : ℕ) (words : List ℕ)
    → text_length (lines_from (lines + 1) words) ≡ text_length (lines_from lines words) + (length_of (line_from (take 10 (drop (10 * lines) words))) + 1)
unfolding lines_from text_length
text_length-behind lines words = omega (arith, text_length-after lines 1 words)

-- the ten words that `&words[at..past]` lends
module _ (words : List ℕ) (at past : ℕ) (ten : past ≡ at + 10) where
  pub part-known : is_known (line_from (take 10 (drop at words))) ≡ true → is_known (line_from (take (past - at) (drop at words))) ≡ true
  part-known known = rw (line_from-part words at past ten) known

  pub part_length : (len : ℕ) → len ≡ length_of (line_from (take (past - at) (drop at words))) + 1 → len ≡ length_of (line_from (take 10 (drop at words))) + 1
  part_length len is = is ∙ rw (line_from-part words at past ten)

pub length-few : (words : List ℕ) (at : ℕ) → at + 10 ≤ length words → (len : ℕ) → len ≡ length_of (line_from (take 10 (drop at words))) + 1 → len ≤ 39
length-few words at inside len is = omega (arith, line_from-few (take 10 (drop at words)) (simp (length-take, length-drop) (omega arith)))

-- the first `done` lines have so many bytes
pub record LengthSoFar (words : List ℕ) (lines total done at : ℕ) : Type 0 where
  pub within : done ≤ lines
  pub place : at ≡ 4 + 10 * done
  pub few : total ≤ 39 * done
  pub sum : total ≡ text_length (lines_from done (drop 4 words))

pub length-begins : (words : List ℕ) (lines : ℕ) → LengthSoFar words lines 0 0 4
unfolding lines_from text_length
length-begins words lines = record { within = omega arith; place = refl; few = omega arith; sum = refl }

module _ (words : List ℕ) (lines total done at : ℕ) (so_far : LengthSoFar words lines total done at) where
  pub record_known : AreKnown lines (drop 4 words) → done < lines → is_known (line_from (take 10 (drop at words))) ≡ true
  record_known known inside =
      let here : drop (10 * done) (drop 4 words) ≡ drop at words = drop-drop (10 * done) 4 words ∙ rw so_far.place in
      rw here at (known done inside)

  pub length-goes_on : done < lines → (len : ℕ) → len ≡ length_of (line_from (take 10 (drop at words))) + 1 → len ≤ 39 → LengthSoFar words lines (total + len) (done + 1) (at + 10)
  length-goes_on inside len is few =
      let here : drop (10 * done) (drop 4 words) ≡ drop at words = drop-drop (10 * done) 4 words ∙ rw so_far.place in
      let more = rw here at (text_length-behind done (drop 4 words)) in
      record {
        within = omega arith;
        place = omega (arith, so_far.place);
        few = omega (arith, so_far.few);
        sum = omega (arith, so_far.sum, more, is);
      }

  pub length-ends : lines ≤ done → total ≡ text_length (lines_from lines (drop 4 words))
  length-ends over = let all : lines ≡ done = omega (arith, so_far.within) in rw all so_far.sum
