-- What is looked up in a dictionary's words (`Definitions.antt`) is what its lines define (`DefinedFields.antt`), for all words that pass the check:
-- the definition of a tag (`definition-found`, `definition-missing`), the values it admits (`admits_value-lines`, `is_enumerated-lines`) and the tags in the
-- index of the definitions (`tags-index`). Assumes nothing.
use Rattle.std.specs.Prelude.{◌≡◌, ℕ, zero, suc, ◌+◌, ◌*◌, ◌-◌, ◌≤◌, ◌<◌, Bool, true, ◌&&◌, ◌||◌, cond, ◌⊎◌, ltb, length, take, drop, if◌then◌else◌, Option, Some, None}
use Rattle.std.proofs.Math.Path.{refl, ap}
use Rattle.std.proofs.Common.{sym, ◌∙◌, inl, inr, arith, length-drop, drop-drop, get_or-drop}
use Rattle.std.proofs.Math.Bool.{false}
use Rattle.std.proofs.lemmas.Bool.{false≢true}
use mathlib.Core.List.{List, [], ◌∷◌, ◌++◌, map, append_assoc}
use Rattle.std.proofs.Math.Dec.{eqb}
use Rattle.std.proofs.Math.ListN.{get_or}
use Rattle.std.proofs.Math.Seq.{take_at}
use borrow.Author.Tests.{ltb-true, ltb-false, lt-ltb, le-ltb, eqb-true, eq-eqb, ne_eqb}
use Rattle.ascii.specs.Notation.{◌<ᵇ◌}
use Rattle.ascii.specs.NotationLaws.{and_left, and_right}
use Rattle.ascii.specs.Bytes.{every}
use Rattle.ascending.specs.Sort.{sorted}
use Rattle.line_forms.specs.declared.line.Line.{Line}
use Rattle.line_forms.specs.declared.line.Line.TheVariants.{Def, Value, BeginHeader, BeginTrailer, EndHeader, EndTrailer, Component, Message, Field, Group, Use, End, Member, RequiredTag, Unknown}
use Rattle.lines.specs.declared.line_parts.Admitted.{Admitted}
use Rattle.lines.specs.Lines.{starts_with, is_same}
use Rattle.lines.specs.LineParts.{is_visible, value_of}
use Rattle.records.specs.Records.{record_of, admitted_from, lines_from, Words32}
use Rattle.records.specs.RecordsLaws.{Held, record_of-length}
use Rattle.records.specs.LineTexts.{value_text}
use Rattle.records.specs.WordTextLaws.{value_text-visible, value_of_value_text}
use Rattle.dictionary.specs.DictionaryWords.{is_of, name_of, names_of, place_of, records_of, word_lines}
use Rattle.dictionary.specs.DictionaryCheck.{tags_at, is_dictionary}
use Rattle.definitions.specs.Definitions.{record_in, definition_at, definition_of, is_same_value, is_among, among_with, is_enumerated, admits_value}
use Rattle.definitions.specs.DefinitionsLaws.{type_told, number_told, Dictionary, is_dictionary-parts}
use Rattle.definitions.specs.IndexLaws.{record_word, record_drop}
use Rattle.definitions.specs.PassAccepted.{AllHeld}
use Rattle.definitions.specs.DefinedFields.{FieldDef, FieldLine, defines, admits, says_nothing, field_line, values_with, values_first, fields_with, fields_in, FoundField, DefinedAs, NotDefined, field_called, field_in, tags_in, is_one_of, is_admitted_by}
use Rattle.definitions.specs.WordLinesLaws.{less_suc, placed_at, lines-counted, lines-held, records-first, word_at, record_in-line, index-names}
use Rattle.records.specs.LinePartReadLaws.{value_text-value_of}

-- ---- the field that a line defines

-- there is an admitted value
abbrev pub has_values : List (List ℕ) → Bool
has_values [] = false
has_values (first ∷ others) = true

-- what the line at a place defines, where it is a `def` line
abbrev pub field_at : List Line → ℕ → FieldDef
field_at lines place = record {
  tag = name_of (get_or lines place Unknown);
  type = get_or (record_of (get_or lines place Unknown)) 2 0;
  values = values_first (drop (suc place) lines);
}

module _ (tag : ℕ) (values : List (List ℕ)) (others : List FieldDef) where
  abbrev Step : Line → Type 0
  Step line =
      field_called tag (fields_with (field_line line) values others)
      ≡ cond (is_of 1 line && eqb (name_of line) tag) (DefinedAs (record { tag = name_of line; type = get_or (record_of line) 2 0; values = values })) (field_called tag others)

  field_step_end : (number : Option ℕ) (letters : Option ℕ) → Step (End number letters)
  unfolding field_called is_of name_of record_of
  field_step_end read_number (Some letters) = refl
  field_step_end (Some number) None = refl
  field_step_end None None = refl

  field_step : (line : Line) → Step line
  unfolding field_called is_of name_of record_of
  field_step (Def other type) = refl
  field_step (Value value) = refl
  field_step BeginHeader = refl
  field_step BeginTrailer = refl
  field_step EndHeader = refl
  field_step EndTrailer = refl
  field_step (Component name) = refl
  field_step (Message letters app) = refl
  field_step (Field other required) = refl
  field_step (Group count delimiter required) = refl
  field_step (Use name required) = refl
  field_step (Member other) = refl
  field_step (RequiredTag other) = refl
  field_step Unknown = refl
  field_step (End number letters) = field_step_end number letters

abbrev field_placed : List Line → ℕ → FoundField
field_placed lines place = if place <ᵇ length lines then DefinedAs (field_at lines place) else NotDefined

placed_by : (test : Bool) (line : Line) (rest : List Line) (place : ℕ) (found : FoundField)
    → found ≡ field_placed rest place
    → cond test (DefinedAs (field_at (line ∷ rest) 0)) found ≡ field_placed (line ∷ rest) (cond test 0 (suc place))
placed_by true line rest place found deeper = rw (lt-ltb 0 (suc (length rest)) (omega arith))
placed_by false line rest place found deeper = rw (← less_suc place (length rest)) deeper

pub field_placed_lem : (lines : List Line) (tag : ℕ) → field_in lines tag ≡ field_placed lines (place_of 1 tag lines)
unfolding fields_in place_of
field_placed_lem [] tag = unfold field_called in refl
field_placed_lem (line ∷ rest) tag =
    field_step tag (values_first rest) (fields_in rest) line
    ∙ placed_by (is_of 1 line && eqb (name_of line) tag) line rest (place_of 1 tag rest) (field_in rest tag) (field_placed_lem rest tag)

-- ---- the tags of the `def` lines

module _ (values : List (List ℕ)) (others : List FieldDef) where
  abbrev Named : Line → Type 0
  Named line =
      cond (is_of 1 line) (name_of line ∷ map (λ (field : FieldDef). field.tag) others) (map (λ (field : FieldDef). field.tag) others)
      ≡ map (λ (field : FieldDef). field.tag) (fields_with (field_line line) values others)

  named_end : (number : Option ℕ) (letters : Option ℕ) → Named (End number letters)
  unfolding is_of name_of record_of
  named_end read_number (Some letters) = refl
  named_end (Some number) None = refl
  named_end None None = refl

  named_step : (line : Line) → Named line
  unfolding is_of name_of record_of
  named_step (Def tag type) = refl
  named_step (Value value) = refl
  named_step BeginHeader = refl
  named_step BeginTrailer = refl
  named_step EndHeader = refl
  named_step EndTrailer = refl
  named_step (Component name) = refl
  named_step (Message letters app) = refl
  named_step (Field tag required) = refl
  named_step (Group count delimiter required) = refl
  named_step (Use name required) = refl
  named_step (Member tag) = refl
  named_step (RequiredTag tag) = refl
  named_step Unknown = refl
  named_step (End number letters) = named_end number letters

tags-named : (lines : List Line) → names_of 1 lines ≡ tags_in lines
unfolding names_of fields_in
tags-named [] = refl
tags-named (line ∷ rest) =
    ap (λ (names : List ℕ). cond (is_of 1 line) (name_of line ∷ names) names) (tags-named rest) ∙ named_step (values_first rest) (fields_in rest) line

-- ---- bytes that are the same

starts_with_itself : (bytes : List ℕ) → starts_with bytes bytes ≡ true
unfolding starts_with
starts_with_itself [] = refl
starts_with_itself (byte ∷ rest) = rw (eq-eqb byte byte refl) (starts_with_itself rest)

is_same-itself : (bytes : List ℕ) → is_same bytes bytes ≡ true
unfolding is_same
is_same-itself bytes = rw (eq-eqb (length bytes) (length bytes) refl) (starts_with_itself bytes)

starts_with_whole : (name bytes : List ℕ) → length name ≡ length bytes → starts_with name bytes ≡ true → name ≡ bytes
unfolding starts_with
starts_with_whole [] [] len starts = refl
starts_with_whole [] (first ∷ rest) len starts = absurd (omega arith)
starts_with_whole (byte ∷ name) [] len starts = absurd (omega arith)
starts_with_whole (byte ∷ name) (first ∷ rest) len starts =
    let here : byte ≡ first = eqb-true byte first (and_left (eqb byte first) (starts_with name rest) starts) in
    let behind : name ≡ rest = starts_with_whole name rest (omega arith) (and_right (eqb byte first) (starts_with name rest) starts) in
    rw (here, behind)

pub is_same-true : (name bytes : List ℕ) → is_same name bytes ≡ true → name ≡ bytes
unfolding is_same
is_same-true name bytes same =
    starts_with_whole name bytes (eqb-true _ _ (and_left (eqb (length name) (length bytes)) (starts_with name bytes) same))
    (and_right (eqb (length name) (length bytes)) (starts_with name bytes) same)

-- ---- a value in a record and in bytes

is_same_value-itself : (value : Admitted) → is_same_value value value ≡ true
unfolding is_same_value
is_same_value-itself value =
    rw (
      eq-eqb value.len value.len refl,
      eq-eqb value.word0 value.word0 refl,
      eq-eqb value.word1 value.word1 refl,
      eq-eqb value.word2 value.word2 refl,
      eq-eqb value.word3 value.word3 refl,
      eq-eqb value.word4 value.word4 refl,
      eq-eqb value.word5 value.word5 refl,
      eq-eqb value.word6 value.word6 refl,
      eq-eqb value.word7 value.word7 refl,
    )

module _ (one other : Admitted) where
  abbrev from7 : Bool
  from7 = eqb one.word7 other.word7

  abbrev from6 : Bool
  from6 = eqb one.word6 other.word6 && from7

  abbrev from5 : Bool
  from5 = eqb one.word5 other.word5 && from6

  abbrev from4 : Bool
  from4 = eqb one.word4 other.word4 && from5

  abbrev from3 : Bool
  from3 = eqb one.word3 other.word3 && from4

  abbrev from2 : Bool
  from2 = eqb one.word2 other.word2 && from3

  abbrev from1 : Bool
  from1 = eqb one.word1 other.word1 && from2

  abbrev from0 : Bool
  from0 = eqb one.word0 other.word0 && from1

  is_same_value-true : is_same_value one other ≡ true → one ≡ other
  unfolding is_same_value
  is_same_value-true same =
      let rest0 = and_right (eqb one.len other.len) from0 same in
      let rest1 = and_right (eqb one.word0 other.word0) from1 rest0 in
      let rest2 = and_right (eqb one.word1 other.word1) from2 rest1 in
      let rest3 = and_right (eqb one.word2 other.word2) from3 rest2 in
      let rest4 = and_right (eqb one.word3 other.word3) from4 rest3 in
      let rest5 = and_right (eqb one.word4 other.word4) from5 rest4 in
      let rest6 = and_right (eqb one.word5 other.word5) from6 rest5 in
      let rest7 = and_right (eqb one.word6 other.word6) from7 rest6 in
      let len : one.len ≡ other.len = eqb-true _ _ (and_left (eqb one.len other.len) from0 same) in
      let word0 : one.word0 ≡ other.word0 = eqb-true _ _ (and_left (eqb one.word0 other.word0) from1 rest0) in
      let word1 : one.word1 ≡ other.word1 = eqb-true _ _ (and_left (eqb one.word1 other.word1) from2 rest1) in
      let word2 : one.word2 ≡ other.word2 = eqb-true _ _ (and_left (eqb one.word2 other.word2) from3 rest2) in
      let word3 : one.word3 ≡ other.word3 = eqb-true _ _ (and_left (eqb one.word3 other.word3) from4 rest3) in
      let word4 : one.word4 ≡ other.word4 = eqb-true _ _ (and_left (eqb one.word4 other.word4) from5 rest4) in
      let word5 : one.word5 ≡ other.word5 = eqb-true _ _ (and_left (eqb one.word5 other.word5) from6 rest5) in
      let word6 : one.word6 ≡ other.word6 = eqb-true _ _ (and_left (eqb one.word6 other.word6) from7 rest6) in
      let word7 : one.word7 ≡ other.word7 = eqb-true _ _ rest7 in
      same_parts len word0 word1 word2 word3 word4 word5 word6 word7
    where
      same_parts : one.len ≡ other.len
          → one.word0 ≡ other.word0
          → one.word1 ≡ other.word1
          → one.word2 ≡ other.word2
          → one.word3 ≡ other.word3
          → one.word4 ≡ other.word4
          → one.word5 ≡ other.word5
          → one.word6 ≡ other.word6
          → one.word7 ≡ other.word7
          → one ≡ other
      same_parts len word0 word1 word2 word3 word4 word5 word6 word7 =
          ap (λ (each : ℕ). record { len = each; word0 = one.word0; word1 = one.word1; word2 = one.word2; word3 = one.word3; word4 = one.word4; word5 = one.word5; word6 = one.word6; word7 = one.word7 }) len
          ∙ ap (λ (each : ℕ). record { len = other.len; word0 = each; word1 = one.word1; word2 = one.word2; word3 = one.word3; word4 = one.word4; word5 = one.word5; word6 = one.word6; word7 = one.word7 }) word0
          ∙ rw (word1, word2, word3, word4, word5, word6, word7)

-- the bytes of a value and of an admitted one are the same where their words are
module _ (value : List ℕ) (words : Admitted) (there : value_of value ≡ Some words) (admitted : Admitted) (held : Held (Value admitted)) where
  same_by : (same : Bool) → is_same_value admitted words ≡ same → same ≡ is_same (value_text admitted) value
  same_by true same =
      let equal : value_text admitted ≡ value = ap value_text (is_same_value-true admitted words same) ∙ value_text-value_of value words there in
      rw equal (sym (is_same-itself value))
  same_by false other = go (is_same (value_text admitted) value) refl
    where
      go : (same : Bool) → is_same (value_text admitted) value ≡ same → false ≡ same
      go false same = refl
      go true same =
          let bytes : value_text admitted ≡ value = is_same-true (value_text admitted) value same in
          let both : Some words ≡ Some admitted = sym there ∙ ap value_of (sym bytes) ∙ value_of_value_text admitted held.0 held.1 in
          let equal : words ≡ admitted = cc in
          absurd (false≢true (sym other ∙ ap (is_same_value admitted) equal ∙ is_same_value-itself admitted))

  pub same-value : is_same_value admitted words ≡ is_same (value_text admitted) value
  same-value = same_by (is_same_value admitted words) refl

-- a value that no line can have is none of those that lines have
other_value : (value : List ℕ) → value_of value ≡ None → (admitted : Admitted) → Held (Value admitted) → is_same (value_text admitted) value ≡ false
other_value value none admitted held = go (is_same (value_text admitted) value) refl
  where
    go : (same : Bool) → is_same (value_text admitted) value ≡ same → same ≡ false
    go false same = refl
    go true same =
        let both : None ≡ Some admitted = sym none ∙ ap value_of (sym (is_same-true (value_text admitted) value same)) ∙ value_of_value_text admitted held.0 held.1 in
        let never : ◌≡◌ {A = ℕ} 0 1 = cc in
        absurd (omega arith)

-- ---- a line is a `value` line, or has none

abbrev ValueLine : Line → Type 0
ValueLine line = (admitted : Admitted) × ((line ≡ Value admitted) × Held (Value admitted))

abbrev OtherLine : Line → Type 0
OtherLine line = (eqb (get_or (record_of line) 0 0) 2 ≡ false) × ((others : List (List ℕ)) → values_with (field_line line) others ≡ [])

other_end : (number : Option ℕ) (letters : Option ℕ) → OtherLine (End number letters)
unfolding record_of
other_end read_number (Some letters) = (refl, λ others. refl)
other_end (Some number) None = (refl, λ others. refl)
other_end None None = (refl, λ others. refl)

value-or_other : (line : Line) → Held line → ValueLine line ⊎ OtherLine line
unfolding record_of
value-or_other (Def tag type) held = inr (refl, λ others. refl)
value-or_other (Value value) held = inl (value, (refl, held))
value-or_other BeginHeader held = inr (refl, λ others. refl)
value-or_other BeginTrailer held = inr (refl, λ others. refl)
value-or_other EndHeader held = inr (refl, λ others. refl)
value-or_other EndTrailer held = inr (refl, λ others. refl)
value-or_other (Component name) held = inr (refl, λ others. refl)
value-or_other (Message letters app) held = inr (refl, λ others. refl)
value-or_other (Field tag required) held = inr (refl, λ others. refl)
value-or_other (Group count delimiter required) held = inr (refl, λ others. refl)
value-or_other (Use name required) held = inr (refl, λ others. refl)
value-or_other (Member tag) held = inr (refl, λ others. refl)
value-or_other (RequiredTag tag) held = inr (refl, λ others. refl)
value-or_other Unknown held = inr (refl, λ others. refl)
value-or_other (End number letters) held = inr (other_end number letters)

held-drop : (lines : List Line) (count : ℕ) → AllHeld lines → AllHeld (drop count lines)
held-drop lines zero held = held
held-drop [] (suc count) held = tt
held-drop (line ∷ rest) (suc count) held = held-drop rest count held.1

-- the values of lines are visible bytes
abbrev pub AllVisible : List (List ℕ) → Type 0
AllVisible [] = Unit
AllVisible (value ∷ others) = (every is_visible value ≡ true) × AllVisible others

pub values-visible : (lines : List Line) → AllHeld lines → AllVisible (values_first lines)
unfolding values_first
values-visible [] held = tt
values-visible (line ∷ rest) held = go (value-or_other line held.0) (values-visible rest held.1)
  where
    go : ValueLine line ⊎ OtherLine line → AllVisible (values_first rest) → AllVisible (values_with (field_line line) (values_first rest))
    go (inl is) deeper = rw is.1.0 (value_text-visible is.0 is.1.1.0 is.1.1.1, deeper)
    go (inr other) deeper = rw (other.1 (values_first rest)) tt

module _ (lines : List Line) (held : AllHeld lines) (tag : ℕ) (field : FieldDef) where
  visible_by : (place : ℕ) (test : Bool) → cond test (DefinedAs (field_at lines place)) NotDefined ≡ DefinedAs field → AllVisible field.values
  visible_by place true found =
      let same : field_at lines place ≡ field = cc in
      rw (← same) (values-visible (drop (suc place) lines) (held-drop lines (suc place) held))
  visible_by place false found = let never : ◌≡◌ {A = ℕ} 0 1 = cc in absurd (omega arith)

  pub field_visible : field_in lines tag ≡ DefinedAs field → AllVisible field.values
  field_visible found = visible_by (place_of 1 tag lines) (place_of 1 tag lines <ᵇ length lines) (sym (field_placed_lem lines tag) ∙ found)

-- ---- the values that records admit

among-drop : (value : Admitted) (left at : ℕ) (words : List ℕ) → is_among value left at words ≡ is_among value left 0 (drop at words)
unfolding is_among
among-drop value zero at words = refl
among-drop value (suc left) at words =
    let here : at + 0 ≡ at = omega arith in
    let first : get_or (drop at words) 0 0 ≡ get_or words at 0 = get_or-drop at words 0 0 ∙ ap (λ (place : ℕ). get_or words place 0) here in
    rw (first, among-drop value left (at + 10) words, among-drop value left 10 (drop at words), drop-drop 10 at words)

among_with-drop : (value : Option Admitted) (left at : ℕ) (words : List ℕ) → among_with value left at words ≡ among_with value left 0 (drop at words)
among_with-drop (Some value) left at words = among-drop value left at words
among_with-drop None left at words = refl

module _ (value : List ℕ) where
  -- where the value is one that a line can have
  module _ (words : Admitted) (there : value_of value ≡ Some words) where
    one-by : (line : Line) (rest : List Line) (deeper : Bool)
        → ValueLine line ⊎ OtherLine line
        → deeper ≡ is_one_of (values_first rest) value
        → cond (eqb (get_or (record_of line) 0 0) 2) (is_same_value (admitted_from (record_of line)) words || deeper) false ≡ is_one_of (values_first (line ∷ rest)) value
    unfolding values_first is_one_of record_of
    one-by line rest deeper (inl is) same = rw (is.1.0, same-value value words there is.0 is.1.1, same)
    one-by line rest deeper (inr other) same = rw (other.0, other.1 (values_first rest))

    pub among-records : (lines : List Line) (more : List ℕ) → AllHeld lines → is_among words (length lines) 0 (records_of lines ++ more) ≡ is_one_of (values_first lines) value
    unfolding is_among records_of
    among-records [] more held = unfold values_first is_one_of in refl
    among-records (line ∷ rest) more held =
        rw (
          append_assoc (record_of line) (records_of rest) more,
          record_word line (records_of rest ++ more) 0 (omega arith),
          take_at (record_of line) (records_of rest ++ more) 10 (record_of-length line),
          among-drop words (length rest) 10 (record_of line ++ (records_of rest ++ more)),
          record_drop line (records_of rest ++ more),
        )
        (one-by line rest _ (value-or_other line held.0) (among-records rest more held.1))

  -- where it is none
  module _ (none : value_of value ≡ None) where
    none-by : (line : Line) (rest : List Line) → ValueLine line ⊎ OtherLine line → is_one_of (values_first rest) value ≡ false → is_one_of (values_first (line ∷ rest)) value ≡ false
    unfolding values_first is_one_of
    none-by line rest (inl is) deeper = rw (is.1.0, other_value value none is.0 is.1.1) deeper
    none-by line rest (inr other) deeper = rw (other.1 (values_first rest))

    none_first : (lines : List Line) → AllHeld lines → is_one_of (values_first lines) value ≡ false
    none_first [] held = unfold values_first is_one_of in refl
    none_first (line ∷ rest) held = none-by line rest (value-or_other line held.0) (none_first rest held.1)

  among_first : (lines : List Line) (more : List ℕ) (text : Option Admitted) → AllHeld lines → value_of value ≡ text
      → among_with text (length lines) 0 (records_of lines ++ more) ≡ is_one_of (values_first lines) value
  among_first lines more (Some words) held there = among-records words there lines more held
  among_first lines more None held none = sym (none_first none lines held)

  admits-by : (line : Line) (rest : List Line) (among : Bool)
      → ValueLine line ⊎ OtherLine line
      → among ≡ is_one_of (values_first (line ∷ rest)) value
      → cond (eqb (get_or (record_of line) 0 0) 2) among true ≡ is_admitted_by (values_first (line ∷ rest)) value
  admits-by line rest among (inl is) same = rw is.1.0 (unfold record_of in same ∙ rw is.1.0 (unfold values_first in refl))
  admits-by line rest among (inr other) same = rw other.0 (unfold values_first in rw (other.1 (values_first rest)))

  admits-records : (lines : List Line) (more : List ℕ) → AllHeld lines
      → cond (eqb (length lines) 0) true
      (cond (eqb (get_or (records_of lines ++ more) 0 0) 2) (among_with (value_of value) (length lines) 0 (records_of lines ++ more)) true)
      ≡ is_admitted_by (values_first lines) value
  admits-records [] more held = unfold values_first in refl
  admits-records (line ∷ rest) more held =
      let kind : get_or (records_of (line ∷ rest) ++ more) 0 0 ≡ get_or (record_of line) 0 0 =
      unfold records_of in rw (append_assoc (record_of line) (records_of rest) more) (record_word line (records_of rest ++ more) 0 (omega arith)) in
      let some : eqb (suc (length rest)) 0 ≡ false = ne_eqb (suc (length rest)) 0 (λ same. omega arith) in
      rw (some, kind)
      (admits-by line rest _ (value-or_other line held.0) (among_first (line ∷ rest) more (value_of value) held refl))

-- ---- words that pass the check

records-drop : (lines : List Line) (more : List ℕ) (count : ℕ) → count ≤ length lines → drop (10 * count) (records_of lines ++ more) ≡ records_of (drop count lines) ++ more
unfolding records_of
records-drop lines more zero inside = refl
records-drop [] more (suc count) inside = absurd (omega arith)
records-drop (line ∷ rest) more (suc count) inside =
    let further : 10 * suc count ≡ 10 + 10 * count = omega arith in
    rw (further, ← drop-drop (10 * count) 10 ((record_of line ++ records_of rest) ++ more), append_assoc (record_of line) (records_of rest) more, record_drop line (records_of rest ++ more))
    (records-drop rest more count (omega arith))

module _ (words : List ℕ) (small : Words32 words) (passes : is_dictionary words ≡ true) where
  abbrev lines : List Line
  lines = word_lines words

  abbrev known : Dictionary words
  known = is_dictionary-parts words passes

  definition-line : (tag : ℕ) → definition_of words tag ≡ definition_at words (placed_at lines (place_of 1 tag lines))
  unfolding definition_of
  definition-line tag = ap (definition_at words) (record_in-line words small passes 1 (tags_at words) (get_or words 1 0) (omega (arith, known.fits)) known.tags tag)

  module _ (tag : ℕ) where
    -- the definition that the words have of a tag is that of its `def` line
    found-by : (place : ℕ) (test : Bool) (type number : ℕ)
        → ltb place (length lines) ≡ test
        → definition_at words (cond test (Some place) None) ≡ Some (record { type_place = type; number = number })
        → (number < length lines) × (((field_at lines number).type ≡ type) × (cond test (DefinedAs (field_at lines place)) NotDefined ≡ DefinedAs (field_at lines number)))
    found-by place true type number inside there =
        let number_is : place ≡ number = ap number_told there in
        let type-is : get_or words (4 + 10 * place + 2) 0 ≡ type = ap type_told there in
        let within : place < length lines = ltb-true place (length lines) inside in
        let word = word_at words small passes place 2 (omega (arith, lines-counted words)) (omega arith) in
        rw (← number_is) (within, (sym word ∙ type-is, refl))
    found-by place false type number outside there = let never : ◌≡◌ {A = ℕ} 0 1 = cc in absurd (omega arith)

    pub definition-found : (type number : ℕ) → definition_of words tag ≡ Some (record { type_place = type; number = number })
        → (number < length (word_lines words))
        × (((field_at (word_lines words) number).type ≡ type) × (field_in (word_lines words) tag ≡ DefinedAs (field_at (word_lines words) number)))
    definition-found type number there =
        let place = place_of 1 tag lines in
        let parts = found-by place (ltb place (length lines)) type number refl (sym (definition-line tag) ∙ there) in
        (parts.0, (parts.1.0, field_placed_lem lines tag ∙ parts.1.1))

    missing_by : (place : ℕ) (test : Bool)
        → definition_at words (cond test (Some place) None) ≡ None
        → cond test (DefinedAs (field_at lines place)) NotDefined ≡ NotDefined
    missing_by place true missing = let never : ◌≡◌ {A = ℕ} 0 1 = cc in absurd (omega arith)
    missing_by place false missing = refl

    pub definition-missing : definition_of words tag ≡ None → field_in (word_lines words) tag ≡ NotDefined
    definition-missing missing =
        let place = place_of 1 tag lines in
        field_placed_lem lines tag ∙ missing_by place (ltb place (length lines)) (sym (definition-line tag) ∙ missing)

  -- the values that a definition admits are those of the `value` lines directly after it
  module _ (number : ℕ) (inside : number < length (word_lines words)) where
    abbrev after : List Line
    after = drop (suc number) lines

    abbrev behind : List ℕ
    behind = drop (10 * length lines) (drop 4 words)

    words-after : drop (4 + 10 * number + 10) words ≡ records_of after ++ behind
    words-after =
        let place : 4 + 10 * number + 10 ≡ 4 + 10 * suc number = omega arith in
        ap (λ (at : ℕ). drop at words) place
        ∙ sym (drop-drop (10 * suc number) 4 words)
        ∙ ap (drop (10 * suc number)) (records-first words small passes)
        ∙ records-drop lines behind (suc number) inside

    left_after : get_or words 0 0 - number - 1 ≡ length after
    left_after = omega (arith, lines-counted words, length-drop (suc number) lines)

    kind_after : get_or words (4 + 10 * number + 10) 0 ≡ get_or (records_of after ++ behind) 0 0
    kind_after =
        let here : 4 + 10 * number + 10 + 0 ≡ 4 + 10 * number + 10 = omega arith in
        ap (λ (at : ℕ). get_or words at 0) (sym here) ∙ sym (get_or-drop (4 + 10 * number + 10) words 0 0) ∙ ap (λ (each : List ℕ). get_or each 0 0) words-after

    pub admits_value-lines : (value : List ℕ) → admits_value words number value ≡ is_admitted_by (field_at (word_lines words) number).values value
    unfolding admits_value
    admits_value-lines value =
        rw (left_after, kind_after, among_with-drop (value_of value) (length after) (4 + 10 * number + 10) words, words-after)
        (admits-records value after behind (held-drop lines (suc number) (lines-held words small passes)))

    enumerated_by : (each : List Line) → AllHeld each
        → cond (eqb (length each) 0) false (eqb (get_or (records_of each ++ behind) 0 0) 2) ≡ has_values (values_first each)
    unfolding values_first
    enumerated_by [] held = refl
    enumerated_by (line ∷ rest) held =
        let kind : get_or (records_of (line ∷ rest) ++ behind) 0 0 ≡ get_or (record_of line) 0 0 =
        unfold records_of in rw (append_assoc (record_of line) (records_of rest) behind) (record_word line (records_of rest ++ behind) 0 (omega arith)) in
        let some : eqb (suc (length rest)) 0 ≡ false = ne_eqb (suc (length rest)) 0 (λ same. omega arith) in
        rw (some, kind) (go (value-or_other line held.0))
      where
        go : ValueLine line ⊎ OtherLine line → eqb (get_or (record_of line) 0 0) 2 ≡ has_values (values_with (field_line line) (values_first rest))
        go (inl is) = rw is.1.0 (unfold record_of in refl)
        go (inr other) = rw (other.0, other.1 (values_first rest))

    pub is_enumerated-lines : is_enumerated words number ≡ has_values (field_at (word_lines words) number).values
    unfolding is_enumerated
    is_enumerated-lines = rw (left_after, kind_after) (enumerated_by after (held-drop lines (suc number) (lines-held words small passes)))

  -- the names of the index of the definitions are the tags of the `def` lines
  pub tags-index : take (get_or words 1 0) (drop (tags_at words) words) ≡ sorted (tags_in (word_lines words))
  tags-index =
      index-names words small passes 1 (tags_at words) (get_or words 1 0) (omega (arith, known.fits)) known.tags ∙ ap sorted (tags-named lines)
