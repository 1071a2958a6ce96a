-- Laws of `LineRuns.antt`: the lines of a run, its loops turn by turn, and that a run may be passed over at once (`definitions-passed`, `fields-passed`).
-- Assumes nothing.
use Rattle.std.specs.Prelude.{◌≡◌, Bool, cond, ◌&&◌, List, ◌++◌, eqb, ltb, leb, length, get_or, take, drop, Option, Some, None, IfSome, Ok}
use Rattle.std.proofs.Math.Path.{refl, ap}
use Rattle.std.proofs.Common.{sym, ◌∙◌, suc-mul, mul-le-mul_left, length-take, length-drop, get_or-take, get_or-drop, length-append, length-take-le, take_at, drop_at}
use Rattle.std.proofs.lemmas.List.{drop-take, take-take}
use Prim.Native.Nat.{ℕ, zero, suc, ◌+◌, ◌*◌, ◌-◌, ◌/◌, ◌%◌, ◌≤◌, ◌<◌}
use Rattle.std.proofs.Math.Bool.{true, false}
use native.Mathlib.Omega.{arith}
use Rattle.std.specs.Int.Bits.{bit_or}
use Rattle.std.proofs.Math.Seq.{drop-drop}
use borrow.Author.Tests.{lt-ltb, le-leb, eqb-true, eqb-false}
use Rattle.ascii.specs.Notation.{is_between}
use Rattle.ascii.specs.NotationLaws.{and_left, and_right, is_between-from}
use Rattle.lines.specs.LineParts.{is_visible}
use Rattle.line_forms.specs.declared.line.Line.{Line}
use Rattle.line_forms.specs.declared.line.Line.TheVariants.{Def, Value, Field, Unknown}
use Rattle.dictionary_order.specs.declared.dictionary_order.State.{State}
use Rattle.dictionary_order.specs.declared.dictionary_order.Stage.TheVariants.{Definitions}
use Rattle.dictionary_order.specs.declared.dictionary_order.Part.TheVariants.{Fields, NoBody}
use Rattle.dictionary_order.specs.DictionaryOrder.{part_number, is_at, closed_block, step_of}
use Rattle.dictionary_order.specs.DictionaryOrderLaws.{stage_number-once, part_number-once}
use Rattle.records.specs.Records.{holds_part, holds_value, is_unused, admitted_from, def_from, value_from, field_from, outer_from, body_from, line_from, lines_from}
use Rattle.records.specs.WordPairs.{pair_at}
use Rattle.records.specs.RecordsLaws.{or-least, or-none, is_unused-short}
use Rattle.records.specs.WordTextLaws.{part-one, short-value}
use Rattle.records.specs.LineLengths.{digit_count, type_lengths, length_of, text_length}
use Rattle.records.specs.NumeralLaws.{scaled, digits_from}
use Rattle.records.specs.LineLengthLaws.{text_length-behind}
use Rattle.dictionary.specs.DictionaryWords as kinds
use Rattle.dictionary.specs.DictionaryCheck.{count_of}
use Rattle.dictionary.specs.LinesTaken.{takes, count_one}
use Rattle.dictionary.specs.declared.line_order.Standing.{Standing}
use Rattle.dictionary.specs.declared.line_runs.Run.{Run}
use Rattle.std.specs.Option.{UnwrapsOrElse}
use Rattle.dictionary.specs.LineOrder.{state_of}
use Rattle.dictionary.specs.LineRuns.{HoldsShort, FewDigits, run_length, IsRun, FewIn, is_among_definitions, PassedOver}

-- ---- FewDigits

pub digits-below : (steps names : ℕ) → names / 4294967296 < scaled steps 10 → FewDigits (suc steps) names
unfolding digit_count
digits-below steps names below tag upto = digits_from 10 steps 10 tag (omega arith)

-- ---- what is joined

digits-joined : (digits names head : ℕ) → FewDigits digits (bit_or names head) → FewDigits digits names × (digit_count (head / 4294967296) ≤ digits)
digits-joined digits names head few =
    let least = or-least names head in
    (λ tag upto. few tag (omega arith), few (head / 4294967296) (omega arith))

-- ---- the words of a record

module _ (words : List ℕ) (at : ℕ) where
  word_at : (index : ℕ) → index < 10 → get_or (take 10 (drop at words)) index 0 ≡ get_or words (at + index) 0
  word_at index inside = get_or-take 10 (drop at words) index 0 inside ∙ get_or-drop at words index 0

  ten-words : at + 10 ≤ length words → length (take 10 (drop at words)) ≡ 10
  ten-words inside = simp (length-take, length-drop) (omega arith)

  kind_at : get_or (take 10 (drop at words)) 0 0 ≡ get_or words at 0
  kind_at = let same : at + 0 ≡ at = omega arith in word_at 0 (omega arith) ∙ rw same

  pair_none : (index : ℕ) → index < 9 → pair_at words (at + index) ≡ 0
      → (get_or (take 10 (drop at words)) index 0 ≡ 0) × (get_or (take 10 (drop at words)) (index + 1) 0 ≡ 0)
  pair_none index inside none =
      let next : at + index + 1 ≡ at + (index + 1) = omega arith in
      let both = rw next at none in
      (word_at index (omega arith) ∙ omega arith, word_at (index + 1) (omega arith) ∙ omega arith)

  pub pairs_unused : at + 10 ≤ length words → get_or words (at + 3) 0 ≡ 0 → pair_at words (at + 4) ≡ 0 → pair_at words (at + 6) ≡ 0 → pair_at words (at + 8) ≡ 0
      → is_unused 3 (take 10 (drop at words)) ≡ true
  pairs_unused inside none3 none4 none6 none8 =
      let fourth = pair_none 4 (omega arith) none4 in
      let sixth = pair_none 6 (omega arith) none6 in
      let eighth = pair_none 8 (omega arith) none8 in
      sym (is_unused-short (take 10 (drop at words)) (ten-words inside))
      ∙ rw (word_at 3 (omega arith) ∙ none3, fourth.0, fourth.1, sixth.0, sixth.1, eighth.0, eighth.1)

-- ---- the lines of a run

-- a line of some length is the one that its tests let pass
known_by : (first second : Bool) (line : Line) → (length_of (cond first (cond second line Unknown) Unknown) ≡ 0 → ⊥) → cond first (cond second line Unknown) Unknown ≡ line
unfolding length_of
known_by true true line some = refl
known_by true false line some = absurd (some refl)
known_by false second line some = absurd (some refl)

module _ (words : List ℕ) where
  def_line : get_or words 0 0 ≡ 1 → line_from words ≡ def_from words
  unfolding line_from outer_from
  def_line kind = rw kind

  value_line : get_or words 0 0 ≡ 2 → line_from words ≡ value_from words
  unfolding line_from outer_from
  value_line kind = rw kind

  field_line_lem : get_or words 0 0 ≡ 7 → line_from words ≡ field_from words
  unfolding line_from body_from
  field_line_lem kind = rw kind

-- the lines of such a run leave the state as it is
abbrev Stays : State → Bool → Type 0
Stays state definitions = (words : List ℕ) (number : ℕ) → (run_length definitions words ≡ 0 → ⊥) → step_of state number (line_from words) ≡ Ok state

module _ (state : State) (words : List ℕ) (number : ℕ) where
  abbrev IsTaken : Type 0
  IsTaken = step_of state number (line_from words) ≡ Ok state

  field_by : (test : Bool) → eqb (get_or words 0 0) 7 ≡ test → state.part ≡ Fields → (cond test (length_of (field_from words)) 0 ≡ 0 → ⊥) → IsTaken
  unfolding step_of
  field_by true kind part some =
      rw (
        field_line_lem words (eqb-true (get_or words 0 0) 7 kind),
        known_by (leb (get_or words 2 0) 1) (is_unused 3 words) (Field (get_or words 1 0) (eqb (get_or words 2 0) 1)) some,
        part,
      )
  field_by false kind part some = absurd (some refl)

  def_by : (test : Bool) → eqb (get_or words 0 0) 1 ≡ test → state ≡ closed_block Definitions state → (cond test (length_of (def_from words)) 0 ≡ 0 → ⊥) → IsTaken
  unfolding step_of is_between
  def_by true kind closed some =
      rw (
        def_line words (eqb-true (get_or words 0 0) 1 kind),
        known_by (ltb (get_or words 2 0) 34) (is_unused 3 words) (Def (get_or words 1 0) (get_or words 2 0)) some,
        closed,
      )
  def_by false kind closed some = absurd (some refl)

  definition-by : (test : Bool) → eqb (get_or words 0 0) 2 ≡ test → state ≡ closed_block Definitions state
      → (cond test (length_of (value_from words)) (cond (eqb (get_or words 0 0) 1) (length_of (def_from words)) 0) ≡ 0 → ⊥)
      → IsTaken
  unfolding step_of
  definition-by true kind closed some =
      let stage : state.stage ≡ Definitions = ap (λ (this : State). this.stage) closed in
      rw (
        value_line words (eqb-true (get_or words 0 0) 2 kind),
        known_by (leb 1 (get_or words 1 0)) (holds_value (get_or words 1 0) (drop 2 words)) (Value (admitted_from words)) some,
        stage,
      )
  definition-by false kind closed some = def_by (eqb (get_or words 0 0) 1) refl closed some

fields-stay : (state : State) → state.part ≡ Fields → Stays state false
unfolding run_length
fields-stay state part words number some = field_by state words number (eqb (get_or words 0 0) 7) refl part some

definitions-stay : (state : State) → state ≡ closed_block Definitions state → Stays state true
unfolding run_length
definitions-stay state closed words number some = definition-by state words number (eqb (get_or words 0 0) 2) refl closed some

-- the length that is measured is that of the line

length-by : (words : List ℕ) (kind : ℕ) (line : Line) (rest : ℕ) → (get_or words 0 0 ≡ kind → line_from words ≡ line)
    → ((rest ≡ 0 → ⊥) → rest ≡ length_of (line_from words))
    → (test : Bool) → eqb (get_or words 0 0) kind ≡ test
    → (cond test (length_of line) rest ≡ 0 → ⊥)
    → cond test (length_of line) rest ≡ length_of (line_from words)
length-by words kind line rest is deeper true same some = rw (is (eqb-true (get_or words 0 0) kind same))
length-by words kind line rest is deeper false other some = deeper some

run_length-line : (definitions : Bool) (words : List ℕ) → (run_length definitions words ≡ 0 → ⊥) → run_length definitions words ≡ length_of (line_from words)
unfolding run_length
run_length-line true words some =
    length-by words 2 (value_from words) (cond (eqb (get_or words 0 0) 1) (length_of (def_from words)) 0) (value_line words)
    (length-by words 1 (def_from words) 0 (def_line words) (λ none. absurd (none refl)) (eqb (get_or words 0 0) 1) refl)
    (eqb (get_or words 0 0) 2) refl some
run_length-line false words some =
    length-by words 7 (field_from words) 0 (field_line_lem words) (λ none. absurd (none refl)) (eqb (get_or words 0 0) 7) refl some

-- a record of a run is no component's and no message's
abbrev NoName : ℕ → Type 0
NoName kind = (count_one kind kinds.components ≡ 0) × (count_one kind kinds.messages ≡ 0)

definition-name : (words : List ℕ) (value definition : Bool) (value_len def-len : ℕ) → eqb (get_or words 0 0) 2 ≡ value → eqb (get_or words 0 0) 1 ≡ definition
    → (cond value value_len (cond definition def-len 0) ≡ 0 → ⊥)
    → NoName (get_or words 0 0)
definition-name words true definition value_len def-len is other some = let kind = eqb-true (get_or words 0 0) 2 is in (rw kind, rw kind)
definition-name words false true value_len def-len other is some = let kind = eqb-true (get_or words 0 0) 1 is in (rw kind, rw kind)
definition-name words false false value_len def-len other neither some = absurd (some refl)

field_name : (words : List ℕ) (field : Bool) (len : ℕ) → eqb (get_or words 0 0) 7 ≡ field → (cond field len 0 ≡ 0 → ⊥) → NoName (get_or words 0 0)
field_name words true len is some = let kind = eqb-true (get_or words 0 0) 7 is in (rw kind, rw kind)
field_name words false len other some = absurd (some refl)

no_name : (definitions : Bool) (words : List ℕ) → (run_length definitions words ≡ 0 → ⊥) → NoName (get_or words 0 0)
unfolding run_length
no_name true words some = definition-name words (eqb (get_or words 0 0) 2) (eqb (get_or words 0 0) 1) (length_of (value_from words)) (length_of (def_from words)) refl refl some
no_name false words some = field_name words (eqb (get_or words 0 0) 7) (length_of (field_from words)) refl some

-- ---- count_of: a record more

one-or_none : (same : Bool) (rest : ℕ) → cond same (suc rest) rest ≡ cond same 1 0 + rest
one-or_none true rest = omega arith
one-or_none false rest = omega arith

pub count_of_step : (kind count : ℕ) (words : List ℕ) → count_of kind (suc count) words ≡ count_one (get_or words 0 0) kind + count_of kind count (drop 10 words)
unfolding count_of
count_of_step kind count words = one-or_none (eqb (get_or words 0 0) kind) (count_of kind count (drop 10 words))

pub count_of_behind : (kind before after : ℕ) (words : List ℕ) → count_of kind (before + after) words ≡ count_of kind before words + count_of kind after (drop (10 * before) words)
unfolding count_of
count_of_behind kind zero after words = let all : 0 + after ≡ after = omega arith in rw all (omega arith)
count_of_behind kind (suc before) after words =
    let next : suc before + after ≡ suc (before + after) = omega arith in
    let place : 10 + 10 * before ≡ 10 * suc before = omega arith in
    let rest = rw (drop-drop (10 * before) 10 words, place) at (count_of_behind kind before after (drop 10 words)) in
    ap (λ (count : ℕ). count_of kind count words) next ∙ omega (arith, count_of_step kind (before + after) words, count_of_step kind before words, rest)

count_of_more : (kind lines : ℕ) (words : List ℕ) → count_of kind (lines + 1) words ≡ count_of kind lines words + count_one (get_or (drop (10 * lines) words) 0 0) kind
unfolding count_of
count_of_more kind lines words = omega (arith, count_of_behind kind lines 1 words, count_of_step kind 0 (drop (10 * lines) words))

-- ---- IsRun: a record more

pub run_none : (definitions : Bool) (bytes : ℕ) (words : List ℕ) → IsRun definitions 0 bytes 0 words
unfolding count_of text_length lines_from
run_none definitions bytes words = record {
  each = λ index inside. absurd (omega arith);
  counted = record { of_tags = refl; of_components = refl; of_messages = refl };
  short = omega arith;
}

module _ (definitions : Bool) (lines bytes tags : ℕ) (words : List ℕ) (run : IsRun definitions lines bytes tags words) where
  abbrev len : ℕ
  len = run_length definitions (take 10 (drop (10 * lines) words))

  each-by : (len ≡ 0 → ⊥) → (index : ℕ) → index < lines + 1 → (last : Bool) → eqb index lines ≡ last → run_length definitions (take 10 (drop (10 * index) words)) ≡ 0 → ⊥
  each-by some index inside true same = let alike : index ≡ lines = eqb-true index lines same in rw alike some
  each-by some index inside false other = let differ = eqb-false index lines other in run.each index (omega arith)

  run-longer : (len ≡ 0 → ⊥) → (added : ℕ) → len + 1 ≤ added
      → (one : ℕ) → one ≡ count_one (get_or (drop (10 * lines) words) 0 0) kinds.definitions
      → (all-bytes all-tags : ℕ) → all-bytes ≡ bytes + added → all-tags ≡ tags + one
      → IsRun definitions (lines + 1) all-bytes all-tags words
  run-longer some added few one counts all-bytes all-tags same_bytes same-tags =
      let name = rw (get_or-take 10 (drop (10 * lines) words) 0 0 (omega arith)) at (no_name definitions (take 10 (drop (10 * lines) words)) some) in
      let line = run_length-line definitions (take 10 (drop (10 * lines) words)) some in
      record {
        each = λ index inside. each-by some index inside (eqb index lines) refl;
        counted = record {
          of_tags = omega (arith, count_of_more kinds.definitions lines words, run.counted.of_tags);
          of_components = omega (arith, count_of_more kinds.components lines words, run.counted.of_components, name.0);
          of_messages = omega (arith, count_of_more kinds.messages lines words, run.counted.of_messages, name.1);
        };
        short = omega (arith, text_length-behind lines words, run.short, line);
      }

-- ---- the lengths that the loops count

module _ (words : List ℕ) (at : ℕ) (unused : is_unused 3 (take 10 (drop at words)) ≡ true) where
  def_length : get_or words at 0 ≡ 1 → get_or words (at + 2) 0 < 34
      → run_length true (take 10 (drop at words)) ≡ 5 + digit_count (get_or words (at + 1) 0) + get_or type_lengths (get_or words (at + 2) 0) 0
  unfolding run_length length_of
  def_length kind place =
      rw (kind_at words at ∙ kind, word_at words at 1 (omega arith), word_at words at 2 (omega arith), lt-ltb (get_or words (at + 2) 0) 34 place, unused)

  value-length : get_or words at 0 ≡ 2 → at + 10 ≤ length words → HoldsShort (get_or words (at + 1) 0) (get_or words (at + 2) 0)
      → run_length true (take 10 (drop at words)) ≡ 6 + get_or words (at + 1) 0
  unfolding run_length length_of
  value-length kind inside holds =
      let held : holds_part is_visible (get_or words (at + 1) 0) (get_or (take 10 (drop at words)) 2 0) ≡ true = rw (word_at words at 2 (omega arith)) holds.1.1 in
      rw (
        kind_at words at ∙ kind,
        word_at words at 1 (omega arith),
        le-leb 1 (get_or words (at + 1) 0) holds.0,
        short-value (take 10 (drop at words)) (ten-words words at inside) (get_or words (at + 1) 0) holds.1.0 unused ∙ held,
      )

  field_length : get_or words at 0 ≡ 7 → get_or words (at + 2) 0 ≤ 1 → run_length false (take 10 (drop at words)) ≡ 8 + digit_count (get_or words (at + 1) 0)
  unfolding run_length length_of
  field_length kind flag =
      rw (kind_at words at ∙ kind, word_at words at 1 (omega arith), word_at words at 2 (omega arith), le-leb (get_or words (at + 2) 0) 1 flag, unused)

-- ---- the records one after the other, as `chunks_exact` gives them

-- the records that are left where so many were given
abbrev pub records_left : ℕ → List ℕ → ℕ → ℕ → List ℕ
records_left count words first lines = drop (10 * lines) (take (10 * count) (drop first words))

pub record RecordTurn (count : ℕ) (words : List ℕ) (first lines : ℕ) (given left : List ℕ) : Type 0 where
  pub inside : lines < count
  pub is : given ≡ take 10 (drop (first + 10 * lines) words)
  pub further : left ≡ records_left count words first (lines + 1)

pub record_turns : (count : ℕ) (words : List ℕ) (first lines : ℕ) (rest given left : List ℕ) → first + 10 * count ≤ length words → lines ≤ count
    → rest ≡ records_left count words first lines
    → rest ≡ given ++ left
    → length given ≡ 10
    → RecordTurn count words first lines given left
record_turns count words first lines rest given left fits within here parts ten =
    let long : length (take (10 * count) (drop first words)) ≡ 10 * count = length-take-le (10 * count) (drop first words) (omega (arith, length-drop first words)) in
    let left_len : length rest ≡ 10 * count - 10 * lines = ap length here ∙ length-drop (10 * lines) (take (10 * count) (drop first words)) ∙ rw long in
    let inside : lines < count = omega (arith, left_len, ap length parts, length-append given left) in
    let all : 10 * lines + (10 * count - 10 * lines) ≡ 10 * count = omega (arith, within) in
    let next : 10 * lines + 10 ≡ 10 * (lines + 1) = omega arith in
    let cut = rw all at (drop-take (10 * lines) (10 * count - 10 * lines) (drop first words)) in
    record {
      inside = inside;
      is =
          sym (take_at given left 10 ten) ∙ ap (take 10) (sym parts ∙ here ∙ cut)
          ∙ take-take 10 (10 * count - 10 * lines) (drop (10 * lines) (drop first words)) (omega (arith, inside)) ∙ rw (drop-drop (10 * lines) first words);
      further =
          sym (drop_at given left 10 ten) ∙ ap (drop 10) (sym parts ∙ here) ∙ drop-drop 10 (10 * lines) (take (10 * count) (drop first words)) ∙ rw next;
    }

module _ (words : List ℕ) (at : ℕ) (given : List ℕ) (is : given ≡ take 10 (drop at words)) where
  pub given-word : (index : ℕ) → index < 10 → get_or given index 0 ≡ get_or words (at + index) 0
  given-word index inside = rw is (word_at words at index inside)

  pub given-pair : (index : ℕ) → index < 9 → pair_at given index ≡ pair_at words (at + index)
  given-pair index inside =
      let next : at + (index + 1) ≡ at + index + 1 = omega arith in
      rw (given-word index (omega arith), given-word (index + 1) (omega arith), next)

  pub given-halves : (index low high : ℕ) → index < 9 → (low ≡ get_or given index 0) × (high ≡ get_or given (index + 1) 0)
      → (low ≡ get_or words (at + index) 0) × (high ≡ get_or words (at + index + 1) 0)
  given-halves index low high inside halves =
      let next : at + (index + 1) ≡ at + index + 1 = omega arith in
      (halves.0 ∙ given-word index (omega arith), halves.1 ∙ given-word (index + 1) (omega arith) ∙ rw next)

-- ---- HoldsShort: the tests of `is_one_byte`

pub one_byte : (next : ℕ) → next % 16777216 ≡ 0 → 33 ≤ next / 16777216 → next / 16777216 ≤ 126
    → (next / 4294967296 ≡ 0) × HoldsShort 1 (next % 4294967296)
one_byte next none low high =
    let word : next % 4294967296 ≡ next = omega arith in
    (omega arith, rw word (omega arith, (omega arith, part-one next is_visible none ∙ is_between-from 33 126 (next / 16777216) low ∙ le-leb (next / 16777216) 126 high)))

pub short-value_held : (head next : ℕ) → head % 4294967296 ≡ 2 → 1 ≤ head / 4294967296 → head / 4294967296 ≤ 4 → next < 4294967296
    → (answer : Bool) → answer ≡ holds_part is_visible (head / 4294967296) next → answer ≡ true
    → (head % 4294967296 ≡ 2) × ((next / 4294967296 ≡ 0) × HoldsShort (head / 4294967296) (next % 4294967296))
short-value_held head next kind some few small answer holds passes =
    let word : next % 4294967296 ≡ next = omega arith in
    (kind, (omega arith, rw word (some, (few, sym holds ∙ passes))))

-- ---- the loop of `definitions_run`

product_more : (m n : ℕ) → (m + 1) * n ≡ m * n + n
product_more m n = let next : m + 1 ≡ suc m = omega arith in rw next (suc-mul m n)

-- what a run of so many lines has at most, where `bytes` are those of the type names and of values longer than one byte
abbrev pub definition_bytes : ℕ → ℕ → ℕ → ℕ → ℕ
definition_bytes bytes lines tags digits = bytes + 8 * (lines - tags) + tags * (6 + digits)

-- `lines` records are behind, and the one at `at` is to be looked at
pub record DefinitionsSoFar (count : ℕ) (words : List ℕ) (first lines bytes tags names pair4 pair6 pair8 at : ℕ) : Type 0 where
  pub within : lines ≤ count
  pub place : at ≡ first + 10 * lines
  pub few_bytes : bytes ≤ 255 * lines
  pub few_tags_lem : tags ≤ lines
  pub run : pair4 ≡ 0 → pair6 ≡ 0 → pair8 ≡ 0 → (digits : ℕ) → FewDigits digits names
      → IsRun true lines (definition_bytes bytes lines tags digits) tags (drop first words)

pub definitions-begin : (count : ℕ) (words : List ℕ) (first : ℕ) → DefinitionsSoFar count words first 0 0 0 0 0 0 0 first
definitions-begin count words first = record {
  within = omega arith;
  place = omega arith;
  few_bytes = omega arith;
  few_tags_lem = omega arith;
  run = λ none4 none6 none8 digits few. run_none true _ (drop first words);
}

module _ (count : ℕ) (words : List ℕ) (first lines bytes tags names pair4 pair6 pair8 at : ℕ)
    (so_far : DefinitionsSoFar count words first lines bytes tags names pair4 pair6 pair8 at) (inside : lines < count) (fits : at + 10 ≤ length words)
    (fourth sixth eighth : ℕ) (is-fourth : fourth ≡ pair_at words (at + 4)) (is-sixth : sixth ≡ pair_at words (at + 6)) (is-eighth : eighth ≡ pair_at words (at + 8)) where
  abbrev Goes : ℕ → ℕ → ℕ → Type 0
  Goes all-bytes all-tags all-names =
      DefinitionsSoFar count words first (lines + 1) all-bytes all-tags all-names (bit_or pair4 fourth) (bit_or pair6 sixth) (bit_or pair8 eighth) (at + 10)

  -- the line of the record has at most so many bytes, and the run grows by them
  abbrev Adds : ℕ → ℕ → ℕ → ℕ → Type 0
  Adds all-bytes all-tags digits added =
      (1 ≤ run_length true (take 10 (drop at words)))
      × ((run_length true (take 10 (drop at words)) + 1 ≤ added)
      × (definition_bytes all-bytes (lines + 1) all-tags digits ≡ definition_bytes bytes lines tags digits + added))

  turn : (all-bytes all-tags all-names one : ℕ) (added : ℕ → ℕ) → all-bytes ≤ bytes + 255 → one ≤ 1 → all-tags ≡ tags + one → one ≡ count_one (get_or words at 0) kinds.definitions
      → get_or words (at + 3) 0 ≡ 0
      → ((digits : ℕ) → FewDigits digits all-names → FewDigits digits names)
      → (is_unused 3 (take 10 (drop at words)) ≡ true → (digits : ℕ) → FewDigits digits all-names → Adds all-bytes all-tags digits (added digits))
      → Goes all-bytes all-tags all-names
  turn all-bytes all-tags all-names one added few-more single same-tags counts none3 fewer adds = record {
    within = omega arith;
    place = omega (arith, so_far.place);
    few_bytes = omega (arith, so_far.few_bytes);
    few_tags_lem = omega (arith, so_far.few_tags_lem);
    run = λ none4 none6 none8 digits few.
        let both4 = or-none pair4 fourth none4 in
        let both6 = or-none pair6 sixth none6 in
        let both8 = or-none pair8 eighth none8 in
        let unused = pairs_unused words at fits none3 (sym is-fourth ∙ both4.1) (sym is-sixth ∙ both6.1) (sym is-eighth ∙ both8.1) in
        let more = adds unused digits few in
        let here : drop (10 * lines) (drop first words) ≡ drop at words = drop-drop (10 * lines) first words ∙ rw so_far.place in
        let same : at + 0 ≡ at = omega arith in
        let kind : get_or (drop at words) 0 0 ≡ get_or words at 0 = get_or-drop at words 0 0 ∙ rw same in
        run-longer true lines (definition_bytes bytes lines tags digits) tags (drop first words)
        (so_far.run both4.0 both6.0 both8.0 digits (fewer digits few))
        (rw here (λ none. omega (arith, more.0)))
        (added digits)
        (rw here more.1.0)
        one (rw (here, kind) counts) _ _ more.1.1 same-tags;
  }

  -- the first four words, two as one number
  module _ (head next : ℕ) (heads : (head % 4294967296 ≡ get_or words at 0) × (head / 4294967296 ≡ get_or words (at + 1) 0))
      (nexts : (next % 4294967296 ≡ get_or words (at + 2) 0) × (next / 4294967296 ≡ get_or words (at + 2 + 1) 0))
      (all-bytes all-tags all-names : ℕ) where
    none-behind : next / 4294967296 ≡ 0 → get_or words (at + 3) 0 ≡ 0
    none-behind none = let third : at + 2 + 1 ≡ at + 3 = omega arith in sym (rw third at nexts.1) ∙ none

    value-goes_on : (added : ℕ) → (head % 4294967296 ≡ 2) × ((next / 4294967296 ≡ 0) × HoldsShort (head / 4294967296) (next % 4294967296)) → head / 4294967296 + 7 ≤ added + 8 → added ≤ 3
        → all-bytes ≡ bytes + added → all-tags ≡ tags → all-names ≡ names → Goes all-bytes all-tags all-names
    value-goes_on added value few small same_bytes same-tags same_names =
        let kind : get_or words at 0 ≡ 2 = sym heads.0 ∙ value.0 in
        let holds : HoldsShort (get_or words (at + 1) 0) (get_or words (at + 2) 0) = rw (heads.1, nexts.0) at value.1.1 in
        rw (same_bytes, same-tags, same_names)
        (turn (bytes + added) tags names 0 (λ digits. added + 8) (omega arith) (omega arith) (omega arith) (rw kind) (none-behind value.1.0) (λ digits few. few)
        (λ unused digits few-digits.
        let is = value-length words at unused kind fits holds in
        (omega arith, (omega (arith, heads.1), omega (arith, so_far.few_tags_lem)))))

    pub one-byte_goes_on : head ≡ 4294967298 → (next / 4294967296 ≡ 0) × HoldsShort 1 (next % 4294967296)
        → all-bytes ≡ bytes → all-tags ≡ tags → all-names ≡ names → Goes all-bytes all-tags all-names
    one-byte_goes_on is value same_bytes =
        let one : head / 4294967296 ≡ 1 = omega arith in
        value-goes_on 0 (omega arith, (value.0, rw one value.1)) (omega arith) (omega arith) (omega arith)

    pub short-value_goes_on : (head % 4294967296 ≡ 2) × ((next / 4294967296 ≡ 0) × HoldsShort (head / 4294967296) (next % 4294967296))
        → all-bytes ≡ bytes + 3 → all-tags ≡ tags → all-names ≡ names → Goes all-bytes all-tags all-names
    short-value_goes_on value = value-goes_on 3 value (omega (arith, value.1.1.1.0)) (omega arith)

    pub def_goes_on : head % 4294967296 ≡ 1 → next < 34 → (name : ℕ) → name ≡ get_or type_lengths next 0 → name ≤ 255
        → all-bytes ≡ bytes + name → all-tags ≡ tags + 1 → all-names ≡ bit_or names head → Goes all-bytes all-tags all-names
    def_goes_on is place name named short same_bytes same-tags same_names =
        let kind : get_or words at 0 ≡ 1 = sym heads.0 ∙ is in
        let same : next ≡ get_or words (at + 2) 0 = omega (arith, nexts.0) in
        rw (same_bytes, same-tags, same_names)
        (turn (bytes + name) (tags + 1) (bit_or names head) 1 (λ digits. 6 + digits + name) (omega arith) (omega arith) refl (rw kind) (none-behind (omega arith))
        (λ digits few. (digits-joined digits names head few).0)
        (λ unused digits few.
        let len = def_length words at unused kind (rw same at place) in
        let upto = rw heads.1 at (digits-joined digits names head few).1 in
        let product : (tags + 1) * (6 + digits) ≡ tags * (6 + digits) + (6 + digits) = product_more tags (6 + digits) in
        let type-name = rw same at named in
        (omega arith, (omega (arith, upto, type-name), omega (arith, so_far.few_tags_lem, product)))))

pub product_few : (m n bound : ℕ) → n ≤ bound → m * n ≤ m * bound
product_few m n bound few = mul-le-mul_left m few

module _ (count : ℕ) (words : List ℕ) (first lines bytes tags names pair4 pair6 pair8 at : ℕ)
    (so_far : DefinitionsSoFar count words first lines bytes tags names pair4 pair6 pair8 at) (digits : ℕ) where
  pub definitions-end : bit_or (bit_or pair4 pair6) pair8 ≡ 0 → FewDigits digits names → IsRun true lines (definition_bytes bytes lines tags digits) tags (drop first words)
  definitions-end none few =
      let last = or-none (bit_or pair4 pair6) pair8 none in
      let others = or-none pair4 pair6 last.0 in
      so_far.run others.0 others.1 last.1 digits few

  pub definitions-few : digits ≤ 10 → (definition_bytes bytes lines tags digits ≤ 271 * lines) × (tags * (6 + digits) ≤ tags * 16)
  definitions-few few =
      let product = product_few tags (6 + digits) 16 (omega arith) in
      (omega (arith, product, so_far.few_bytes, so_far.few_tags_lem), product)

-- ---- the loop of `fields_run`

pub record FieldsSoFar (count : ℕ) (words : List ℕ) (first lines names flags pair4 pair6 pair8 at : ℕ) : Type 0 where
  pub within : lines ≤ count
  pub place : at ≡ first + 10 * lines
  pub run : flags ≤ 1 → pair4 ≡ 0 → pair6 ≡ 0 → pair8 ≡ 0 → (digits : ℕ) → FewDigits digits names → IsRun false lines (lines * (9 + digits)) 0 (drop first words)

pub fields-begin : (count : ℕ) (words : List ℕ) (first : ℕ) → FieldsSoFar count words first 0 0 0 0 0 0 first
fields-begin count words first = record {
  within = omega arith;
  place = omega arith;
  run = λ low none4 none6 none8 digits few. run_none false _ (drop first words);
}

module _ (count : ℕ) (words : List ℕ) (first lines names flags pair4 pair6 pair8 at : ℕ)
    (so_far : FieldsSoFar count words first lines names flags pair4 pair6 pair8 at) (inside : lines < count) (fits : at + 10 ≤ length words)
    (fourth sixth eighth : ℕ) (is-fourth : fourth ≡ pair_at words (at + 4)) (is-sixth : sixth ≡ pair_at words (at + 6)) (is-eighth : eighth ≡ pair_at words (at + 8)) where
  pub field_goes_on : (head next : ℕ) → (head % 4294967296 ≡ get_or words at 0) × (head / 4294967296 ≡ get_or words (at + 1) 0)
      → (next % 4294967296 ≡ get_or words (at + 2) 0) × (next / 4294967296 ≡ get_or words (at + 2 + 1) 0)
      → head % 4294967296 ≡ 7
      → FieldsSoFar count words first (lines + 1) (bit_or names head) (bit_or flags next) (bit_or pair4 fourth) (bit_or pair6 sixth) (bit_or pair8 eighth) (at + 10)
  field_goes_on head next heads nexts is = record {
    within = omega arith;
    place = omega (arith, so_far.place);
    run = λ low none4 none6 none8 digits few.
        let both4 = or-none pair4 fourth none4 in
        let both6 = or-none pair6 sixth none6 in
        let both8 = or-none pair8 eighth none8 in
        let least = or-least flags next in
        let kind : get_or words at 0 ≡ 7 = sym heads.0 ∙ is in
        let third : at + 2 + 1 ≡ at + 3 = omega arith in
        let none3 : get_or words (at + 3) 0 ≡ 0 = sym (rw third at nexts.1) ∙ omega (arith, least, low) in
        let unused = pairs_unused words at fits none3 (sym is-fourth ∙ both4.1) (sym is-sixth ∙ both6.1) (sym is-eighth ∙ both8.1) in
        let len = field_length words at unused kind (omega (arith, least, low, nexts.0)) in
        let upto = rw heads.1 at (digits-joined digits names head few).1 in
        let here : drop (10 * lines) (drop first words) ≡ drop at words = drop-drop (10 * lines) first words ∙ rw so_far.place in
        let same : at + 0 ≡ at = omega arith in
        let first_word : get_or (drop at words) 0 0 ≡ get_or words at 0 = get_or-drop at words 0 0 ∙ rw same in
        let product : (lines + 1) * (9 + digits) ≡ lines * (9 + digits) + (9 + digits) = product_more lines (9 + digits) in
        run-longer false lines (lines * (9 + digits)) 0 (drop first words)
        (so_far.run (omega (arith, least, low)) both4.0 both6.0 both8.0 digits (digits-joined digits names head few).0)
        (rw here (λ none. omega (arith, len)))
        (9 + digits)
        (rw here (omega (arith, len, upto)))
        0 (rw (here, first_word, kind)) _ _ product (omega arith);
  }

module _ (count : ℕ) (words : List ℕ) (first lines names flags pair4 pair6 pair8 at : ℕ)
    (so_far : FieldsSoFar count words first lines names flags pair4 pair6 pair8 at) (digits : ℕ) where
  pub fields-end : bit_or (bit_or (bit_or (flags / 2) pair4) pair6) pair8 ≡ 0 → FewDigits digits names → IsRun false lines (lines * (9 + digits)) 0 (drop first words)
  fields-end none few =
      let last = or-none (bit_or (bit_or (flags / 2) pair4) pair6) pair8 none in
      let others = or-none (bit_or (flags / 2) pair4) pair6 last.0 in
      let front = or-none (flags / 2) pair4 others.0 in
      so_far.run (omega (arith, front.0)) front.1 others.1 last.1 digits few

-- ---- a run is passed over at once

module _ (state : State) (definitions : Bool) (stays : Stays state definitions) where
  run-taken : (lines count : ℕ) (words : List ℕ) (number : ℕ) → lines ≤ count
      → ((index : ℕ) → index < lines → run_length definitions (take 10 (drop (10 * index) words)) ≡ 0 → ⊥)
      → takes state number (lines_from count words) ≡ takes state (number + lines) (lines_from (count - lines) (drop (10 * lines) words))
  unfolding takes lines_from
  run-taken zero count words number within each =
      let all : count - 0 ≡ count = omega arith in
      let same : number + 0 ≡ number = omega arith in
      rw (all, same)
  run-taken (suc lines) zero words number within each = absurd (omega arith)
  run-taken (suc lines) (suc count) words number within each =
      let line = stays (take 10 words) number (each 0 (omega arith)) in
      let place : (index : ℕ) → 10 + 10 * index ≡ 10 * suc index = λ index. omega arith in
      let further = run-taken lines count (drop 10 words) (number + 1) (omega arith)
      (λ index below. rw (drop-drop (10 * index) 10 words, place index) (each (suc index) (omega arith))) in
      let numbers : number + 1 + lines ≡ number + suc lines = omega arith in
      let left : count - lines ≡ suc count - suc lines = omega arith in
      rw (line, further, drop-drop (10 * lines) 10 words, place lines, numbers, left)

among-closed : (standing : Standing) (counts : List ℕ) → is_among_definitions standing ≡ true → state_of standing counts ≡ closed_block Definitions (state_of standing counts)
unfolding is_among_definitions
among-closed standing counts among =
    let stage = is_at Definitions standing.stage in
    let part = eqb (part_number standing.part) (part_number NoBody) in
    let name = eqb standing.name 0 in
    let depth = eqb standing.depth 0 in
    let behind-stage = and_right stage (part && (name && depth)) among in
    let behind-part = and_right part (name && depth) behind-stage in
    rw (
      stage_number-once standing.stage Definitions (eqb-true _ _ (and_left stage (part && (name && depth)) among)),
      part_number-once standing.part NoBody (eqb-true _ _ (and_left part (name && depth) behind-stage)),
      eqb-true standing.name 0 (and_left name depth behind-part),
      eqb-true standing.depth 0 (and_right name depth behind-part),
    )

module _ (standing : Standing) (lines bytes tags : ℕ) (words : List ℕ) where
  pub definitions-passed : is_among_definitions standing ≡ true → IsRun true lines bytes tags words → PassedOver standing lines bytes tags words
  definitions-passed among run = record {
    stays = λ counts number count within.
        run-taken (state_of standing counts) true (definitions-stay (state_of standing counts) (among-closed standing counts among)) lines count words number within run.each;
    counted = run.counted;
    short = run.short;
  }

  pub fields-passed : standing.part ≡ Fields → IsRun false lines bytes tags words → PassedOver standing lines bytes tags words
  fields-passed part run = record {
    stays = λ counts number count within. run-taken (state_of standing counts) false (fields-stay (state_of standing counts) part) lines count words number within run.each;
    counted = run.counted;
    short = run.short;
  }

pub none_passed : (standing : Standing) (words : List ℕ) → PassedOver standing 0 0 0 words
none_passed standing words =
    let none = run_none true 0 words in
    record {
      stays = λ counts number count within. let all : count - 0 ≡ count = omega arith in let same : number + 0 ≡ number = omega arith in rw (all, same);
      counted = none.counted;
      short = none.short;
    }

-- the run that was found, and no line where none was
module _ (standing : Standing) (count : ℕ) (words : List ℕ) where
  abbrev Passed : Run → Type 0
  Passed run = PassedOver standing run.lines run.bytes run.tags words

  pub no_run : (run : Run) → (run.lines ≡ 0) × ((run.bytes ≡ 0) × (run.tags ≡ 0)) → Passed run × FewIn run count
  no_run run none = (rw (none.0, none.1.0, none.1.1) (none_passed standing words), (omega (arith, none.0), (omega (arith, none.1.0), omega (arith, none.1.1))))

  pub run_found : (found : Option Run) (run : Run)
      → UnwrapsOrElse found (λ (run : Run). (run.lines ≡ 0) × ((run.bytes ≡ 0) × (run.tags ≡ 0))) run
      → IfSome found Passed
      → IfSome found (λ run. FewIn run count)
      → Passed run × FewIn run count
  run_found None run none passed few = no_run run none
  run_found (Some found) run same passed few = (rw same passed, rw same few)
