-- The words of an accepted dictionary text pass the check of lent words, whatever stands behind them (`accepted-pass`), and are at most 131,068
-- (`accepted-size`). The converse is `PassAccepted.antt`. Assumes nothing.
--
--   bytes_in pieces   how many bytes a text has, from its pieces
use Rattle.std.specs.Prelude.{◌≡◌, Bool, ◌&&◌, ◌||◌, cond, leb, ltb, eqb, drop, Option, Some, None, Result, Ok, Err}
use Rattle.std.proofs.Math.Path.{refl, sym, ap}
use Rattle.std.proofs.Common.{◌∙◌, take_at, get_or-drop}
use Prim.Native.Nat.{ℕ, zero, suc, ◌+◌, ◌*◌, ◌≤◌, ◌<◌}
use Rattle.std.proofs.Math.Bool.{true, false}
use Rattle.std.proofs.lemmas.Bool.{false≢true}
use mathlib.Core.List.{List, [], ◌∷◌, ◌++◌, map, append_assoc}
use native.Mathlib.Omega.{arith}
use Rattle.std.proofs.Math.ListN.{length, get_or, take, length-append, length-map, get_or-append, get_or-map}
use Rattle.std.proofs.Math.Seq.{drop_at, get_or-append-add}
use borrow.Author.Tests.{le-leb, lt-ltb, ltb-true, ltb-false, eqb-true, eqb-false, eq-eqb}
use Rattle.ascii.specs.NotationLaws.{and_both}
use Rattle.ascii.specs.Bytes.{non_empty}
use Rattle.ascending.specs.Sort.{sorted, AscendingFrom, Ascending, once, how_often}
use Rattle.ascending.specs.SortLaws.{sorted-ascending, sorted-as_often, sorted-length}
use Rattle.ascending.specs.Search.{StrictlyAbove, StrictlyAscending, is_strictly_ascending}
use Rattle.ascending.specs.SearchLaws.{strictly_is_strictly_ascending}
use Rattle.refusals.specs.declared.refusal.Refusal.{Refusal}
use Rattle.line_forms.specs.declared.line.Line.{Line}
use Rattle.line_forms.specs.declared.line.Line.TheVariants.{Def, Value, BeginHeader, BeginTrailer, EndHeader, EndTrailer, Component, Message, Field, Group, Use, End, Member, RequiredTag, Unknown}
use Rattle.dictionary_order.specs.declared.dictionary_order.State.{State}
use Rattle.texts.specs.declared.dictionary_text.Counts.{Counts}
use Rattle.texts.specs.declared.dictionary_text.Defined.{Defined}
use Rattle.texts.specs.declared.dictionary_text.Defined.TheVariants.{Tag, ComponentName, MessageName}
use Rattle.refusals.specs.declared.refusal.Refusal.TheVariants.{TextTooLong, UnknownForm, NotAllowed, DefinedAgain}
use Rattle.refusals.specs.Refusal.{refusal_place}
use Rattle.lines.specs.Lines.{Pieces, last, piece, longer, cut, lines_of, line_feed}
use Rattle.line_forms.specs.LineForms.{line_of}
use Rattle.dictionary_order.specs.DictionaryOrder.{start, step_of, after, may_end}
use Rattle.texts.specs.DictionaryText.{counted, counts, defined_by, order_from, order_of, on_taken, key_of, is_in, on_key, again_from, again_of, first_of, dictionary_text_of}
use Rattle.records.specs.Records.{record_of, lines_from}
use Rattle.records.specs.RecordsLaws.{Held, HeldEnd, line_from-record_of, record_of-length}
use Rattle.records.specs.LineLengths.{digit_count_from, digit_count, end_length, length_of}
use Rattle.records.specs.WordTextLaws.{letters_length-range}
use Rattle.records.specs.LineTextsLaws.{some-digit_by}
use Rattle.records.specs.LineReadLaws.{Usable, line_of_fits}
use Rattle.dictionary.specs.DictionaryWords.{is_of, name_of, names_of, place_of, records_of, index_of, dictionary_words, lines_in}
use Rattle.dictionary.specs.DictionaryCheck.{is_taken, accepts, count_of, stands_at, stands_each, is_index, tags_at, components_at, size_of, is_dictionary}
use Rattle.definitions.specs.IndexLaws.{once-same, often_at, record_word, record_drop, record_behind, get_d_any, count_of_names, Stands}
use Rattle.definitions.specs.PassAccepted.{AllHeld, counted-lines, key_in, keys_of, tag-keys, component-keys, message-keys, tags-step, components-step, messages-step, held_small, tag_in, component_in, message_in, SmallNames, once-other, how_often-append}

-- ---- the bytes of a text

abbrev pub bytes_in : Pieces → ℕ
bytes_in (last bytes) = length bytes
bytes_in (piece bytes others) = suc (length bytes) + bytes_in others

longer-bytes : (byte : ℕ) (pieces : Pieces) → bytes_in (longer byte pieces) ≡ suc (bytes_in pieces)
unfolding longer
longer-bytes byte (last bytes) = refl
longer-bytes byte (piece bytes others) = omega arith

cut-bytes_by : (here : Bool) (first : ℕ) (pieces : Pieces) (len : ℕ) → bytes_in pieces ≡ len → bytes_in (cond here (piece [] pieces) (longer first pieces)) ≡ suc len
cut-bytes_by true first pieces len same = omega arith
cut-bytes_by false first pieces len same = longer-bytes first pieces ∙ ap suc same

cut-bytes : (byte : ℕ) (bytes : List ℕ) → bytes_in (cut byte bytes) ≡ length bytes
unfolding cut
cut-bytes byte [] = refl
cut-bytes byte (first ∷ rest) = cut-bytes_by (eqb first byte) first (cut byte rest) (length rest) (cut-bytes byte rest)

-- ---- rows 1 to 4: an accepted text's lines can be held, and are accepted

pub usable_held : (state : State) (number : ℕ) (line : Line) → is_taken (step_of state number line) ≡ true → Usable line → Held line
unfolding step_of
usable_held state number (Def tag place) taken usable = usable
usable_held state number (Value value) taken usable = usable
usable_held state number BeginHeader taken usable = tt
usable_held state number BeginTrailer taken usable = tt
usable_held state number EndHeader taken usable = tt
usable_held state number EndTrailer taken usable = tt
usable_held state number (Component name) taken usable = usable
usable_held state number (Message letters app) taken usable = usable
usable_held state number (Field tag required) taken usable = usable
usable_held state number (Group count delimiter required) taken usable = usable
usable_held state number (Use name required) taken usable = usable
usable_held state number (End name read_letters) taken usable = usable
usable_held state number (Member tag) taken usable = absurd (false≢true taken)
usable_held state number (RequiredTag tag) taken usable = absurd (false≢true taken)
usable_held state number Unknown taken usable = absurd (false≢true taken)

refused-never : {A : Type 0} (refusal : Refusal) (outcome : Counts) → Err refusal ≡ Ok outcome → A
refused-never refusal outcome same = let never : ◌≡◌ {A = ℕ} 0 1 = cc in absurd (omega arith)

end_by : (some ends : Bool) (read outcome : Counts) (one two : Refusal) → cond some (Err one) (cond ends (Ok read) (Err two)) ≡ Ok outcome → ends ≡ true
end_by true ends read outcome one two same = refused-never one outcome same
end_by false true read outcome one two same = refl
end_by false false read outcome one two same = refused-never two outcome same

pub fault_by : (state : State) (step : Result State Refusal) (goes_on : State → Result Counts Refusal) (outcome : Counts) → on_taken step goes_on ≡ Ok outcome
    → (is_taken step ≡ true) × (goes_on (after state step) ≡ Ok outcome)
fault_by state (Ok next) goes_on outcome same = (refl, same)
fault_by state (Err refusal) goes_on outcome same = refused-never refusal outcome same

order-accepts : (state : State) (read : Counts) (number total : ℕ) (pieces : Pieces) (outcome : Counts)
    → number ≡ read.lines + 1
    → order_from state read pieces ≡ Ok outcome
    → total + bytes_in pieces ≤ 65536
    → AllHeld (lines_in pieces) × (accepts state number total (lines_in pieces) ≡ true)
unfolding order_from lines_in accepts
order-accepts state read number total (last bytes) outcome same order few =
    (tt, end_by (non_empty bytes) (may_end state) read outcome (UnknownForm (read.lines + 1)) (NotAllowed (read.lines + 1)) order)
order-accepts state read number total (piece bytes others) outcome same order few =
    let line = line_of bytes in
    let step = step_of state number line in
    let parts = fault_by state step (λ next. order_from next (counted read (defined_by line)) others) outcome (rw (← same) at order) in
    let fits = line_of_fits bytes in
    let held = usable_held state number line parts.0 fits.0 in
    let deeper =
    order-accepts (after state step) (counted read (defined_by line)) (number + 1) (total + (length_of line + 1)) others outcome (counted-lines read line number same) parts.1
    (omega (arith, fits.1)) in (
      (held, deeper.0),
      and_both (is_taken step) _ parts.0
          (and_both (leb (total + (length_of line + 1)) 65536) _ (le-leb (total + (length_of line + 1)) 65536 (omega (arith, fits.1))) deeper.1),
    )

-- ---- their records are read as these lines

pub lines_from_records : (lines : List Line) (more : List ℕ) → AllHeld lines → lines_from (length lines) (records_of lines ++ more) ≡ lines
unfolding lines_from records_of
lines_from_records [] more held = refl
lines_from_records (line ∷ rest) more held =
    rw (
      append_assoc (record_of line) (records_of rest) more,
      take_at (record_of line) (records_of rest ++ more) 10 (record_of-length line),
      record_drop line (records_of rest ++ more),
      line_from-record_of line held.0,
      lines_from_records rest more held.1,
    )

-- ---- row 5: each name is there once

seen-none_by : (same : Bool) (key first : ℕ) (rest : List ℕ) → eqb first key ≡ same → same || is_in key rest ≡ false → (is_in key rest ≡ false → how_often key rest ≡ 0) → once key first + how_often key rest ≡ 0
unfolding once
seen-none_by true key first rest test none deeper = absurd (false≢true (sym none))
seen-none_by false key first rest test none deeper = rw test (omega (arith, deeper none))

seen_none : (key : ℕ) (seen : List ℕ) → is_in key seen ≡ false → how_often key seen ≡ 0
unfolding is_in how_often
seen_none key [] none = refl
seen_none key (first ∷ rest) none = seen-none_by (eqb first key) key first rest refl none (seen_none key rest)

one-more_by : (same : Bool) (each key : ℕ) (seen : List ℕ) → eqb key each ≡ same → how_often key seen ≡ 0 → how_often each seen ≤ 1 → how_often each seen + once each key ≤ 1
unfolding once
one-more_by true each key seen test none few = rw test (omega (arith, ap (λ (word : ℕ). how_often word seen) (eqb-true key each test)))
one-more_by false each key seen test none few = rw test (omega arith)

nowhere-key_by : (found : Bool) (key : ℕ) (seen keys : List ℕ) (number : ℕ) (goes_on : List ℕ → Option ℕ)
    → is_in key seen ≡ found
    → cond found (Some number) (goes_on (seen ++ (key ∷ []))) ≡ None
    → ((each : ℕ) → how_often each seen ≤ 1)
    → ((more : List ℕ) → goes_on more ≡ None → ((each : ℕ) → how_often each more ≤ 1) → (each : ℕ) → how_often each more + how_often each keys ≤ 1)
    → (each : ℕ)
    → how_often each seen + how_often each (key ∷ keys) ≤ 1
unfolding how_often
nowhere-key_by true key seen keys number goes_on test nowhere few deeper each = let never : ◌≡◌ {A = ℕ} 0 1 = cc in absurd (omega arith)
nowhere-key_by false key seen keys number goes_on test nowhere few deeper each =
    let none = seen_none key seen test in
    let joined : (word : ℕ) → how_often word (seen ++ (key ∷ [])) ≡ how_often word seen + once word key =
    λ word. omega (arith, how_often-append word seen (key ∷ [])) in
    omega (
      arith,
      deeper (seen ++ (key ∷ [])) nowhere (λ word. omega (arith, joined word, one-more_by (eqb key word) word key seen refl none (few word))) each,
      joined each,
    )

nowhere-by : (key : Option ℕ) (seen keys : List ℕ) (number : ℕ) (goes_on : List ℕ → Option ℕ)
    → on_key key seen number goes_on ≡ None
    → ((each : ℕ) → how_often each seen ≤ 1)
    → ((more : List ℕ) → goes_on more ≡ None → ((each : ℕ) → how_often each more ≤ 1) → (each : ℕ) → how_often each more + how_often each keys ≤ 1)
    → (each : ℕ)
    → how_often each seen + how_often each (key_in key ++ keys) ≤ 1
nowhere-by (Some key) seen keys number goes_on nowhere few deeper each = nowhere-key_by (is_in key seen) key seen keys number goes_on refl nowhere few deeper each
nowhere-by None seen keys number goes_on nowhere few deeper each = deeper seen nowhere few each

nowhere-once : (seen : List ℕ) (number : ℕ) (pieces : Pieces) → again_from seen number pieces ≡ None
    → ((each : ℕ) → how_often each seen ≤ 1)
    → (each : ℕ)
    → how_often each seen + how_often each (keys_of (lines_in pieces)) ≤ 1
unfolding again_from lines_in keys_of
nowhere-once seen number (last bytes) nowhere few each = unfold how_often in omega (arith, few each)
nowhere-once seen number (piece bytes others) nowhere few each =
    nowhere-by (key_of (defined_by (line_of bytes))) seen (keys_of (lines_in others)) number (λ (more : List ℕ). again_from more (number + 1) others) nowhere few
    (λ more none small. nowhere-once more (number + 1) others none small)
    each

large_tag : (name : ℕ) (defined : Option Defined) (names : List ℕ) → SmallNames defined → 4294967296 ≤ name → how_often name names ≡ 0 → how_often name (tag_in defined ++ names) ≡ 0
unfolding how_often
large_tag name (Some (Tag tag)) names small large none = omega (arith, once-other name tag (λ same. omega arith))
large_tag name (Some (ComponentName other)) names small large none = none
large_tag name (Some (MessageName letters)) names small large none = none
large_tag name None names small large none = none

large_component : (name : ℕ) (defined : Option Defined) (names : List ℕ) → SmallNames defined → 4294967296 ≤ name → how_often name names ≡ 0 → how_often name (component_in defined ++ names) ≡ 0
unfolding how_often
large_component name (Some (Tag tag)) names small large none = none
large_component name (Some (ComponentName other)) names small large none = omega (arith, once-other name other (λ same. omega arith))
large_component name (Some (MessageName letters)) names small large none = none
large_component name None names small large none = none

tags-large : (name : ℕ) (lines : List Line) → AllHeld lines → 4294967296 ≤ name → how_often name (names_of 1 lines) ≡ 0
tags-large name [] held large = unfold names_of how_often in refl
tags-large name (line ∷ rest) held large =
    rw (tags-step line rest) (large_tag name (defined_by line) (names_of 1 rest) (held_small line held.0) large (tags-large name rest held.1 large))

components-large : (name : ℕ) (lines : List Line) → AllHeld lines → 4294967296 ≤ name → how_often name (names_of 5 lines) ≡ 0
components-large name [] held large = unfold names_of how_often in refl
components-large name (line ∷ rest) held large =
    rw (components-step line rest) (large_component name (defined_by line) (names_of 5 rest) (held_small line held.0) large (components-large name rest held.1 large))

module _ (lines : List Line) (held : AllHeld lines) (keys : (key : ℕ) → how_often key (keys_of lines) ≤ 1) where
  tags-by : (name : ℕ) (low : Bool) → ltb name 4294967296 ≡ low → how_often name (names_of 1 lines) ≤ 1
  tags-by name true test = rw (← tag-keys name lines (ltb-true name 4294967296 test)) (keys name)
  tags-by name false test = omega (arith, tags-large name lines held (ltb-false name 4294967296 test))

  components-by : (name : ℕ) (low : Bool) → ltb name 4294967296 ≡ low → how_often name (names_of 5 lines) ≤ 1
  components-by name true test = rw (← component-keys name lines held (ltb-true name 4294967296 test)) (keys (4294967296 + name))
  components-by name false test = omega (arith, components-large name lines held (ltb-false name 4294967296 test))

  pub tags-once : (name : ℕ) → how_often name (names_of 1 lines) ≤ 1
  tags-once name = tags-by name (ltb name 4294967296) refl

  pub components-once : (name : ℕ) → how_often name (names_of 5 lines) ≤ 1
  components-once name = components-by name (ltb name 4294967296) refl

  pub messages-once : (name : ℕ) → how_often name (names_of 6 lines) ≤ 1
  messages-once name = rw (← message-keys name lines held) (keys (8589934592 + name))

-- ---- the index of a kind passes

strict_by : (word next : ℕ) (more : List ℕ) (same : Bool) → eqb next word ≡ same → word ≤ next → how_often word (word ∷ next ∷ more) ≤ 1 → word < next
unfolding how_often
strict_by word next more true test order few =
    absurd (omega (arith, once-same word, ap (λ (each : ℕ). once word each) (eqb-true next word test)))
strict_by word next more false test order few = let differ = eqb-false next word test in omega arith

strictly_from : (word : ℕ) (rest : List ℕ) → AscendingFrom word rest → ((each : ℕ) → how_often each (word ∷ rest) ≤ 1) → StrictlyAbove word rest
unfolding how_often
strictly_from word [] ascends few = tt
strictly_from word (next ∷ more) ascends few = (
  strict_by word next more (eqb next word) refl ascends.0 (few word),
  strictly_from next more ascends.1 (λ each. omega (arith, few each)),
)

pub strictly_once : (words : List ℕ) → Ascending words → ((each : ℕ) → how_often each words ≤ 1) → StrictlyAscending words
strictly_once [] ascends few = tt
strictly_once (word ∷ rest) ascends few = strictly_from word rest ascends.1 few

stands-all : (kind count : ℕ) (words : List ℕ) (left at : ℕ)
    → ((rank : ℕ) → rank < left → stands_at kind (get_or words (at + rank) 0) (get_or words (at + rank + count) 0) words ≡ true)
    → stands_each kind count at left words ≡ true
unfolding stands_each
stands-all kind count words zero at each = refl
stands-all kind count words (suc left) at each =
    let same : at + 0 ≡ at = omega arith in
    and_both (stands_at kind (get_or words at 0) (get_or words (at + count) 0) words) _
    (rw same at (each 0 (omega arith)))
    (stands-all kind count words left (at + 1)
    (λ rank inside. let next : at + suc rank ≡ at + 1 + rank = omega arith in rw next at (each (suc rank) (omega arith))))

module _ (kind name : ℕ) (line : Line) (rest : List Line) where
  first-stands : is_of kind line ≡ true → eqb (name_of line) name ≡ true → Stands kind name 0 (line ∷ rest)
  unfolding records_of is_of name_of
  first-stands is named = (
    omega arith,
    (
      record_word line (records_of rest) 0 (omega arith) ∙ eqb-true (get_or (record_of line) 0 0) kind is,
      record_word line (records_of rest) 1 (omega arith) ∙ eqb-true (get_or (record_of line) 1 0) name named,
    ),
  )

  later-stands : (number : ℕ) → Stands kind name number rest → Stands kind name (suc number) (line ∷ rest)
  unfolding records_of
  later-stands number stands =
      let first : 10 * suc number ≡ 10 + 10 * number = omega arith in
      let second : 10 * suc number + 1 ≡ 10 + (10 * number + 1) = omega arith in (
        omega (arith, stands.0),
        (
          ap (λ (place : ℕ). get_or (record_of line ++ records_of rest) place 0) first ∙ record_behind line (records_of rest) (10 * number) ∙ stands.1.0,
          ap (λ (place : ℕ). get_or (record_of line ++ records_of rest) place 0) second ∙ record_behind line (records_of rest) (10 * number + 1) ∙ stands.1.1,
        ),
      )

  place-by : (of' same : Bool)
      → is_of kind line ≡ of'
      → eqb (name_of line) name ≡ same
      → (1 ≤ how_often name (names_of kind rest) → Stands kind name (place_of kind name rest) rest)
      → 1 ≤ how_often name (cond of' (name_of line ∷ names_of kind rest) (names_of kind rest))
      → Stands kind name (cond (of' && same) 0 (suc (place_of kind name rest))) (line ∷ rest)
  unfolding how_often
  place-by true true is named deeper some = first-stands is named
  place-by true false is named deeper some =
      let other : once name (name_of line) ≡ 0 = unfold once in rw named in
      later-stands (place_of kind name rest) (deeper (omega arith))
  place-by false same is named deeper some = later-stands (place_of kind name rest) (deeper some)

pub place-stands : (kind name : ℕ) (lines : List Line) → 1 ≤ how_often name (names_of kind lines) → Stands kind name (place_of kind name lines) lines
unfolding names_of place_of
place-stands kind name [] some = absurd (unfold how_often in omega arith)
place-stands kind name (line ∷ rest) some = place-by kind name line rest (is_of kind line) (eqb (name_of line) name) refl refl (place-stands kind name rest) some

pub records_of-length : (lines : List Line) → length (records_of lines) ≡ 10 * length lines
unfolding records_of
records_of-length [] = refl
records_of-length (line ∷ rest) = omega (arith, length-append (record_of line) (records_of rest), record_of-length line, records_of-length rest)

-- words that begin with four words and the records of the lines
module _ (words : List ℕ) (lines : List Line) (behind : List ℕ) (counted' : get_or words 0 0 ≡ length lines) (records : drop 4 words ≡ records_of lines ++ behind) where
  word-of_record : (place : ℕ) → place < 10 * length lines → get_or words (4 + place) 0 ≡ get_or (records_of lines) place 0
  word-of_record place inside =
      sym (get_or-drop 4 words place 0) ∙ rw records (get_or-append (records_of lines) behind 0 place (omega (arith, records_of-length lines)))

  stands-stands_at : (kind name number : ℕ) → Stands kind name number lines → stands_at kind name number words ≡ true
  unfolding stands_at
  stands-stands_at kind name number stands =
      let inside = stands.0 in
      let further : 4 + 10 * number + 1 ≡ 4 + (10 * number + 1) = omega arith in
      rw (
        counted',
        lt-ltb number (length lines) inside,
        eq-eqb (get_or words (4 + 10 * number) 0) kind (word-of_record (10 * number) (omega arith) ∙ stands.1.0),
        further,
        eq-eqb (get_or words (4 + (10 * number + 1)) 0) name (word-of_record (10 * number + 1) (omega arith) ∙ stands.1.1),
      )

  -- and have the index of a kind behind `front`
  module _ (kind at : ℕ) (front past : List ℕ) (whole : words ≡ front ++ (index_of kind lines ++ past)) (begins : length front ≡ at)
      (few : (name : ℕ) → how_often name (names_of kind lines) ≤ 1) where
    index-names : List ℕ
    index-names = sorted (names_of kind lines)

    index-places : List ℕ
    index-places = map (λ name. place_of kind name lines) (sorted (names_of kind lines))

    index-part : drop at words ≡ index-names ++ (index-places ++ past)
    unfolding index_of index-names index-places
    index-part = rw (whole, drop_at front (index_of kind lines ++ past) at begins) (append_assoc (sorted (names_of kind lines)) index-places past)

    names-count : length index-names ≡ length (names_of kind lines)
    unfolding index-names
    names-count = sorted-length (names_of kind lines)

    name-at : (rank : ℕ) → rank < length (names_of kind lines) → get_or words (at + rank) 0 ≡ get_or index-names rank 0
    name-at rank inside =
        sym (get_or-drop at words rank 0) ∙ rw index-part (get_or-append index-names (index-places ++ past) 0 rank (omega (arith, names-count)))

    place_at : (rank : ℕ) → rank < length (names_of kind lines) → get_or words (at + rank + length (names_of kind lines)) 0 ≡ place_of kind (get_or index-names rank 0) lines
    unfolding index-places
    place_at rank inside =
        let count = names-count in
        let order : at + rank + length (names_of kind lines) ≡ at + (length index-names + rank) = omega arith in
        let places : length index-places ≡ length index-names = length-map (sorted (names_of kind lines)) (λ name. place_of kind name lines) ∙ (unfold index-names in refl) in
        ap (λ (place : ℕ). get_or words place 0) order
        ∙ sym (get_or-drop at words (length index-names + rank) 0)
        ∙ ap (λ (part : List ℕ). get_or part (length index-names + rank) 0) index-part
        ∙ get_or-append-add index-names (index-places ++ past) rank 0
        ∙ get_or-append index-places past 0 rank (omega arith)
        ∙ get_d_any index-places rank 0 (place_of kind 0 lines) (omega arith)
        ∙ get_or-map (λ (name : ℕ). place_of kind name lines) (sorted (names_of kind lines)) rank 0
        ∙ (unfold index-names in refl)

    pub index-passes : is_index kind at (length (names_of kind lines)) words ≡ true
    unfolding is_index
    index-passes =
        let count = length (names_of kind lines) in
        let counts_same : count_of kind (get_or words 0 0) (drop 4 words) ≡ count = rw (counted', records) (count_of_names kind lines behind) in
        let part : take count (drop at words) ≡ index-names = rw index-part (take_at index-names (index-places ++ past) count names-count) in
        let ascends : StrictlyAscending index-names = unfold index-names in
        strictly_once (sorted (names_of kind lines)) (sorted-ascending (names_of kind lines)) (λ each. rw (sorted-as_often (names_of kind lines) each) (few each)) in
        and_both (eqb (count_of kind (get_or words 0 0) (drop 4 words)) count) _ (eq-eqb _ _ counts_same)
        (and_both (is_strictly_ascending (take count (drop at words))) _ (rw part (strictly_is_strictly_ascending index-names ascends))
        (stands-all kind count words count at
        (λ rank inside.
        rw (name-at rank inside, place_at rank inside)
        (stands-stands_at kind (get_or index-names rank 0) (place_of kind (get_or index-names rank 0) lines)
        (place-stands kind (get_or index-names rank 0) lines
        (unfold index-names in rw (← sorted-as_often (names_of kind lines) (get_or (sorted (names_of kind lines)) rank 0)) (often_at (sorted (names_of kind lines)) rank (omega (arith, names-count)))))))))

-- ---- the words of an accepted text

earlier_by : (test : Bool) (one two : Refusal) (outcome : Counts) → cond test (Err one) (Err two) ≡ Ok outcome → ⊥
earlier_by true one two outcome same = refused-never one outcome same
earlier_by false one two outcome same = refused-never two outcome same

text-by : (long : Bool) (again : Option ℕ) (order : Result Counts Refusal) (outcome : Counts)
    → cond long (Err TextTooLong) (first_of again order) ≡ Ok outcome
    → (long ≡ false) × ((again ≡ None) × (order ≡ Ok outcome))
text-by true again order outcome same = refused-never TextTooLong outcome same
text-by false (Some line) (Ok read) outcome same = refused-never (DefinedAgain line) outcome same
text-by false (Some line) (Err refusal) outcome same = absurd (earlier_by (ltb line (refusal_place refusal)) (DefinedAgain line) refusal outcome same)
text-by false None order outcome same = (refl, (refl, same))

-- what is known of an accepted text: its length, row 5, and rows 2 to 4
pub accepted-parts : (text : List ℕ) (outcome : Counts) → dictionary_text_of text ≡ Ok outcome
    → (length text ≤ 65536) × ((again_of text ≡ None) × (order_of text ≡ Ok outcome))
unfolding dictionary_text_of
accepted-parts text outcome accepted =
    let parts = text-by (ltb 65536 (length text)) (again_of text) (order_of text) outcome accepted in
    (ltb-false 65536 (length text) parts.0, parts.1)

pub index_of_length : (kind : ℕ) (lines : List Line) → length (index_of kind lines) ≡ 2 * length (names_of kind lines)
unfolding index_of
index_of_length kind lines =
    let names = sorted (names_of kind lines) in
    omega (
      arith,
      length-append names (map (λ name. place_of kind name lines) names),
      length-map names (λ name. place_of kind name lines),
      sorted-length (names_of kind lines),
    )

pub dictionary_words-length : (lines : List Line)
    → length (dictionary_words lines) ≡ 4 + 10 * length lines + 2 * length (names_of 1 lines) + 2 * length (names_of 5 lines) + 2 * length (names_of 6 lines)
unfolding dictionary_words
dictionary_words-length lines =
    omega (
      arith,
      length-append (records_of lines) (index_of 1 lines ++ (index_of 5 lines ++ index_of 6 lines)),
      length-append (index_of 1 lines) (index_of 5 lines ++ index_of 6 lines),
      length-append (index_of 5 lines) (index_of 6 lines),
      records_of-length lines,
      index_of_length 1 lines,
      index_of_length 5 lines,
      index_of_length 6 lines,
    )

module _ (lines : List Line) (more : List ℕ) (held : AllHeld lines) (accepted : accepts start 1 0 lines ≡ true)
    (keys : (key : ℕ) → how_often key (keys_of lines) ≤ 1) where
  front : List ℕ → List ℕ
  front rest = length lines ∷ length (names_of 1 lines) ∷ length (names_of 5 lines) ∷ length (names_of 6 lines) ∷ rest

  all_words : List ℕ
  all_words = dictionary_words lines ++ more

  records-first : drop 4 all_words ≡ records_of lines ++ ((index_of 1 lines ++ (index_of 5 lines ++ index_of 6 lines)) ++ more)
  unfolding all_words dictionary_words
  records-first = append_assoc (records_of lines) (index_of 1 lines ++ (index_of 5 lines ++ index_of 6 lines)) more

  lines-first : get_or all_words 0 0 ≡ length lines
  unfolding all_words dictionary_words
  lines-first = refl

  tags-pass : is_index 1 (4 + 10 * length lines) (length (names_of 1 lines)) all_words ≡ true
  tags-pass =
      index-passes all_words lines ((index_of 1 lines ++ (index_of 5 lines ++ index_of 6 lines)) ++ more) lines-first records-first 1 (4 + 10 * length lines)
      (front (records_of lines)) ((index_of 5 lines ++ index_of 6 lines) ++ more)
      (unfold all_words dictionary_words front in simp append_assoc)
      (unfold front in omega (arith, records_of-length lines))
      (tags-once lines held keys)

  components-pass : is_index 5 (4 + 10 * length lines + 2 * length (names_of 1 lines)) (length (names_of 5 lines)) all_words ≡ true
  components-pass =
      index-passes all_words lines ((index_of 1 lines ++ (index_of 5 lines ++ index_of 6 lines)) ++ more) lines-first records-first 5
      (4 + 10 * length lines + 2 * length (names_of 1 lines))
      (front (records_of lines ++ index_of 1 lines)) (index_of 6 lines ++ more)
      (unfold all_words dictionary_words front in simp append_assoc)
      (unfold front in omega (arith, length-append (records_of lines) (index_of 1 lines), records_of-length lines, index_of_length 1 lines))
      (components-once lines held keys)

  messages-pass : is_index 6 (4 + 10 * length lines + 2 * length (names_of 1 lines) + 2 * length (names_of 5 lines)) (length (names_of 6 lines)) all_words ≡ true
  messages-pass =
      index-passes all_words lines ((index_of 1 lines ++ (index_of 5 lines ++ index_of 6 lines)) ++ more) lines-first records-first 6
      (4 + 10 * length lines + 2 * length (names_of 1 lines) + 2 * length (names_of 5 lines))
      (front (records_of lines ++ (index_of 1 lines ++ index_of 5 lines))) more
      (unfold all_words dictionary_words front in simp append_assoc)
      (unfold front in omega (
        arith,
        length-append (records_of lines) (index_of 1 lines ++ index_of 5 lines),
        length-append (index_of 1 lines) (index_of 5 lines),
        records_of-length lines,
        index_of_length 1 lines,
        index_of_length 5 lines,
      ))
      (messages-once lines held keys)

  size_fits : 4 + 10 * length lines + 2 * length (names_of 1 lines) + 2 * length (names_of 5 lines) + 2 * length (names_of 6 lines) ≤ length all_words
  unfolding all_words
  size_fits = omega (arith, length-append (dictionary_words lines) more, dictionary_words-length lines)

  arrangement_passes : is_dictionary all_words ≡ true
  unfolding is_dictionary all_words dictionary_words
  arrangement_passes =
      and_both (leb 4 (length all_words)) _ (le-leb 4 (length all_words) (omega (arith, size_fits)))
      (and_both (leb (size_of all_words) (length all_words)) _ (le-leb (size_of all_words) (length all_words) size_fits)
      (and_both (accepts start 1 0 (lines_from (length lines) (drop 4 all_words))) _
      (rw (records-first, lines_from_records lines ((index_of 1 lines ++ (index_of 5 lines ++ index_of 6 lines)) ++ more) held) accepted)
      (and_both (is_index 1 (tags_at all_words) (length (names_of 1 lines)) all_words) _ tags-pass
      (and_both (is_index 5 (components_at all_words) (length (names_of 5 lines)) all_words) _ components-pass messages-pass))))

module _ (text : List ℕ) (outcome : Counts) (accepted : dictionary_text_of text ≡ Ok outcome) where
  pub text-lines : AllHeld (lines_in (lines_of text)) × (accepts start 1 0 (lines_in (lines_of text)) ≡ true)
  unfolding order_of
  text-lines =
      let parts = accepted-parts text outcome accepted in
      order-accepts start (counts 0 0 0 0) 1 0 (lines_of text) outcome refl parts.1.1 (omega (arith, parts.0, cut-bytes line_feed text))

  pub text-keys : (key : ℕ) → how_often key (keys_of (lines_in (lines_of text))) ≤ 1
  unfolding again_of how_often
  text-keys key =
      omega (arith, nowhere-once [] 1 (lines_of text) (accepted-parts text outcome accepted).1.0 (λ each. omega arith) key)

  pub accepted-pass : (more : List ℕ) → is_dictionary (dictionary_words (lines_in (lines_of text)) ++ more) ≡ true
  unfolding all_words
  accepted-pass more = arrangement_passes (lines_in (lines_of text)) more text-lines.0 text-lines.1 text-keys

-- ---- "no dictionary and no layout takes more than 262,144 words"

some_digits : (n : ℕ) → 1 ≤ digit_count n
unfolding digit_count
some_digits n = some-digit_by (ltb n 10) (digit_count_from 9 100 n)

end-long : (number : Option ℕ) (letters : Option ℕ) → HeldEnd number letters → 5 ≤ end_length number letters
end-long read_number (Some letters) held = omega (arith, letters_length-range letters)
end-long (Some number) None held = omega (arith, some_digits number)
end-long None None held = absurd held

-- a line has at least five bytes, as `end=0` has
held-long : (line : Line) → Held line → 5 ≤ length_of line
unfolding length_of
held-long (Def tag place) held = omega arith
held-long (Value value) held = omega arith
held-long BeginHeader held = omega arith
held-long BeginTrailer held = omega arith
held-long EndHeader held = omega arith
held-long EndTrailer held = omega arith
held-long (Component name) held = omega arith
held-long (Message letters app) held = omega arith
held-long (Field tag required) held = omega arith
held-long (Group count delimiter required) held = omega arith
held-long (Use name required) held = omega arith
held-long (End number letters) held = end-long number letters held
held-long (Member tag) held = absurd held
held-long (RequiredTag tag) held = absurd held
held-long Unknown held = absurd held

lines-few : (pieces : Pieces) → AllHeld (lines_in pieces) → 6 * length (lines_in pieces) ≤ bytes_in pieces
unfolding lines_in
lines-few (last bytes) held = omega arith
lines-few (piece bytes others) held = omega (arith, held-long (line_of bytes) held.0, (line_of_fits bytes).1, lines-few others held.1)

names-by : (defined : Option Defined) → length (tag_in defined) + length (component_in defined) + length (message_in defined) ≤ 1
names-by (Some (Tag tag)) = omega arith
names-by (Some (ComponentName name)) = omega arith
names-by (Some (MessageName letters)) = omega arith
names-by None = omega arith

-- a line defines at most one thing
names-few : (lines : List Line) → length (names_of 1 lines) + length (names_of 5 lines) + length (names_of 6 lines) ≤ length lines
names-few [] = unfold names_of in omega arith
names-few (line ∷ rest) =
    omega (
      arith,
      ap length (tags-step line rest) ∙ length-append (tag_in (defined_by line)) (names_of 1 rest),
      ap length (components-step line rest) ∙ length-append (component_in (defined_by line)) (names_of 5 rest),
      ap length (messages-step line rest) ∙ length-append (message_in (defined_by line)) (names_of 6 rest),
      names-by (defined_by line),
      names-few rest,
    )

-- 10,922 lines of six bytes with their line feeds fill a text; each takes ten words and at most two in an index
pub accepted-size : (text : List ℕ) (outcome : Counts) → dictionary_text_of text ≡ Ok outcome → length (dictionary_words (lines_in (lines_of text))) ≤ 131068
accepted-size text outcome accepted =
    let lines = lines_in (lines_of text) in
    omega (
      arith,
      dictionary_words-length lines,
      names-few lines,
      lines-few (lines_of text) (text-lines text outcome accepted).0,
      cut-bytes line_feed text,
      (accepted-parts text outcome accepted).0,
    )
