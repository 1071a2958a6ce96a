-- Laws of `DictionaryCheck.antt`: its loops, turn by turn, and its tests, one by one. Assumes nothing.
use Rattle.std.specs.Prelude.{◌≡◌, refl, Bool, cond, ◌&&◌, List, [], ◌∷◌, leb, eqb, length, get_or, take, is_some, Option, Some, None, Result, Ok, Err}
use Rattle.std.specs.Bool.{then_some}
use Rattle.std.specs.List.{list_all, zip}
use Rattle.std.proofs.Math.Path.{sym}
use Rattle.std.proofs.Common.{subst, ◌∙◌, add-one, length-take, length-drop, drop-cons, get_or-drop}
use Prim.Native.Nat.{ℕ, zero, suc, ◌+◌, ◌*◌, ◌-◌, ◌≤◌, ◌<◌}
use Rattle.std.proofs.Math.Bool.{true, false}
use Rattle.std.proofs.lemmas.Bool.{false≢true}
use native.Mathlib.Omega.{arith}
use Rattle.std.proofs.Math.ListN.{drop}
use Rattle.std.proofs.Math.Seq.{drop-drop}
use borrow.Author.Tests.{le-leb, lt-leb, leb-true, leb-false, eq-eqb, ne_eqb}
use Rattle.ascii.specs.NotationLaws.{and_left, and_right, and-true, and-false, and_assoc}
use Rattle.ascending.specs.Search.{is_strictly_ascending}
use Rattle.line_forms.specs.declared.line.Line.{Line}
use Rattle.line_forms.specs.declared.line.Line.TheVariants.{Def, Value, BeginHeader, BeginTrailer, EndHeader, EndTrailer, Component, Message, Field, Group, Use, End, Member, RequiredTag, Unknown}
use Rattle.refusals.specs.declared.refusal.Refusal.{Refusal}
use Rattle.dictionary_order.specs.declared.dictionary_order.State.{State}
use Rattle.dictionary_order.specs.DictionaryOrder.{start, step_of, after, may_end}
use Rattle.texts.specs.DictionaryOrderLaws.{step-depth}
use Rattle.records.specs.Records.{line_from, lines_from}
use Rattle.records.specs.KnownLines.{is_known, AreKnown}
use Rattle.records.specs.LineLengths.{length_of, text_length}
use Rattle.dictionary.specs.declared.line_order.Standing.{Standing}
use Rattle.dictionary.specs.LineOrder.{state_of, kept_of, standing_of}
use Rattle.dictionary.specs.LineOrderLaws.{state_again}
use Rattle.dictionary.specs.LineRuns.{PassedOver}
use Rattle.dictionary.specs.LineRunsLaws.{count_of_step, count_of_behind}
use Rattle.records.specs.LineLengthLaws.{line_from-few, text_length-after}
use Rattle.dictionary.specs.DictionaryWords as kinds
use Rattle.dictionary.specs.DictionaryCheck.{is_taken, accepts, count_of, stands_at, stands_each, is_index, tags_at, components_at, messages_at, size_of, is_dictionary}
use Rattle.dictionary.specs.LinesTaken.{takes, count_one, Counted}

-- ---- lines_from

pub lines_from_step : (count : ℕ) (words : List ℕ) (at : ℕ) → lines_from (suc count) (drop at words) ≡ line_from (take 10 (drop at words)) ∷ lines_from count (drop (at + 10) words)
unfolding lines_from
lines_from_step count words at = rw (drop-drop 10 at words)

-- ---- accepts: its two halves

module _ (line : Line) (rest : List Line) (state : State) (number total : ℕ)
    (halves : (state : State) (number total : ℕ) → total ≤ 65536 → accepts state number total rest ≡ (takes state number rest && leb (total + text_length rest) 65536)) where
  abbrev all : ℕ
  all = total + (length_of line + 1)

  line-by : (fits : Bool) → leb all 65536 ≡ fits
      → accepts state number total (line ∷ rest) ≡ (takes state number (line ∷ rest) && leb (total + text_length (line ∷ rest)) 65536)
  unfolding accepts takes text_length
  line-by true fits =
      let step = step_of state number line in
      let together : all + text_length rest ≡ total + (length_of line + 1 + text_length rest) = omega arith in
      rw (fits, halves (after state step) (number + 1) all (leb-true all 65536 fits), together)
      (sym (and_assoc (is_taken step) (takes (after state step) (number + 1) rest) (leb (total + (length_of line + 1 + text_length rest)) 65536)))
  line-by false long =
      let step = step_of state number line in
      let over = leb-false all 65536 long in
      rw (long, lt-leb (total + (length_of line + 1 + text_length rest)) 65536 (omega arith), and-false (is_taken step))
      (sym (and-false (is_taken step && takes (after state step) (number + 1) rest)))

pub accepts_halves : (lines : List Line) (state : State) (number total : ℕ) → total ≤ 65536
    → accepts state number total lines ≡ (takes state number lines && leb (total + text_length lines) 65536)
unfolding accepts takes text_length
accepts_halves [] state number total few = rw (le-leb (total + 0) 65536 (omega arith)) (sym (and-true (may_end state)))
accepts_halves (line ∷ rest) state number total few =
    line-by line rest state number total (λ state number total few. accepts_halves rest state number total few) (leb (total + (length_of line + 1)) 65536) refl

module _ (lines : List Line) where
  pub accepts-not_taken : takes start 1 lines ≡ false → accepts start 1 0 lines ≡ false
  accepts-not_taken fails = accepts_halves lines start 1 0 (omega arith) ∙ rw fails

  module _ (takes_all : takes start 1 lines ≡ true) where
    pub accepts-short : text_length lines ≤ 65536 → accepts start 1 0 lines ≡ true
    accepts-short few = accepts_halves lines start 1 0 (omega arith) ∙ rw (takes_all, le-leb (0 + text_length lines) 65536 (omega arith))

    pub accepts-long : 65536 < text_length lines → accepts start 1 0 lines ≡ false
    accepts-long over = accepts_halves lines start 1 0 (omega arith) ∙ rw (takes_all, lt-leb (0 + text_length lines) 65536 (omega arith))

-- ---- takes: lines that are taken are of known forms

taken-known : (state : State) (number : ℕ) (line : Line) → is_taken (step_of state number line) ≡ true → is_known line ≡ true
unfolding is_known step_of
taken-known state number (Def tag place) taken = refl
taken-known state number (Value value) taken = refl
taken-known state number BeginHeader taken = refl
taken-known state number BeginTrailer taken = refl
taken-known state number EndHeader taken = refl
taken-known state number EndTrailer taken = refl
taken-known state number (Component name) taken = refl
taken-known state number (Message letters app) taken = refl
taken-known state number (Field tag required) taken = refl
taken-known state number (Group count delimiter required) taken = refl
taken-known state number (Use name required) taken = refl
taken-known state number (End name read_letters) taken = refl
taken-known state number (Member tag) taken = refl
taken-known state number (RequiredTag tag) taken = refl
taken-known state number Unknown taken = absurd (false≢true taken)

pub takes-known : (lines : ℕ) (words : List ℕ) (state : State) (number : ℕ) → takes state number (lines_from lines words) ≡ true → AreKnown lines words
unfolding takes lines_from
takes-known zero words state number all index inside = absurd (omega arith)
takes-known (suc lines) words state number all zero inside =
    let step = step_of state number (line_from (take 10 words)) in
    taken-known state number (line_from (take 10 words)) (and_left (is_taken step) (takes (after state step) (number + 1) (lines_from lines (drop 10 words))) all)
takes-known (suc lines) words state number all (suc index) inside =
    let step = step_of state number (line_from (take 10 words)) in
    let place : 10 + 10 * index ≡ 10 * suc index = omega arith in
    let deeper = takes-known lines (drop 10 words) (after state step) (number + 1)
    (and_right (is_taken step) (takes (after state step) (number + 1) (lines_from lines (drop 10 words))) all) index (omega arith) in
    rw (drop-drop (10 * index) 10 words, place) at deeper

-- ---- takes: the loop of `take_lines`

pub is_some-then_some : {T : Type 0} (test : Bool) (value : T) → is_some (then_some test value) ≡ test
is_some-then_some true value = refl
is_some-then_some false value = refl

stands-refused : (step : Result State Refusal) → standing_of step ≡ None → is_taken step ≡ false
stands-refused (Ok next) none = let never : ◌≡◌ {A = ℕ} 0 1 = cc in absurd (omega arith)
stands-refused (Err refusal) none = refl

stands-taken : (state : State) (step : Result State Refusal) (next : Standing) (tags : List ℕ) → standing_of step ≡ Some next → tags ≡ (after state step).counts
    → (is_taken step ≡ true) × (state_of next tags ≡ after state step)
stands-taken state (Ok reached) next tags some opens = let same : kept_of reached ≡ next = cc in (refl, rw (← same, opens) (state_again reached))
stands-taken state (Err refusal) next tags some opens = let never : ◌≡◌ {A = ℕ} 0 1 = cc in absurd (omega arith)

-- the first `done` lines are taken and have at most so many bytes, and those from the record at `at` on are to be taken
pub record TakesSoFar (words : List ℕ) (lines : ℕ) (state : State) (bytes done at : ℕ) : Type 0 where
  pub within : done ≤ lines
  pub place : at ≡ 4 + 10 * done
  pub few_open : state.depth ≤ 40
  pub few_bytes : bytes ≤ 271 * done
  pub short : text_length (lines_from done (drop 4 words)) ≤ bytes
  pub rest : takes start 1 (lines_from lines (drop 4 words)) ≡ takes state (done + 1) (lines_from (lines - done) (drop at words))

pub takes-begins : (words : List ℕ) (lines : ℕ) → TakesSoFar words lines start 0 0 4
unfolding lines_from text_length
takes-begins words lines = record {
  within = omega arith;
  place = refl;
  few_open = omega arith;
  few_bytes = omega arith;
  short = omega arith;
  rest = let all : lines - 0 ≡ lines = omega arith in rw all;
}

module _ (words : List ℕ) (lines : ℕ) (state : State) (bytes done at : ℕ) (so_far : TakesSoFar words lines state bytes done at) where
  pub takes-ends : lines ≤ done → takes start 1 (lines_from lines (drop 4 words)) ≡ may_end state
  unfolding lines_from takes
  takes-ends over = let none : lines - done ≡ 0 = omega (arith, so_far.within) in so_far.rest ∙ rw none

  pub takes-short : lines ≤ done → text_length (lines_from lines (drop 4 words)) ≤ bytes
  takes-short over = let all : lines ≡ done = omega (arith, so_far.within) in rw all so_far.short

  module _ (inside : done < lines) (line : Line) (read : line ≡ line_from (take 10 (drop at words))) (answer : Option Standing) (stands : answer ≡ standing_of (step_of state (done + 1) line)) where
    next-line : lines_from (lines - done) (drop at words) ≡ line ∷ lines_from (lines - (done + 1)) (drop (at + 10) words)
    next-line =
        let more : lines - done ≡ suc (lines - (done + 1)) = omega arith in
        rw (more, read) (lines_from_step (lines - (done + 1)) words at)

    pub takes-faulty : answer ≡ None → takes start 1 (lines_from lines (drop 4 words)) ≡ false
    unfolding takes
    takes-faulty fault = so_far.rest ∙ rw (next-line, stands-refused (step_of state (done + 1) line) (sym stands ∙ fault))

    -- the line is taken, and the run after it is passed over
    module _ (next : Standing) (is_next : answer ≡ Some next) (tags : List ℕ) (opens : tags ≡ (after state (step_of state (done + 1) line)).counts)
        (run-lines run-bytes run-tags : ℕ) (run : PassedOver next run-lines run-bytes run-tags (drop (at + 10) words))
        (run_Inside : run-lines ≤ lines - done - 1) (run-few : run-bytes ≤ 271 * run-lines) where
      taken : (is_taken (step_of state (done + 1) line) ≡ true) × (state_of next tags ≡ after state (step_of state (done + 1) line))
      taken = stands-taken state (step_of state (done + 1) line) next tags (sym stands ∙ is_next) opens

      longer : at + 10 ≤ length words → text_length (lines_from (done + (1 + run-lines)) (drop 4 words)) ≤ bytes + (39 + run-bytes)
      unfolding lines_from text_length
      longer fits =
          let here : drop (10 * done) (drop 4 words) ≡ drop at words = drop-drop (10 * done) 4 words ∙ rw so_far.place in
          let next_one : 1 + run-lines ≡ suc run-lines = omega arith in
          let parts = rw (here, next_one, drop-drop 10 at words) at (text_length-after done (1 + run-lines) (drop 4 words)) in
          let few = line_from-few (take 10 (drop at words)) (simp (length-take, length-drop) (omega arith)) in
          rw next_one (omega (arith, parts, few, so_far.short, run.short))

      pub takes-goes_on : at + 10 ≤ length words
          → TakesSoFar words lines (state_of next tags) (bytes + (39 + run-bytes)) (done + (1 + run-lines)) (at + (10 + 10 * run-lines))
      unfolding takes
      takes-goes_on fits =
          let number : done + 1 + 1 + run-lines ≡ done + (1 + run-lines) + 1 = omega arith in
          let left : lines - (done + 1) - run-lines ≡ lines - (done + (1 + run-lines)) = omega arith in
          let place : at + 10 + 10 * run-lines ≡ at + (10 + 10 * run-lines) = omega arith in
          let over = run.stays tags (done + 1 + 1) (lines - (done + 1)) (omega arith) in
          record {
            within = omega arith;
            place = omega (arith, so_far.place);
            few_open = subst (λ (standing : State). standing.depth ≤ 40) (sym taken.1) (step-depth state (done + 1) so_far.few_open line);
            few_bytes = omega (arith, so_far.few_bytes);
            short = longer fits;
            rest = so_far.rest ∙ rw (next-line, taken.0, ← taken.1, over, drop-drop (10 * run-lines) (at + 10) words, number, left, place);
          }

-- ---- count_of: what the lines behind define

few-by : (same : Bool) {rest count : ℕ} → rest ≤ count → cond same (suc rest) rest ≤ suc count
few-by true few = omega arith
few-by false few = omega arith

pub counted-begins : (words : List ℕ) → Counted 0 words 0 0 0
unfolding count_of
counted-begins words = record { of_tags = refl; of_components = refl; of_messages = refl }

module _ (words : List ℕ) (done at : ℕ) (place : at ≡ 4 + 10 * done) (run-lines : ℕ) where
  counted-more : (kind : ℕ)
      → count_of kind (done + (1 + run-lines)) (drop 4 words) ≡ count_of kind done (drop 4 words) + (count_one (get_or words at 0) kind + count_of kind run-lines (drop (at + 10) words))
  counted-more kind =
      let next : 1 + run-lines ≡ suc run-lines = omega arith in
      let here : drop (10 * done) (drop 4 words) ≡ drop at words = drop-drop (10 * done) 4 words ∙ rw place in
      let same : at + 0 ≡ at = omega arith in
      let first_word : get_or (drop at words) 0 0 ≡ get_or words at 0 = get_or-drop at words 0 0 ∙ rw same in
      count_of_behind kind done (1 + run-lines) (drop 4 words) ∙ rw (here, next, count_of_step kind run-lines (drop at words), first_word, drop-drop 10 at words)

  pub counted-goes_on : (tags components messages run-tags : ℕ) → Counted done (drop 4 words) tags components messages → Counted run-lines (drop (at + 10) words) run-tags 0 0
      → (tag component message : ℕ)
      → tag ≡ count_one (get_or words at 0) kinds.definitions
      → component ≡ count_one (get_or words at 0) kinds.components
      → message ≡ count_one (get_or words at 0) kinds.messages
      → Counted (done + (1 + run-lines)) (drop 4 words) (tags + (tag + run-tags)) (components + component) (messages + message)
  counted-goes_on tags components messages run-tags counted behind tag component message of-tag of-component of-message = record {
    of_tags = omega (arith, counted-more kinds.definitions, counted.of_tags, behind.of_tags);
    of_components = omega (arith, counted-more kinds.components, counted.of_components, behind.of_components);
    of_messages = omega (arith, counted-more kinds.messages, counted.of_messages, behind.of_messages);
  }

count_of_few : (kind count : ℕ) (words : List ℕ) → count_of kind count words ≤ count
unfolding count_of
count_of_few kind zero words = omega arith
count_of_few kind (suc count) words = few-by (eqb (get_or words 0 0) kind) (count_of_few kind count (drop 10 words))

module _ (words : List ℕ) (lines tags components messages : ℕ) (counted : Counted lines words tags components messages) where
  pub counted-few : (tags ≤ lines) × ((components ≤ lines) × (messages ≤ lines))
  counted-few = (
    omega (arith, counted.of_tags, count_of_few kinds.definitions lines words),
    (
      omega (arith, counted.of_components, count_of_few kinds.components lines words),
      omega (arith, counted.of_messages, count_of_few kinds.messages lines words),
    ),
  )

  pub counted-ends : (all : ℕ) → lines ≤ all → all ≤ lines → Counted all words tags components messages
  counted-ends all within over = let same : all ≡ lines = omega arith in rw same counted

-- ---- stands_each

-- the names and the numbers side by side
pub stands_each-zip : (kind count at left : ℕ) (words : List ℕ) → at + count + left ≤ length words → left ≤ count
    → list_all (λ (pair : ℕ × ℕ). stands_at kind pair.0 pair.1 words) (zip (take left (drop at words)) (take left (drop (at + count) words)))
    ≡ stands_each kind count at left words
unfolding stands_each
stands_each-zip kind count at zero words fits few = refl
stands_each-zip kind count at (suc left) words fits few =
    let names : drop at words ≡ get_or words at 0 ∷ drop (at + 1) words = rw (add-one at) (drop-cons words at 0 (omega arith)) in
    let numbers : drop (at + count) words ≡ get_or words (at + count) 0 ∷ drop (at + 1 + count) words =
    let next : suc (at + count) ≡ at + 1 + count = omega arith in rw (← next) (drop-cons words (at + count) 0 (omega arith)) in
    let deeper = stands_each-zip kind count (at + 1) left words (omega arith) (omega arith) in
    rw (names, numbers, deeper)

-- ---- is_index: the tests of `is_index`

module _ (kind at count : ℕ) (words : List ℕ) (counted : ℕ) (counts : counted ≡ count_of kind (get_or words 0 0) (drop 4 words)) where
  pub index-miscounted : (counted ≡ count → ⊥) → is_index kind at count words ≡ false
  unfolding is_index
  index-miscounted other = rw (← counts, ne_eqb counted count other)

  pub index-counted : counted ≡ count → is_index kind at count words ≡ (is_strictly_ascending (take count (drop at words)) && stands_each kind count at count words)
  unfolding is_index
  index-counted same = rw (← counts, eq-eqb counted count same)

  pub index-falls : counted ≡ count → is_strictly_ascending (take count (drop at words)) ≡ false → is_index kind at count words ≡ false
  index-falls same falls = index-counted same ∙ rw falls

  pub index-stands : counted ≡ count → is_strictly_ascending (take count (drop at words)) ≡ true → at + 2 * count ≤ length words
      → is_index kind at count words ≡ list_all (λ (pair : ℕ × ℕ). stands_at kind pair.0 pair.1 words) (zip (take count (drop at words)) (take count (drop (at + count) words)))
  index-stands same ascends stored = index-counted same ∙ rw ascends (sym (stands_each-zip kind count at count words (omega arith) (omega arith)))

-- ---- is_dictionary: the tests of `is_dictionary`

module _ (words : List ℕ) where
  pub dictionary-headless : length words < 4 → is_dictionary words ≡ false
  unfolding is_dictionary
  dictionary-headless few = rw (lt-leb 4 (length words) few)

  module _ (headed : 4 ≤ length words) where
    pub dictionary-short : length words < size_of words → is_dictionary words ≡ false
    unfolding is_dictionary
    dictionary-short few = rw (le-leb 4 (length words) headed, lt-leb (size_of words) (length words) few)

    module _ (whole : size_of words ≤ length words) (order : Bool) (orders : order ≡ accepts start 1 0 (lines_from (get_or words 0 0) (drop 4 words))) where
      pub dictionary-disordered : order ≡ false → is_dictionary words ≡ false
      unfolding is_dictionary
      dictionary-disordered fails = rw (le-leb 4 (length words) headed, le-leb (size_of words) (length words) whole, ← orders, fails)

      module _ (ordered : order ≡ true) (tags : Bool) (tag-tests : tags ≡ is_index 1 (tags_at words) (get_or words 1 0) words) where
        pub dictionary-tags : tags ≡ false → is_dictionary words ≡ false
        unfolding is_dictionary
        dictionary-tags fails = rw (le-leb 4 (length words) headed, le-leb (size_of words) (length words) whole, ← orders, ordered, ← tag-tests, fails)

        module _ (tagged : tags ≡ true) (components : Bool) (component-tests : components ≡ is_index 5 (components_at words) (get_or words 2 0) words) where
          pub dictionary-components : components ≡ false → is_dictionary words ≡ false
          unfolding is_dictionary
          dictionary-components fails =
              rw (le-leb 4 (length words) headed, le-leb (size_of words) (length words) whole, ← orders, ordered, ← tag-tests, tagged, ← component-tests, fails)

          pub dictionary-messages : components ≡ true → is_dictionary words ≡ is_index 6 (messages_at words) (get_or words 3 0) words
          unfolding is_dictionary
          dictionary-messages holds =
              rw (le-leb 4 (length words) headed, le-leb (size_of words) (length words) whole, ← orders, ordered, ← tag-tests, tagged, ← component-tests, holds)
