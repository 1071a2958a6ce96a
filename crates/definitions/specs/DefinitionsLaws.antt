-- Laws of `Definitions.antt`: what a dictionary's words are known to hold when they are searched. Assumes nothing.
use Rattle.std.specs.Prelude.{◌≡◌, refl, Bool, ◌&&◌, List, leb, eqb, length, take, drop, if◌then◌else◌, Option, Some, None}
use Rattle.std.proofs.Common.{sym, ◌∙◌, length-drop, length-take-le}
use Rattle.std.proofs.Math.Path.{ap}
use Prim.Native.Nat.{ℕ, zero, suc, ◌+◌, ◌*◌, ◌-◌, ◌≤◌, ◌<◌}
use Rattle.std.proofs.Math.Bool.{true, false}
use Rattle.std.proofs.lemmas.Bool.{false≢true}
use native.Mathlib.Omega.{arith}
use Rattle.std.proofs.Math.ListN.{get_or}
use borrow.Author.Tests.{eq-eqb, ne_eqb, leb-true, ltb-true}
use Rattle.ascii.specs.NotationLaws.{and_left, and_right}
use Rattle.ascending.specs.Search.{StrictlyAscending, is_strictly_ascending, rank_in, Holds}
use Rattle.ascending.specs.SearchLaws.{is_strictly_ascending-true, holds_at}
use Rattle.dictionary_order.specs.DictionaryOrder.{start}
use Rattle.dictionary.specs.DictionaryCheck.{accepts, count_of, stands_at, stands_each, is_index, tags_at, components_at, messages_at, size_of, is_dictionary}
use Rattle.definitions.specs.Definitions.{record_in, is_same_value, is_among, is_enumerated, admits_value}
use Rattle.records.specs.Records.{admitted_from, lines_from}
use Rattle.lines.specs.declared.line_parts.Admitted.{Admitted}
use Rattle.definitions.specs.declared.definitions.Definition.{Definition}

-- the number of what was found is below the number of lines
abbrev pub Below : ℕ → Option ℕ → Type 0
Below lines (Some number) = number < lines
Below lines None = Unit

-- what a definition that was found tells; 0 where there is none
abbrev pub type_told : Option Definition → ℕ
type_told (Some definition) = definition.type_place
type_told None = 0

abbrev pub number_told : Option Definition → ℕ
number_told (Some definition) = definition.number
number_told None = 0

-- ---- is_index

module _ (kind at count : ℕ) (words : List ℕ) (index : is_index kind at count words ≡ true) where
  index-parts : (is_strictly_ascending (take count (drop at words)) ≡ true) × (stands_each kind count at count words ≡ true)
  unfolding is_index
  index-parts =
      let names = is_strictly_ascending (take count (drop at words)) in
      let both = and_right (eqb (count_of kind (get_or words 0 0) (drop 4 words)) count) (names && stands_each kind count at count words) index in
      (and_left names (stands_each kind count at count words) both, and_right names (stands_each kind count at count words) both)

  pub index-ascends : StrictlyAscending (take count (drop at words))
  index-ascends = is_strictly_ascending-true (take count (drop at words)) index-parts.0

pub stands-nth : (kind count : ℕ) (words : List ℕ) (left at rank : ℕ)
    → stands_each kind count at left words ≡ true
    → rank < left
    → stands_at kind (get_or words (at + rank) 0) (get_or words (at + rank + count) 0) words ≡ true
unfolding stands_each
stands-nth kind count words zero at rank stands inside = absurd (omega arith)
stands-nth kind count words (suc left) at zero stands inside =
    let same : at + 0 ≡ at = omega arith in
    rw same (and_left (stands_at kind (get_or words at 0) (get_or words (at + count) 0) words) (stands_each kind count (at + 1) left words) stands)
stands-nth kind count words (suc left) at (suc rank) stands inside =
    let next : at + suc rank ≡ at + 1 + rank = omega arith in
    rw next
    (stands-nth kind count words left (at + 1) rank
    (and_right (stands_at kind (get_or words at 0) (get_or words (at + count) 0) words) (stands_each kind count (at + 1) left words) stands)
    (omega arith))

module _ (kind at count : ℕ) (words : List ℕ) (index : is_index kind at count words ≡ true) (rank : ℕ) (inside : rank < count) where
  pub index_number : get_or words (at + count + rank) 0 < get_or words 0 0
  unfolding stands_at
  index_number =
      let place : at + rank + count ≡ at + count + rank = omega arith in
      let stands = stands-nth kind count words count at rank (index-parts kind at count words index).1 inside in
      let number : get_or words (at + rank + count) 0 < get_or words 0 0 = ltb-true _ _ (and_left _ _ stands) in
      rw place at number

-- ---- is_dictionary

pub record Dictionary (words : List ℕ) : Type 0 where
  pub some_words : 4 ≤ length words
  pub fits : size_of words ≤ length words
  pub accepted : accepts start 1 0 (lines_from (get_or words 0 0) (drop 4 words)) ≡ true
  pub tags : is_index 1 (tags_at words) (get_or words 1 0) words ≡ true
  pub component_names : is_index 5 (components_at words) (get_or words 2 0) words ≡ true
  pub message_names : is_index 6 (messages_at words) (get_or words 3 0) words ≡ true

six : (one two three four five other : Bool)
    → one && (two && (three && (four && (five && other)))) ≡ true
    → (one ≡ true) × ((two ≡ true) × ((three ≡ true) × ((four ≡ true) × ((five ≡ true) × (other ≡ true)))))
six one two three four five other all =
    let second = and_right one (two && (three && (four && (five && other)))) all in
    let third = and_right two (three && (four && (five && other))) second in
    let fourth = and_right three (four && (five && other)) third in
    let fifth = and_right four (five && other) fourth in (
      and_left one (two && (three && (four && (five && other)))) all,
      (
        and_left two (three && (four && (five && other))) second,
        (and_left three (four && (five && other)) third, (and_left four (five && other) fourth, (and_left five other fifth, and_right five other fifth))),
      ),
    )

pub is_dictionary-parts : (words : List ℕ) → is_dictionary words ≡ true → Dictionary words
unfolding is_dictionary
is_dictionary-parts words holds =
    let parts =
    six (leb 4 (length words)) (leb (size_of words) (length words)) (accepts start 1 0 (lines_from (get_or words 0 0) (drop 4 words)))
    (is_index 1 (tags_at words) (get_or words 1 0) words)
    (is_index 5 (components_at words) (get_or words 2 0) words)
    (is_index 6 (messages_at words) (get_or words 3 0) words)
    holds in
    record {
      some_words = leb-true 4 (length words) parts.0;
      fits = leb-true (size_of words) (length words) parts.1.0;
      accepted = parts.1.1.0;
      tags = parts.1.1.1.0;
      component_names = parts.1.1.1.1.0;
      message_names = parts.1.1.1.1.1;
    }

pub line_numbered-place : (words : List ℕ) (number : ℕ) → number < get_or words 0 0 → Dictionary words → 4 + 10 * number + 10 ≤ length words
line_numbered-place words number inside known = omega (arith, known.fits)

-- ---- record_in: what the search of the names found

module _ (kind at count name : ℕ) (words : List ℕ) (fits : at + 2 * count ≤ length words) (index : is_index kind at count words ≡ true) (found : Option ℕ)
    (searched : StrictlyAscending (take (at + count - at) (drop at words)) → found ≡ rank_in (take (at + count - at) (drop at words)) name) where
  rank_searched : found ≡ rank_in (take count (drop at words)) name
  rank_searched =
      let same : at + count - at ≡ count = omega arith in
      let exact : StrictlyAscending (take count (drop at words)) → found ≡ rank_in (take count (drop at words)) name = rw same at searched in
      exact (index-ascends kind at count words index)

  pub record_in-missing : found ≡ None → None ≡ record_in at count name words
  unfolding record_in
  record_in-missing missing = rw (← rank_searched, missing)

  module _ (rank : ℕ) (there : found ≡ Some rank) where
    pub record_in-found : Some (get_or words (at + count + rank) 0) ≡ record_in at count name words
    unfolding record_in
    record_in-found = rw (← rank_searched, there)

    pub rank_inside : Holds (take (at + count - at) (drop at words)) name found → rank < count
    rank_inside holds =
        let same : at + count - at ≡ count = omega arith in
        let names : length (take count (drop at words)) ≡ count = length-take-le count (drop at words) (omega (arith, length-drop at words)) in
        let exact : Holds (take count (drop at words)) name found = rw same at holds in
        let inside : rank < length (take count (drop at words)) = (holds_at (take count (drop at words)) name rank found there exact).0 in
        omega arith

-- what was found is a number
pub below-number : (lines number : ℕ) (found : Option ℕ) → found ≡ Some number → Below lines found → number < lines
below-number lines number found there below = rw there at below

-- ---- admits_value

choose_true : (none some other : Bool) → (if none then false else some) ≡ false → (if none then true else if some then other else true) ≡ true
choose_true true some other holds = refl
choose_true false true other holds = absurd (false≢true (sym holds))
choose_true false false other holds = refl

-- a definition without admitted values admits every value
pub admits_value-any : (words : List ℕ) (number : ℕ) (value : List ℕ) → is_enumerated words number ≡ false → admits_value words number value ≡ true
unfolding is_enumerated admits_value
admits_value-any words number value unlisted =
    choose_true (eqb (get_or words 0 0 - number - 1) 0) (eqb (get_or words (4 + 10 * number + 10) 0) 2) _ unlisted
