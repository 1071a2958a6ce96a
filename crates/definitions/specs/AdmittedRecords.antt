-- The admitted values of a definition, over the records behind its own, and that they are those of `Definitions.antt`. Assumes nothing.
--
--   is_value one                     the record is that of a `value=V` line
--   is_value_first records           the first record is
--   is_among_records value records   the value is that of one of the first records, as long as they are `value=V` lines
--   among_records_with found records the same for a value that a `value=V` line can have, else false
--   records_behind words number      the records behind the one with this number
use Rattle.std.specs.Prelude.{◌≡◌, ◌+◌, ◌*◌, ◌-◌, ◌<◌, ◌≤◌, ◌&&◌, ◌||◌, zero, suc, ℕ, Bool, true, false, refl, List, [], ◌∷◌, length, get_or, take, drop, take_while, if◌then◌else◌, Option, Some, None, eqb}
use Rattle.std.specs.List.{list_any, slice_range}
use Rattle.std.specs.Simd.{first_chunks}
use Rattle.std.proofs.Common.{ap, sym, ◌∙◌, arith, get_or-take, get_or-drop, length-drop}
use Rattle.std.proofs.lemmas.Bool.{false≢true}
use Rattle.std.proofs.Math.Seq.{take-length}
use Rattle.std.proofs.lemmas.List.{drop-drop, at_drop_more}
use Rattle.std.proofs.Math.ListN.{drop_of_length-le}
use Rattle.std.proofs.lemmas.List.Sums.{take_while-cons}
use borrow.Author.Tests.{ne_eqb}
use Rattle.ascii.specs.Notation.{◌≡ᵇ◌}
use Rattle.lines.specs.declared.line_parts.Admitted.{Admitted}
use Rattle.lines.specs.LineParts.{value_of}
use Rattle.records.specs.Records.{admitted_from}
use Rattle.dictionary.specs.DictionaryRecords.{records_in, record_numbered, first_chunks-behind}
use Rattle.definitions.specs.Definitions.{is_same_value, is_among, among_with, is_enumerated, admits_value}

abbrev pub is_value : List ℕ → Bool
is_value one = get_or one 0 0 ≡ᵇ 2

abbrev pub is_value_first : List (List ℕ) → Bool
is_value_first [] = false
is_value_first (one ∷ rest) = is_value one

unfoldable pub is_among_records : Admitted → List (List ℕ) → Bool
is_among_records value records = list_any (λ one. is_same_value (admitted_from one) value) (take_while is_value records)

-- a value that no `value=V` line can have is none of them
abbrev pub among_records_with : Option Admitted → List (List ℕ) → Bool
among_records_with (Some value) records = is_among_records value records
among_records_with None records = false

abbrev pub records_behind : List ℕ → ℕ → List (List ℕ)
records_behind words number = drop (suc number) (records_in words)

-- ---- the words of a record

first_word : (at : ℕ) (words : List ℕ) → get_or (take 10 (drop at words)) 0 0 ≡ get_or words at 0
first_word at words =
    let here : at + 0 ≡ at = omega arith in
    get_or-take 10 (drop at words) 0 0 (omega arith) ∙ get_or-drop at words 0 0 ∙ ap (λ (place : ℕ). get_or words place 0) here

pub record-word : (words : List ℕ) (records : List (List ℕ)) (place number : ℕ) → records ≡ records_in words → number < get_or words 0 0 → place < 10
    → get_or (get_or records number []) place 0 ≡ get_or words (4 + 10 * number + place) 0
record-word words records place number are inside few =
    rw (are, record_numbered words number [] inside)
    (get_or-take 10 (drop (4 + 10 * number) words) place 0 few ∙ get_or-drop (4 + 10 * number) words place 0)

-- ---- the records behind a definition

among-by : (value : Admitted) (left at : ℕ) (words : List ℕ) (kind : Bool)
    → is_among value left (at + 10) words ≡ is_among_records value (first_chunks 10 left (drop 10 (drop at words)))
    → (get_or words at 0 ≡ᵇ 2) ≡ kind
    → is_among value (suc left) at words ≡ is_among_records value (first_chunks 10 (suc left) (drop at words))
unfolding is_among is_among_records
among-by value left at words true rest kind =
    rw (kind, take_while-cons is_value (take 10 (drop at words)) (first_chunks 10 left (drop 10 (drop at words))), first_word at words, kind, rest)
among-by value left at words false rest kind =
    rw (kind, take_while-cons is_value (take 10 (drop at words)) (first_chunks 10 left (drop 10 (drop at words))), first_word at words, kind)

pub among-records : (value : Admitted) (left at : ℕ) (words : List ℕ) → is_among value left at words ≡ is_among_records value (first_chunks 10 left (drop at words))
unfolding is_among is_among_records
among-records value zero at words = refl
among-records value (suc left) at words =
    among-by value left at words (get_or words at 0 ≡ᵇ 2)
    (among-records value left (at + 10) words ∙ ap (λ (behind : List ℕ). is_among_records value (first_chunks 10 left behind)) (sym (drop-drop 10 at words)))
    refl

-- ---- is_among: a record after the other

pub AmongSoFar : Admitted → List (List ℕ) → ℕ → Type 0
AmongSoFar value records at = is_among_records value records ≡ is_among_records value (drop at records)

pub among-begins : (value : Admitted) (records : List (List ℕ)) → AmongSoFar value records 0
unfolding AmongSoFar
among-begins value records = refl

module _ (value : Admitted) (records : List (List ℕ)) (at : ℕ) where
  module _ (so_far : AmongSoFar value records at) where
    pub among-ends : length records ≤ at → is_among_records value records ≡ false
    unfolding AmongSoFar is_among_records
    among-ends over = so_far ∙ ap (is_among_records value) (drop_of_length-le records over)

    module _ (inside : at < length records) where
      pub among-stops : is_value (get_or records at []) ≡ false → is_among_records value records ≡ false
      unfolding AmongSoFar is_among_records
      among-stops other =
          so_far ∙ at_drop_more (is_among_records value) records at [] inside
          ∙ rw (take_while-cons is_value (get_or records at []) (drop (at + 1) records), other) refl

      module _ (one : is_value (get_or records at []) ≡ true) where
        pub among-found : is_same_value (admitted_from (get_or records at [])) value ≡ true → is_among_records value records ≡ true
        unfolding AmongSoFar is_among_records
        among-found same =
            so_far ∙ at_drop_more (is_among_records value) records at [] inside
            ∙ rw (take_while-cons is_value (get_or records at []) (drop (at + 1) records), one, same) refl

        pub among-goes_on : is_same_value (admitted_from (get_or records at [])) value ≡ false
            → AmongSoFar value records (at + 1)
        unfolding AmongSoFar is_among_records
        among-goes_on other =
            so_far ∙ at_drop_more (is_among_records value) records at [] inside
            ∙ rw (take_while-cons is_value (get_or records at []) (drop (at + 1) records), one, other) refl

pub behind-is : (words : List ℕ) (number : ℕ)
    → records_behind words number ≡ first_chunks 10 (get_or words 0 0 - number - 1) (drop (4 + 10 * number + 10) words)
behind-is words number =
    let fewer : get_or words 0 0 - suc number ≡ get_or words 0 0 - number - 1 = omega arith in
    let place : 4 + 10 * suc number ≡ 4 + 10 * number + 10 = omega arith in
    first_chunks-behind (get_or words 0 0) (drop 4 words) (suc number)
    ∙ ap (first_chunks 10 (get_or words 0 0 - suc number)) (drop-drop (10 * suc number) 4 words ∙ ap (λ (at : ℕ). drop at words) place)
    ∙ ap (λ (count : ℕ). first_chunks 10 count (drop (4 + 10 * number + 10) words)) fewer

first-by : (left at : ℕ) (words : List ℕ) → (if left ≡ᵇ 0 then false else get_or words at 0 ≡ᵇ 2) ≡ is_value_first (first_chunks 10 left (drop at words))
first-by zero at words = refl
first-by (suc left) at words = let more : suc left ≡ 0 → ⊥ = λ none. absurd (omega (arith, none)) in rw (ne_eqb (suc left) 0 more, first_word at words)

pub enumerated-first : (words : List ℕ) (number : ℕ) → is_enumerated words number ≡ is_value_first (records_behind words number)
unfolding is_enumerated
enumerated-first words number =
    first-by (get_or words 0 0 - number - 1) (4 + 10 * number + 10) words ∙ ap is_value_first (sym (behind-is words number))

pub value-first : (records : List (List ℕ)) → 1 ≤ length records → is_value (get_or records 0 []) ≡ is_value_first records
value-first [] some = absurd (omega arith)
value-first (one ∷ rest) some = refl

pub none-first : (records : List (List ℕ)) → length records < 1 → false ≡ is_value_first records
none-first [] none = refl
none-first (one ∷ rest) none = absurd (omega arith)

choose_other : (none some other : Bool) → (if none then false else some) ≡ true → (if none then true else if some then other else true) ≡ other
choose_other true some other holds = absurd (false≢true holds)
choose_other false true other holds = refl
choose_other false false other holds = absurd (false≢true holds)

with-records : (found : Option Admitted) (left at : ℕ) (words : List ℕ) → among_with found left at words ≡ among_records_with found (first_chunks 10 left (drop at words))
with-records (Some value) left at words = among-records value left at words
with-records None left at words = refl

-- a definition with admitted values admits one of them
pub admits_value-listed : (words : List ℕ) (number : ℕ) (value : List ℕ) → is_enumerated words number ≡ true
    → admits_value words number value ≡ among_records_with (value_of value) (records_behind words number)
unfolding is_enumerated admits_value
admits_value-listed words number value listed =
    choose_other (eqb (get_or words 0 0 - number - 1) 0) (eqb (get_or words (4 + 10 * number + 10) 0) 2) _ listed
    ∙ with-records (value_of value) (get_or words 0 0 - number - 1) (4 + 10 * number + 10) words
    ∙ ap (among_records_with (value_of value)) (sym (behind-is words number))

-- ---- the part that the slice pattern lends

all-behind : (some : List (List ℕ)) → take (length some - 1) (drop 1 some) ≡ drop 1 some
all-behind [] = refl
all-behind (one ∷ rest) = let size : suc (length rest) - 1 ≡ length rest = omega arith in rw size (take-length rest)

from-lent : (some : List (List ℕ)) (number : ℕ) → slice_range some number (length some) ≡ drop number some
from-lent some number = rw (← length-drop number some) (take-length (drop number some))

pub behind-lent : (words : List ℕ) (number : ℕ) (lent from : List (List ℕ)) → lent ≡ records_in words → from ≡ slice_range lent number (length lent)
    → take (length from - 1) (drop 1 from) ≡ records_behind words number
behind-lent words number lent from are is =
    let next : number + 1 ≡ suc number = omega arith in
    all-behind from
    ∙ ap (drop 1) (is ∙ from-lent lent number ∙ ap (drop number) are)
    ∙ drop-drop 1 number (records_in words)
    ∙ ap (λ (at : ℕ). drop at (records_in words)) next
