-- Laws of an index (`DictionaryWords.antt`, `DictionaryCheck.antt`): an index that passes the check has the names of all records of its kind in ascending
-- order, each once, and with each the number of its record (`index-words`). First that distinct words, each among as many others, are these others
-- in some order (`fills`). Assumes nothing.
--
--   Distinct words       no word is there twice
--   without word words   the words without the first that is the word
use Rattle.std.specs.Prelude.{◌≡◌, refl, Bool, true, false, ◌&&◌, cond, ltb, drop}
use Rattle.std.proofs.Math.Path.{sym, ap}
use Rattle.std.proofs.Common.{◌∙◌, take-append-drop, drop_at, get_or-append-add, ext_get_or}
use Prim.Native.Nat.{ℕ, zero, suc, ◌+◌, ◌*◌, ◌-◌, ◌≤◌, ◌<◌}
use mathlib.Core.List.{List, [], ◌∷◌, ◌++◌, map, append_assoc}
use native.Mathlib.Omega.{arith}
use Rattle.std.proofs.Math.Dec.{eqb}
use Rattle.std.proofs.Math.ListN.{length, get_or, take, length-drop, get_or-append, get_or-map}
use Rattle.std.proofs.lemmas.List.{length-map}
use Rattle.std.proofs.Math.Seq.{take-add, drop-drop, get_or-take, get_or-drop, length-take-le}
use borrow.Author.Tests.{ltb-true, eqb-true, eq-eqb}
use Rattle.ascii.specs.NotationLaws.{and_left, and_right}
use Rattle.ascending.specs.Sort.{sorted, AscendingFrom, Ascending, once, how_often, AsOften}
use Rattle.ascending.specs.SortLaws.{how_often-below, sorted-unique}
use Rattle.ascending.specs.Search.{StrictlyAbove, StrictlyAscending, is_strictly_ascending}
use Rattle.ascending.specs.SearchLaws.{is_strictly_ascending-true}
use Rattle.line_forms.specs.declared.line.Line.{Line}
use Rattle.records.specs.Records.{record_of}
use Rattle.records.specs.RecordsLaws.{record_of-length}
use Rattle.dictionary.specs.DictionaryWords.{is_of, name_of, names_of, place_of, records_of, index_of}
use Rattle.dictionary.specs.DictionaryCheck.{count_of, stands_at, stands_each, is_index}
use Rattle.definitions.specs.DefinitionsLaws.{stands-nth}

-- ---- words that are there once

abbrev pub Distinct : List ℕ → Type 0
Distinct [] = Unit
Distinct (word ∷ rest) = (how_often word rest ≡ 0) × Distinct rest

lower : (low : ℕ) (words : List ℕ) → AscendingFrom (suc low) words → AscendingFrom low words
lower low [] ascends = tt
lower low (word ∷ rest) ascends = (omega (arith, ascends.0), ascends.1)

above-ascending : (low : ℕ) (words : List ℕ) → StrictlyAbove low words → AscendingFrom (suc low) words
above-ascending low [] ascends = tt
above-ascending low (word ∷ rest) ascends = (ascends.0, lower word rest (above-ascending word rest ascends.1))

above-distinct : (low : ℕ) (words : List ℕ) → StrictlyAbove low words → Distinct words
above-distinct low [] ascends = tt
above-distinct low (word ∷ rest) ascends =
    (how_often-below word (suc word) rest (omega arith) (above-ascending word rest ascends.1), above-distinct word rest ascends.1)

pub strictly_distinct : (words : List ℕ) → StrictlyAscending words → Distinct words
strictly_distinct [] ascends = tt
strictly_distinct (word ∷ rest) ascends =
    (how_often-below word (suc word) rest (omega arith) (above-ascending word rest ascends), above-distinct word rest ascends)

strictly_ascending : (words : List ℕ) → StrictlyAscending words → Ascending words
strictly_ascending [] ascends = tt
strictly_ascending (word ∷ rest) ascends = (omega arith, lower word rest (above-ascending word rest ascends))

pub once-same : (word : ℕ) → once word word ≡ 1
unfolding once
once-same word = rw (eq-eqb word word refl)

distinct_by : (word other : ℕ) (rest : List ℕ) (same : Bool) → eqb other word ≡ same → how_often other rest ≡ 0 → how_often word rest ≤ 1 → once word other + how_often word rest ≤ 1
unfolding once
distinct_by word other rest true test none few = rw test (omega (arith, ap (λ (each : ℕ). how_often each rest) (eqb-true other word test)))
distinct_by word other rest false test none few = rw test (omega arith)

pub distinct_often : (words : List ℕ) → Distinct words → (word : ℕ) → how_often word words ≤ 1
unfolding how_often
distinct_often [] distinct word = omega arith
distinct_often (other ∷ rest) distinct word = distinct_by word other rest (eqb other word) refl distinct.0 (distinct_often rest distinct.1 word)

pub often_at : (words : List ℕ) (place : ℕ) → place < length words → 1 ≤ how_often (get_or words place 0) words
unfolding how_often
often_at [] place inside = absurd (omega arith)
often_at (word ∷ rest) zero inside = omega (arith, once-same word)
often_at (word ∷ rest) (suc place) inside = omega (arith, often_at rest place (omega arith))

-- ---- distinct words among as many others

unfoldable without : ℕ → List ℕ → List ℕ
without word [] = []
without word (next ∷ rest) = cond (eqb next word) rest (next ∷ without word rest)

without-by : (same : Bool) (word next each : ℕ) (rest : List ℕ)
    → eqb next word ≡ same
    → (1 ≤ how_often word rest → how_often each rest ≡ once each word + how_often each (without word rest))
    → 1 ≤ once word next + how_often word rest
    → once each next + how_often each rest ≡ once each word + how_often each (cond same rest (next ∷ without word rest))
unfolding how_often
without-by true word next each rest test deeper some = ap (λ (first : ℕ). once each first + how_often each rest) (eqb-true next word test)
without-by false word next each rest test deeper some =
    let other : once word next ≡ 0 = unfold once in rw test in
    omega (arith, deeper (omega arith))

without-often : (word : ℕ) (words : List ℕ) → 1 ≤ how_often word words → (each : ℕ) → how_often each words ≡ once each word + how_often each (without word words)
unfolding how_often without
without-often word [] some each = absurd (omega arith)
without-often word (next ∷ rest) some each = without-by (eqb next word) word next each rest refl (λ more. without-often word rest more each) some

without-length_by : (same : Bool) (word next : ℕ) (rest : List ℕ)
    → eqb next word ≡ same
    → (1 ≤ how_often word rest → length rest ≡ suc (length (without word rest)))
    → 1 ≤ once word next + how_often word rest
    → suc (length rest) ≡ suc (length (cond same rest (next ∷ without word rest)))
without-length_by true word next rest test deeper some = refl
without-length_by false word next rest test deeper some =
    let other : once word next ≡ 0 = unfold once in rw test in
    ap suc (deeper (omega arith))

without-length : (word : ℕ) (words : List ℕ) → 1 ≤ how_often word words → length words ≡ suc (length (without word words))
unfolding how_often without
without-length word [] some = absurd (omega arith)
without-length word (next ∷ rest) some = without-length_by (eqb next word) word next rest refl (without-length word rest) some

other_by : (word each : ℕ) (rest others : List ℕ) (same : Bool)
    → eqb word each ≡ same
    → how_often word rest ≡ 0
    → 1 ≤ how_often each rest
    → 1 ≤ once each word + how_often each others
    → 1 ≤ how_often each others
other_by word each rest others true test none some there = absurd (omega (arith, ap (λ (one : ℕ). how_often one rest) (eqb-true word each test)))
other_by word each rest others false test none some there = let zero-times : once each word ≡ 0 = unfold once in rw test in omega arith

pub fills : (words others : List ℕ) → Distinct words → ((place : ℕ) → place < length words → 1 ≤ how_often (get_or words place 0) others) → length others ≤ length words → AsOften words others
unfolding how_often
fills [] [] distinct among few each = refl
fills [] (other ∷ others) distinct among few each = absurd (omega arith)
fills (word ∷ rest) others distinct among few each =
    let there = among 0 (omega arith) in
    let shorter = without-length word others there in
    let deeper =
    fills rest (without word others) distinct.1
    (λ place inside.
    other_by word (get_or rest place 0) rest (without word others) (eqb word (get_or rest place 0)) refl distinct.0 (often_at rest place inside)
    (rw (without-often word others there (get_or rest place 0)) at (among (suc place) (omega arith))))
    (omega arith)
    each in
    omega (arith, without-often word others there each)

-- ---- the records of a kind

module _ (line : Line) (more : List ℕ) where
  pub record_word : (place : ℕ) → place < 10 → get_or (record_of line ++ more) place 0 ≡ get_or (record_of line) place 0
  record_word place few = get_or-append (record_of line) more 0 place (omega (arith, record_of-length line))

  pub record_drop : drop 10 (record_of line ++ more) ≡ more
  record_drop = drop_at (record_of line) more 10 (record_of-length line)

  pub record_behind : (place : ℕ) → get_or (record_of line ++ more) (10 + place) 0 ≡ get_or more place 0
  record_behind place =
      let ten = record_of-length line in
      let same : 10 + place ≡ length (record_of line) + place = omega arith in
      rw same (get_or-append-add (record_of line) more place 0)

count_by : (kind : ℕ) (line : Line) (test : Bool) (rest names : ℕ) → rest ≡ names → cond test (suc rest) rest ≡ cond test (suc names) names
count_by kind line true rest names same = ap suc same
count_by kind line false rest names same = same

names-length_by : (test : Bool) (name : ℕ) (names : List ℕ) → length (cond test (name ∷ names) names) ≡ cond test (suc (length names)) (length names)
names-length_by true name names = refl
names-length_by false name names = refl

-- as many records of a kind are counted as there are names
pub count_of_names : (kind : ℕ) (lines : List Line) (more : List ℕ) → count_of kind (length lines) (records_of lines ++ more) ≡ length (names_of kind lines)
unfolding count_of records_of names_of is_of
count_of_names kind [] more = refl
count_of_names kind (line ∷ rest) more =
    let test = eqb (get_or (record_of line) 0 0) kind in
    rw (append_assoc (record_of line) (records_of rest) more, record_word line (records_of rest ++ more) 0 (omega arith), record_drop line (records_of rest ++ more))
    (count_by kind line test (count_of kind (length rest) (records_of rest ++ more)) (length (names_of kind rest)) (count_of_names kind rest more)
    ∙ sym (names-length_by test (name_of line) (names_of kind rest)))

-- the record with this number is of this kind and has this name
abbrev pub Stands : ℕ → ℕ → ℕ → List Line → Type 0
Stands kind name number lines =
    (number < length lines)
    × ((get_or (records_of lines) (10 * number) 0 ≡ kind) × (get_or (records_of lines) (10 * number + 1) 0 ≡ name))

module _ (kind name : ℕ) (line : Line) (rest : List Line) where
  stands-first : Stands kind name 0 (line ∷ rest) → (is_of kind line ≡ true) × (name_of line ≡ name)
  unfolding records_of is_of name_of
  stands-first stands = (
    eq-eqb (get_or (record_of line) 0 0) kind (sym (record_word line (records_of rest) 0 (omega arith)) ∙ stands.1.0),
    sym (record_word line (records_of rest) 1 (omega arith)) ∙ stands.1.1,
  )

  stands-later : (number : ℕ) → Stands kind name (suc number) (line ∷ rest) → Stands kind name number rest
  unfolding records_of
  stands-later number stands =
      let first : 10 * suc number ≡ 10 + 10 * number = omega arith in
      let second : 10 * suc number + 1 ≡ 10 + (10 * number + 1) = omega arith in (
        omega (arith, stands.0),
        (
          sym (ap (λ (place : ℕ). get_or (record_of line ++ records_of rest) place 0) first ∙ record_behind line (records_of rest) (10 * number)) ∙ stands.1.0,
          sym (ap (λ (place : ℕ). get_or (record_of line ++ records_of rest) place 0) second ∙ record_behind line (records_of rest) (10 * number + 1)) ∙ stands.1.1,
        ),
      )

pub more-often : (test : Bool) (name first : ℕ) (names : List ℕ) → how_often name names ≤ how_often name (cond test (first ∷ names) names)
unfolding how_often
more-often true name first names = omega arith
more-often false name first names = omega arith

-- its name is among the names
pub stands-named : (kind name number : ℕ) (lines : List Line) → Stands kind name number lines → 1 ≤ how_often name (names_of kind lines)
unfolding names_of
stands-named kind name number [] stands = absurd (omega (arith, stands.0))
stands-named kind name zero (line ∷ rest) stands =
    let first = stands-first kind name line rest stands in
    rw (first.0, first.1) (unfold how_often in omega (arith, once-same name))
stands-named kind name (suc number) (line ∷ rest) stands =
    omega (arith, stands-named kind name number rest (stands-later kind name line rest number stands), more-often (is_of kind line) name (name_of line) (names_of kind rest))

twice-by : (kind name : ℕ) (line : Line) (rest : List Line) (of' same : Bool)
    → is_of kind line ≡ of'
    → eqb (name_of line) name ≡ same
    → 1 ≤ how_often name (names_of kind rest)
    → how_often name (cond of' (name_of line ∷ names_of kind rest) (names_of kind rest)) ≤ 1
    → of' && same ≡ false
unfolding how_often
twice-by kind name line rest true true is named some few =
    absurd (omega (arith, ap (λ (each : ℕ). once name each) (eqb-true (name_of line) name named), once-same name))
twice-by kind name line rest true false is named some few = refl
twice-by kind name line rest false same is named some few = refl

-- and where a name is there once, it is its place
pub stands-place : (kind name number : ℕ) (lines : List Line) → Stands kind name number lines → how_often name (names_of kind lines) ≤ 1 → place_of kind name lines ≡ number
unfolding names_of place_of
stands-place kind name number [] stands few = absurd (omega (arith, stands.0))
stands-place kind name zero (line ∷ rest) stands few =
    let first = stands-first kind name line rest stands in
    rw (first.0, eq-eqb (name_of line) name first.1)
stands-place kind name (suc number) (line ∷ rest) stands few =
    let later = stands-later kind name line rest number stands in
    let other = twice-by kind name line rest (is_of kind line) (eqb (name_of line) name) refl refl (stands-named kind name number rest later) few in
    rw other (ap suc (stands-place kind name number rest later (omega (arith, more-often (is_of kind line) name (name_of line) (names_of kind rest)))))

-- ---- an index that passes

pub get_d_any : (words : List ℕ) (place this that : ℕ) → place < length words → get_or words place this ≡ get_or words place that
get_d_any [] place this that inside = absurd (omega arith)
get_d_any (word ∷ rest) zero this that inside = refl
get_d_any (word ∷ rest) (suc place) this that inside = get_d_any rest place this that (omega arith)

module _ (words : List ℕ) (lines : List Line) (counted : get_or words 0 0 ≡ length lines)
    (records : records_of lines ≡ take (10 * length lines) (drop 4 words)) (whole : 4 + 10 * length lines ≤ length words) where
  record_in_words : (place : ℕ) → place < 10 * length lines → get_or (records_of lines) place 0 ≡ get_or words (4 + place) 0
  record_in_words place inside = rw (records, get_or-take (10 * length lines) (drop 4 words) place 0 inside) (get_or-drop 4 words place 0)

  stands_at-stands : (kind name number : ℕ) → stands_at kind name number words ≡ true → Stands kind name number lines
  unfolding stands_at
  stands_at-stands kind name number stands =
      let first : number < get_or words 0 0 = ltb-true _ _ (and_left (ltb number (get_or words 0 0)) _ stands) in
      let both = and_right (ltb number (get_or words 0 0)) _ stands in
      let inside : number < length lines = omega (arith, counted) in
      let further : 4 + 10 * number + 1 ≡ 4 + (10 * number + 1) = omega arith in
      let kind-word : get_or words (4 + 10 * number) 0 ≡ kind = eqb-true _ _ (and_left (eqb (get_or words (4 + 10 * number) 0) kind) _ both) in
      let name-word : get_or words (4 + 10 * number + 1) 0 ≡ name = eqb-true _ _ (and_right (eqb (get_or words (4 + 10 * number) 0) kind) _ both) in (
        inside,
        (
          record_in_words (10 * number) (omega arith) ∙ kind-word,
          record_in_words (10 * number + 1) (omega arith) ∙ (rw further at name-word),
        ),
      )

  module _ (kind at count : ℕ) (fits : at + 2 * count ≤ length words) (index : is_index kind at count words ≡ true) where
    names : List ℕ
    names = take count (drop at words)

    index-three : (count_of kind (get_or words 0 0) (drop 4 words) ≡ count)
        × ((is_strictly_ascending (take count (drop at words)) ≡ true) × (stands_each kind count at count words ≡ true))
    unfolding is_index
    index-three =
        let test = eqb (count_of kind (get_or words 0 0) (drop 4 words)) count in
        let both = and_right test _ index in (
          eqb-true _ _ (and_left test _ index),
          (and_left (is_strictly_ascending (take count (drop at words))) _ both, and_right (is_strictly_ascending (take count (drop at words))) _ both),
        )

    pub index-count : count ≡ length (names_of kind lines)
    index-count =
        let split : drop 4 words ≡ records_of lines ++ drop (10 * length lines) (drop 4 words) = rw records (sym (take-append-drop (10 * length lines) (drop 4 words))) in
        sym index-three.0 ∙ ap (λ (number : ℕ). count_of kind number (drop 4 words)) counted
        ∙ ap (λ (each : List ℕ). count_of kind (length lines) each) split
        ∙ count_of_names kind lines (drop (10 * length lines) (drop 4 words))

    names-length : length names ≡ count
    unfolding names
    names-length = length-take-le count (drop at words) (omega (arith, length-drop at words))

    names_at : (rank : ℕ) → rank < count → get_or names rank 0 ≡ get_or words (at + rank) 0
    unfolding names
    names_at rank inside = get_or-take count (drop at words) rank 0 inside ∙ get_or-drop at words rank 0

    rank_stands : (rank : ℕ) → rank < count → Stands kind (get_or names rank 0) (get_or words (at + count + rank) 0) lines
    rank_stands rank inside =
        let place : at + rank + count ≡ at + count + rank = omega arith in
        rw (names_at rank inside, ← place)
        (stands_at-stands kind (get_or words (at + rank) 0) (get_or words (at + rank + count) 0) (stands-nth kind count words count at rank index-three.1.1 inside))

    names-ascend : StrictlyAscending names
    unfolding names
    names-ascend = is_strictly_ascending-true (take count (drop at words)) index-three.1.0

    names-as_often : AsOften names (names_of kind lines)
    names-as_often =
        fills names (names_of kind lines) (strictly_distinct names names-ascend)
        (λ rank inside. stands-named kind (get_or names rank 0) _ lines (rank_stands rank (omega (arith, names-length))))
        (omega (arith, names-length, index-count))

    -- "tag, component or type defined again": none is
    pub index-once : (name : ℕ) → how_often name (names_of kind lines) ≤ 1
    index-once name = rw (← names-as_often name) (distinct_often names (strictly_distinct names names-ascend) name)

    names-sorted : names ≡ sorted (names_of kind lines)
    names-sorted = sorted-unique (names_of kind lines) names (strictly_ascending names names-ascend) names-as_often

    numbers : List ℕ
    numbers = take count (drop (at + count) words)

    numbers-length : length numbers ≡ count
    unfolding numbers
    numbers-length = length-take-le count (drop (at + count) words) (omega (arith, length-drop (at + count) words))

    place-of : ℕ → ℕ
    place-of name = place_of kind name lines

    numbers-at : (rank : ℕ) → rank < count → get_or numbers rank (place-of 0) ≡ get_or (map place-of names) rank (place-of 0)
    unfolding numbers place-of
    numbers-at rank inside =
        let stands = rank_stands rank inside in
        get_d_any (take count (drop (at + count) words)) rank (place-of 0) 0 (omega (arith, numbers-length))
        ∙ get_or-take count (drop (at + count) words) rank 0 inside
        ∙ get_or-drop (at + count) words rank 0
        ∙ sym (stands-place kind (get_or names rank 0) (get_or words (at + count + rank) 0) lines stands (index-once (get_or names rank 0)))
        ∙ sym (get_or-map (λ (name : ℕ). place_of kind name lines) names rank 0)

    numbers-places : numbers ≡ map place-of names
    numbers-places =
        ext_get_or (place-of 0) numbers (map place-of names) (numbers-length ∙ sym (length-map names place-of ∙ names-length))
        (λ rank inside. numbers-at rank (omega (arith, numbers-length)))

    pub index-words : take (2 * count) (drop at words) ≡ index_of kind lines
    unfolding index_of names numbers place-of
    index-words =
        let twice : 2 * count ≡ count + count = omega arith in
        rw (twice, take-add count count (drop at words), drop-drop count at words, ← names-sorted)
        (ap (λ (behind : List ℕ). take count (drop at words) ++ behind) numbers-places)
