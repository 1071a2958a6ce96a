-- What is known of a definition that is looked up in the words of a dictionary: it has one of the dictionary's records, and since every record there is a line
-- of some form, its type is one of the 34. Assumes nothing.
use Rattle.std.proofs.Math.Path.{◌≡◌, refl}
use Rattle.std.proofs.Common.{sym, ap, ◌∙◌, drop-drop, get_or-take, get_or-drop}
use Rattle.std.specs.Prelude.{ℕ, zero, suc, ◌+◌, ◌*◌, ◌<◌, Bool, true, false, ◌&&◌, List, leb, take, drop, Option, Some, None}
use Rattle.std.proofs.lemmas.Bool.{false≢true}
use native.Mathlib.Omega.{arith}
use Rattle.std.proofs.Math.Dec.{eqb, ltb}
use Rattle.std.proofs.Math.ListN.{length, get_or, length-drop}
use Rattle.std.proofs.Math.Seq.{length-take-le}
use borrow.Author.Tests.{eqb-true, ltb-true}
use Rattle.ascii.specs.NotationLaws.{and_left, and_right}
use Rattle.ascending.specs.Search.{is_strictly_ascending, rank_in}
use Rattle.line_forms.specs.declared.line.Line.{Line}
use Rattle.line_forms.specs.declared.line.Line.TheVariants.{Unknown}
use Rattle.dictionary_order.specs.declared.dictionary_order.State.{State}
use Rattle.dictionary_order.specs.DictionaryOrder.{start, step_of, after}
use Rattle.records.specs.Records.{line_from, outer_from, lines_from}
use Rattle.records.specs.LineLengths.{length_of}
use Rattle.dictionary.specs.DictionaryCheck.{is_taken, accepts, count_of, stands_at, stands_each, is_index, tags_at, is_dictionary}
use Rattle.definitions.specs.Definitions.{number_at, record_in, definition_at, definition_of}
use Rattle.definitions.specs.DefinitionsLaws.{type_told, number_told, stands-nth, is_dictionary-parts}
use Rattle.ascending.specs.SearchLaws.{rank_in-inside}

-- ---- the lines of an accepted dictionary

-- a line that is taken has a form
taken-known : (state : State) (number : ℕ) (line : Line) → is_taken (step_of state number line) ≡ true → line ≡ Unknown → ⊥
unfolding step_of
taken-known state number line taken unknown = let never : false ≡ true = rw unknown at taken in false≢true never

accepted-known : (state : State) (number total count : ℕ) (words : List ℕ) (place : ℕ)
    → accepts state number total (lines_from count words) ≡ true
    → place < count
    → line_from (take 10 (drop (10 * place) words)) ≡ Unknown
    → ⊥
unfolding accepts lines_from
accepted-known state number total zero words place passes inside unknown = absurd (omega arith)
accepted-known state number total (suc count) words zero passes inside unknown =
    let line = line_from (take 10 words) in
    taken-known state number line (and_left (is_taken (step_of state number line)) _ passes) unknown
accepted-known state number total (suc count) words (suc place) passes inside unknown =
    let line = line_from (take 10 words) in
    let step = step_of state number line in
    let behind = and_right (leb (total + (length_of line + 1)) 65536) _ (and_right (is_taken step) _ passes) in
    let further : 10 * suc place ≡ 10 + 10 * place = omega arith in
    let same : drop (10 * suc place) words ≡ drop (10 * place) (drop 10 words) = rw further (sym (drop-drop (10 * place) 10 words)) in
    accepted-known (after state step) (number + 1) (total + (length_of line + 1)) count (drop 10 words) place behind (omega arith) (rw same at unknown)

-- the third word of a definition's record is the number of a type
typed_record : (words : List ℕ) → get_or words 0 0 ≡ 1 → (line_from words ≡ Unknown → ⊥) → get_or words 2 0 < 34
unfolding line_from outer_from
typed_record words kind known = go (ltb (get_or words 2 0) 34) refl
  where
    go : (typed : Bool) → ltb (get_or words 2 0) 34 ≡ typed → get_or words 2 0 < 34
    go true typed = ltb-true _ _ typed
    go false other = absurd (known (rw (kind, other)))

-- ---- a definition

module _ (words : List ℕ) (holds : is_dictionary words ≡ true) where
  stands-definition : (rank : ℕ) → rank < get_or words 1 0
      → stands_at 1 (get_or words (tags_at words + rank) 0) (get_or words (tags_at words + rank + get_or words 1 0) 0) words ≡ true
  unfolding is_index
  stands-definition rank inside =
      let count = get_or words 1 0 in
      let ascends = is_strictly_ascending (take count (drop (tags_at words) words)) in
      let each = stands_each 1 count (tags_at words) count words in
      let both = and_right (eqb (count_of 1 (get_or words 0 0) (drop 4 words)) count) (ascends && each) (is_dictionary-parts words holds).tags in
      stands-nth 1 count words count (tags_at words) rank (and_right ascends each both) inside

  record_word : (number place : ℕ) → place < 10 → get_or (take 10 (drop (10 * number) (drop 4 words))) place 0 ≡ get_or words (4 + 10 * number + place) 0
  record_word number place inside =
      let here : 4 + (10 * number + place) ≡ 4 + 10 * number + place = omega arith in
      get_or-take 10 (drop (10 * number) (drop 4 words)) place 0 inside
      ∙ get_or-drop (10 * number) (drop 4 words) place 0
      ∙ get_or-drop 4 words (10 * number + place) 0
      ∙ ap (λ (at : ℕ). get_or words at 0) here

  record_typed : (name number : ℕ) → stands_at 1 name number words ≡ true → (get_or words (4 + 10 * number + 2) 0 < 34) × (number < get_or words 0 0)
  unfolding stands_at
  record_typed name number stands =
      let within = ltb number (get_or words 0 0) in
      let of = eqb (get_or words (4 + 10 * number) 0) 1 in
      let named = eqb (get_or words (4 + 10 * number + 1) 0) name in
      let inside : number < get_or words 0 0 = ltb-true _ _ (and_left within (of && named) stands) in
      let kind : get_or words (4 + 10 * number) 0 ≡ 1 = eqb-true _ _ (and_left of named (and_right within (of && named) stands)) in
      let known = accepted-known start 1 0 (get_or words 0 0) (drop 4 words) number (is_dictionary-parts words holds).accepted inside in
      let first : 4 + 10 * number + 0 ≡ 4 + 10 * number = omega arith in
      let of-kind : get_or (take 10 (drop (10 * number) (drop 4 words))) 0 0 ≡ 1 = record_word number 0 (omega arith) ∙ rw first kind in
      let typed = typed_record (take 10 (drop (10 * number) (drop 4 words))) of-kind known in
      (omega (arith, typed, record_word number 2 (omega arith)), inside)

  -- the type of a definition is one of the 34, and its record one of the dictionary's
  pub definition-known : (tag type number : ℕ) → definition_of words tag ≡ Some (record { type_place = type; number = number }) → (type < 34) × (number < get_or words 0 0)
  unfolding definition_of record_in
  definition-known tag type number defined = go (rank_in (take (get_or words 1 0) (drop (tags_at words) words)) tag) refl defined
    where
      go : (found : Option ℕ) → rank_in (take (get_or words 1 0) (drop (tags_at words) words)) tag ≡ found
          → definition_at words (number_at (tags_at words + get_or words 1 0) words found) ≡ Some (record { type_place = type; number = number })
          → (type < 34) × (number < get_or words 0 0)
      go (Some rank) there same =
          let names : length (take (get_or words 1 0) (drop (tags_at words) words)) ≡ get_or words 1 0 = length-take-le (get_or words 1 0) (drop (tags_at words) words) (omega (arith, length-drop (tags_at words) words, (is_dictionary-parts words holds).fits)) in
          let inside : rank < get_or words 1 0 = omega (arith, rank_in-inside (take (get_or words 1 0) (drop (tags_at words) words)) tag rank there, names) in
          let place : tags_at words + rank + get_or words 1 0 ≡ tags_at words + get_or words 1 0 + rank = omega arith in
          let facts = record_typed _ _ (stands-definition rank inside) in
          let number_is : get_or words (tags_at words + get_or words 1 0 + rank) 0 ≡ number = ap number_told same in
          let type-is : get_or words (4 + 10 * get_or words (tags_at words + get_or words 1 0 + rank) 0 + 2) 0 ≡ type = ap type_told same in
          rw (← type-is, ← number_is, ← place) facts
      go None there same = let never : ◌≡◌ {A = ℕ} 0 1 = cc in absurd (omega arith)

-- the type of a definition stands in its record
pub definition-type : (words : List ℕ) (tag type number : ℕ) → definition_of words tag ≡ Some (record { type_place = type; number = number }) → get_or words (4 + 10 * number + 2) 0 ≡ type
unfolding definition_of
definition-type words tag type number defined = go (record_in (tags_at words) (get_or words 1 0) tag words) defined
  where
    go : (found : Option ℕ) → definition_at words found ≡ Some (record { type_place = type; number = number }) → get_or words (4 + 10 * number + 2) 0 ≡ type
    go (Some other) same =
        let number_is : other ≡ number = ap number_told same in
        let type-is : get_or words (4 + 10 * other + 2) 0 ≡ type = ap type_told same in
        rw (← number_is) type-is
    go None same = let never : ◌≡◌ {A = ℕ} 0 1 = cc in absurd (omega arith)
