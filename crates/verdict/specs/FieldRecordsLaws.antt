-- Laws of `FieldRecords.antt`, in its order, and the loop of `write_records`. Assumes nothing.
use Rattle.std.specs.Prelude.{◌≡◌, Bool, true, false, List, ◌++◌, length, get_or, take, drop, set, nat_lt, Option, Some, None}
use Rattle.std.proofs.Math.Path.{refl, sym, ap}
use Rattle.std.proofs.Common.{◌∙◌, lt-ltb, le-ltb, ltb-true, get_or-take, get_or-drop}
use Prim.Native.Nat.{ℕ, zero, suc, ◌+◌, ◌*◌, ◌-◌, ◌≤◌, ◌<◌}
use native.Mathlib.Omega.{arith}
use Rattle.std.proofs.Math.Numerals.{add-one}
use Rattle.std.proofs.Math.ListN.{length-set}
use Rattle.std.proofs.Math.Seq.{sets, sets-eq}
use Rattle.definitions.specs.declared.definitions.Definition.{Definition}
use Rattle.field_types.specs.FieldType.{type_numbered}
use Rattle.records.specs.Records.{Words32}
use Rattle.dictionary.specs.DictionaryWords.{word_lines}
use Rattle.dictionary.specs.DictionaryCheck.{is_dictionary}
use Rattle.dictionary.specs.DictionaryRecords.{records_in, record_numbered}
use Rattle.definitions.specs.Definitions.{definition_of, admits_value}
use Rattle.definitions.specs.DefinedFields.{field_in, is_admitted_by}
use Rattle.definitions.specs.DefinedFieldsLaws.{field_at, definition-found, definition-missing, admits_value-lines}
use Rattle.verdict.specs.Verdict.{defined_verdict, typed_verdict, check_value}
use Rattle.verdict.specs.VerdictLaws.{typed_verdict-alike}
use Rattle.verdict.specs.DefinitionFacts.{definition-known, definition-type}
use Rattle.verdict.specs.declared.verdict.Verdict.TheVariants as Answers
use Rattle.verdict.specs.FieldRecords.{recorded_verdict, record_with, record_of, words_from, filled_in, Holds}

-- ---- recorded_verdict

-- the record's number gives the verdict that the dictionary's lines give the tag
pub recorded_verdict-of : (dictionary : List ℕ) (strict : Bool) (tag : ℕ) (value : List ℕ) → Words32 dictionary
    → is_dictionary dictionary ≡ true
    → recorded_verdict dictionary strict value (record_of dictionary tag) ≡ check_value (word_lines dictionary) strict tag value
unfolding check_value recorded_verdict record_of
recorded_verdict-of dictionary strict tag value small passes = go (definition_of dictionary tag) refl
  where
    go : (definition : Option Definition) → definition_of dictionary tag ≡ definition
        → recorded_verdict dictionary strict value (record_with dictionary definition) ≡ defined_verdict strict value (field_in (word_lines dictionary) tag)
    go (Some definition) defined =
        let type = definition.type_place in
        let number = definition.number in
        let found = definition-found dictionary small passes tag type number defined in
        rw (
          lt-ltb number (get_or dictionary 0 0) (definition-known dictionary passes tag type number defined).1,
          definition-type dictionary tag type number defined,
          found.1.1,
          found.1.0,
        )
        (typed_verdict-alike (admits_value dictionary number) (is_admitted_by (field_at (word_lines dictionary) number).values)
        (admits_value-lines dictionary small passes number found.0) strict value (type_numbered type))
    go None missing =
        let none : get_or dictionary 0 0 ≤ get_or dictionary 0 0 = omega arith in
        rw (le-ltb (get_or dictionary 0 0) (get_or dictionary 0 0) none, definition-missing dictionary small passes tag missing)

-- ---- words_from, filled_in

module _ (word : ℕ → ℕ) where
  words_from-length : (left position : ℕ) → length (words_from word left position) ≡ left
  unfolding words_from
  words_from-length zero position = refl
  words_from-length (suc left) position = ap suc (words_from-length left (suc position))

  words_from-nth : (rest : List ℕ) (left first index : ℕ) → index < left → get_or (words_from word left first ++ rest) index 0 ≡ word (first + index)
  unfolding words_from
  words_from-nth rest zero first index inside = absurd (omega arith)
  words_from-nth rest (suc left) first zero inside = let same : first + 0 ≡ first = omega arith in rw same
  words_from-nth rest (suc left) first (suc index) inside =
      let next : first + suc index ≡ suc first + index = omega arith in
      rw next (words_from-nth rest left (suc first) index (omega arith))

  words_from-behind : (rest : List ℕ) (left first : ℕ) → drop left (words_from word left first ++ rest) ≡ rest
  unfolding words_from
  words_from-behind rest zero first = refl
  words_from-behind rest (suc left) first = words_from-behind rest left (suc first)

  module _ (count : ℕ) (space after : List ℕ) (filled : after ≡ filled_in word count space) where
    pub filled_in-holds : Holds word count after
    filled_in-holds position inside = rw filled (words_from-nth (drop count space) count 0 position inside ∙ let same : 0 + position ≡ position = omega arith in rw same)

    pub filled_in-behind : drop count after ≡ drop count space
    filled_in-behind = rw filled (words_from-behind (drop count space) count 0)

-- ---- the loop of `write_records`

module _ (word : ℕ → ℕ) (count : ℕ) (space : List ℕ) where
  -- the words before `position` are written
  pub record FilledSoFar (position : ℕ) (now : List ℕ) : Type 0 where
    pub within : position ≤ count
    pub same_length : length now ≡ length space
    pub left : sets space 0 (words_from word count 0) ≡ sets now position (words_from word (count - position) position)

  pub filled_begins : FilledSoFar 0 space
  filled_begins =
      let all : count - 0 ≡ count = omega arith in
      record { within = omega arith; same_length = refl; left = rw all }

  module _ (position : ℕ) (now : List ℕ) (so_far : FilledSoFar position now) where
    pub filled_goes_on : (given : ℕ) → position < count → given ≡ word position → FilledSoFar (position + 1) (set now position given)
    unfolding words_from
    filled_goes_on given inside is_Is_word =
        let more : count - position ≡ suc (count - suc position) = omega arith in
        record {
          within = omega arith;
          same_length = length-set now position given ∙ so_far.same_length;
          left = so_far.left ∙ rw (more, add-one position, is_Is_word);
        }

    pub filled_ends : count ≤ length space → count ≤ position → now ≡ filled_in word count space
    unfolding words_from
    filled_ends room over =
        let none_left : count - position ≡ 0 = omega (arith, so_far.within) in
        let last : sets space 0 (words_from word count 0) ≡ now = so_far.left ∙ rw none_left in
        let none_before : 0 + count ≡ count = omega arith in
        sym last ∙ sets-eq (words_from word count 0) space 0 (omega (arith, words_from-length word count 0)) ∙ rw (words_from-length word count 0, none_before)

-- ---- `recorded_verdict`, where the record is one of the dictionary's records

module _ (dictionary : List ℕ) (strict : Bool) (value : List ℕ) (number : ℕ) (records : List (List ℕ))
    (are : records ≡ records_in dictionary) (count : length records ≡ get_or dictionary 0 0) where
  pub recorded-past : false ≡ nat_lt number (length records) → Answers.Undefined ≡ recorded_verdict dictionary strict value number
  unfolding recorded_verdict
  recorded-past over = rw (ap (nat_lt number) (sym count) ∙ sym over)

  pub recorded-typed : (one other : List ℕ) → true ≡ nat_lt number (length records) → one ≡ get_or records number other
      → recorded_verdict dictionary strict value number ≡ typed_verdict (admits_value dictionary number) strict value (type_numbered (get_or one 2 0))
  unfolding recorded_verdict
  recorded-typed one other there is =
      let test : nat_lt number (get_or dictionary 0 0) ≡ true = ap (nat_lt number) (sym count) ∙ sym there in
      let here : one ≡ take 10 (drop (4 + 10 * number) dictionary) = is ∙ ap (λ (some : List (List ℕ)). get_or some number other) are ∙ record_numbered dictionary number other (ltb-true number (get_or dictionary 0 0) test) in
      rw (test, here, get_or-take 10 (drop (4 + 10 * number) dictionary) 2 0 (omega arith), get_or-drop (4 + 10 * number) dictionary 2 0)
