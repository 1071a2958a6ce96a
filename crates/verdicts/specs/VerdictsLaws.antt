-- Laws of `Verdicts.antt`, in its order, and the loop of `judge_values`. Assumes nothing.
use Rattle.std.specs.Prelude.{◌≡◌, refl, Bool, true, false, List, ◌++◌, get_or, set, Result, Ok, Err}
use Rattle.std.proofs.Math.Path.{sym}
use Rattle.std.proofs.Common.{ap, ◌∙◌, le-leb}
use Prim.Native.Nat.{ℕ, zero, suc, ◌+◌, ◌-◌, ◌≤◌, ◌<◌}
use native.Mathlib.Omega.{arith}
use Rattle.std.proofs.Math.Numerals.{add-one}
use Rattle.std.proofs.Math.ListN.{length, length-set}
use Rattle.std.proofs.Math.Seq.{sets, sets-eq, get_or-set_other}
use Rattle.std.proofs.lemmas.Bool.{lt-leb}
use Rattle.refusals.specs.declared.refusal.Refusal.TheVariants.{UnknownForm, SpaceShort}
use Rattle.dictionary.specs.DictionaryCheck.{is_dictionary}
use Rattle.field_table.specs.FieldTable.{row_count, table_check_of, fields_of}
use Rattle.field_table.specs.WalkInput.{Fields}
use Rattle.verdict.specs.declared.verdict.Verdict.{Verdict}
use Rattle.verdict.specs.Verdict.{verdict_word}
use Rattle.verdict.specs.FieldRecords.{field_record, filled_in, Holds}
use Rattle.verdict.specs.FieldRecordsLaws.{filled_in-behind}
use Rattle.verdicts.specs.Verdicts.{field_verdict, verdicts_from, verdicts_of, space_answer, judged_of, written_in, space_with, verdicts_in}
use Rattle.refusals.specs.declared.refusal.Refusal.{Refusal}

-- ---- the words of the verdicts

-- one word a field
pub verdicts_from-length : (dictionary : List ℕ) (strict : Bool) (fields : Fields) (left position : ℕ) → length (verdicts_from dictionary strict fields left position) ≡ left
unfolding verdicts_from
verdicts_from-length dictionary strict fields zero position = refl
verdicts_from-length dictionary strict fields (suc left) position = ap suc (verdicts_from-length dictionary strict fields left (suc position))

-- ---- the loop of `judge_values`

module _ (dictionary fields message : List ℕ) (strict : Bool) (space : List ℕ) where
  -- the verdicts on the fields before `index` are written
  pub record WrittenSoFar (index : ℕ) (now : List ℕ) : Type 0 where
    pub within : index ≤ row_count fields
    pub same_length : length now ≡ length space
    pub ahead : (position : ℕ) → index ≤ position → get_or now position 0 ≡ get_or space position 0
    pub left : sets space 0 (verdicts_of dictionary strict (fields_of fields message)) ≡ sets now index (verdicts_from dictionary strict (fields_of fields message) (row_count fields - index) index)

  pub written-begins : WrittenSoFar 0 space
  written-begins =
      let all : row_count fields - 0 ≡ row_count fields = omega arith in
      record { within = omega arith; same_length = refl; ahead = λ position behind. refl; left = rw all }

  module _ (index : ℕ) (now : List ℕ) (so_far : WrittenSoFar index now) where
    -- the number of the field's record still stands where its verdict will
    pub written-record : Holds (field_record dictionary fields) (row_count fields) space → index < row_count fields → get_or now index 0 ≡ field_record dictionary fields index
    written-record kept inside = so_far.ahead index (omega arith) ∙ kept index inside

    pub written-goes_on : (verdict : Verdict) (word : ℕ) → index < row_count fields
        → verdict ≡ field_verdict dictionary strict (fields_of fields message) index
        → word ≡ verdict_word verdict
        → WrittenSoFar (index + 1) (set now index word)
    unfolding verdicts_from
    written-goes_on verdict word inside judged is_Is_word =
        let more : row_count fields - index ≡ suc (row_count fields - suc index) = omega arith in
        record {
          within = omega arith;
          same_length = length-set now index word ∙ so_far.same_length;
          ahead = λ position behind. get_or-set_other now index position word 0 (λ same. absurd (omega arith)) ∙ so_far.ahead position (omega arith);
          left = so_far.left ∙ rw (more, add-one index, is_Is_word, judged);
        }

    pub written-ends : row_count fields ≤ length space → row_count fields ≤ index → now ≡ written_in dictionary fields message strict space
    unfolding verdicts_from
    written-ends room over =
        let none_left : row_count fields - index ≡ 0 = omega (arith, so_far.within) in
        let all : length (verdicts_of dictionary strict (fields_of fields message)) ≡ row_count fields = verdicts_from-length dictionary strict (fields_of fields message) (row_count fields) 0 in
        let last : sets space 0 (verdicts_of dictionary strict (fields_of fields message)) ≡ now = so_far.left ∙ rw none_left in
        let none_before : 0 + row_count fields ≡ row_count fields = omega arith in
        sym last ∙ sets-eq (verdicts_of dictionary strict (fields_of fields message)) space 0 (omega arith) ∙ rw (all, none_before)

-- ---- `write_verdicts`: the words behind the verdicts are those that were there before the records' numbers

pub written_over : (dictionary fields message : List ℕ) (strict : Bool) (space between after : List ℕ)
    → between ≡ filled_in (field_record dictionary fields) (row_count fields) space
    → after ≡ written_in dictionary fields message strict between
    → after ≡ written_in dictionary fields message strict space
written_over dictionary fields message strict space between after filled written =
    written
    ∙ ap (λ (rest : List ℕ). verdicts_of dictionary strict (fields_of fields message) ++ rest)
    (filled_in-behind (field_record dictionary fields) (row_count fields) space between filled)

-- ---- each answer by the tests in the order of the code

module _ (dictionary fields message : List ℕ) (strict : Bool) (space : List ℕ) where
  pub space_short : length space < row_count fields
      → (Err (SpaceShort (row_count fields)) ≡ space_answer fields space) × (space ≡ space_with dictionary fields message strict space)
  space_short short = rw (lt-leb (row_count fields) (length space) short) (refl, refl)

  pub space-holds : (after : List ℕ) → row_count fields ≤ length space → after ≡ written_in dictionary fields message strict space
      → (Ok (row_count fields) ≡ space_answer fields space) × (after ≡ space_with dictionary fields message strict space)
  space-holds after room written = rw (le-leb (row_count fields) (length space) room) (refl, written)

  pub refused-dictionary : is_dictionary dictionary ≡ false
      → (Err (UnknownForm 0) ≡ judged_of dictionary fields message space) × (space ≡ verdicts_in dictionary fields message strict space)
  unfolding judged_of verdicts_in
  refused-dictionary wrong = rw wrong (refl, refl)

  module _ (right : is_dictionary dictionary ≡ true) where
    pub refused-table : (refusal : Refusal) → table_check_of fields (length message) ≡ Err refusal
        → (Err refusal ≡ judged_of dictionary fields message space) × (space ≡ verdicts_in dictionary fields message strict space)
    unfolding judged_of verdicts_in
    refused-table refusal bad = rw (right, bad) (refl, refl)

    pub table-accepted : (judged : Result ℕ Refusal) (after : List ℕ) → table_check_of fields (length message) ≡ Ok tt
        → judged ≡ space_answer fields space → after ≡ space_with dictionary fields message strict space
        → (judged ≡ judged_of dictionary fields message space) × (after ≡ verdicts_in dictionary fields message strict space)
    unfolding judged_of verdicts_in
    table-accepted judged after good answers left = rw (right, good) (answers, left)

    -- with the words and the message as the type holds them
    pub table-taken : (fields' message' : List ℕ) → fields' ≡ fields → message' ≡ message → table_check_of fields' (length message') ≡ Ok tt → (judged : Result ℕ Refusal) (after : List ℕ)
        → judged ≡ space_answer fields' space → after ≡ space_with dictionary fields' message' strict space
        → (judged ≡ judged_of dictionary fields message space) × (after ≡ verdicts_in dictionary fields message strict space)
    table-taken fields' message' are-fields is-message good judged after answers left =
        table-accepted judged after (rw (are-fields, is-message) at good) (rw are-fields at answers) (rw (are-fields, is-message) at left)
