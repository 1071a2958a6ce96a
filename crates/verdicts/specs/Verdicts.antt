-- The call `check_values` on lent words (document 01, 'The verdict on a value' and 'When the gate says no'): what it answers, and what the space for the verdicts
-- holds afterwards. "One word a field". "Verdicts: lent words, 12, 13." "A refusal writes nothing; an answer leaves the words behind its last one as they were."
-- `Judged` is declared in src/verdicts_call.rt; number and place of a refusal are in `Refusal.antt` of refusals. Assumes nothing.
--
--   field_verdict dictionary strict table position         the verdict on the field at the position
--   verdicts_from dictionary strict table left position    the words of the verdicts on so many fields from the position on
--   verdicts_of dictionary strict table                    .. on all fields
--   judged_of dictionary fields message space              what the call answers
--   verdicts_in dictionary fields message strict space     what the space holds afterwards
use Rattle.std.specs.Prelude.{ℕ, zero, suc, Bool, List, [], ◌∷◌, ◌++◌, length, drop, if◌then◌else◌, Result, Ok, Err}
use Rattle.ascii.specs.Notation.{◌≤ᵇ◌}
use Rattle.refusals.specs.declared.refusal.Refusal.TheVariants.{UnknownForm, SpaceShort}
use Rattle.dictionary.specs.DictionaryWords.{word_lines}
use Rattle.dictionary.specs.DictionaryCheck.{is_dictionary}
use Rattle.field_table.specs.FieldTable.{row_count, table_check_of, fields_of}
use Rattle.field_table.specs.WalkInput.{Fields}
use Rattle.verdict.specs.declared.verdict.Verdict.{Verdict}
use Rattle.verdict.specs.Verdict.{verdict_word, check_value}
use Rattle.refusals.specs.declared.refusal.Refusal.{Refusal}

module _ (dictionary : List ℕ) (strict : Bool) (table : Fields) where
  abbrev pub field_verdict : ℕ → Verdict
  field_verdict position = check_value (word_lines dictionary) strict (table.tag_at position) (table.value_at position)

  unfoldable pub verdicts_from : ℕ → ℕ → List ℕ
  verdicts_from zero position = []
  verdicts_from (suc left) position = verdict_word (field_verdict position) ∷ verdicts_from left (suc position)

  abbrev pub verdicts_of : List ℕ
  verdicts_of = verdicts_from table.field_count 0

-- ---- what the call answers

-- 13, or the answer
abbrev pub space_answer : List ℕ → List ℕ → Result ℕ Refusal
space_answer fields space = if row_count fields ≤ᵇ length space then Ok (row_count fields) else Err (SpaceShort (row_count fields))

-- 12 before it
abbrev pub table_answer : List ℕ → List ℕ → Result Unit Refusal → Result ℕ Refusal
table_answer fields space (Err refusal) = Err refusal
table_answer fields space (Ok tt) = space_answer fields space

unfoldable pub judged_of : List ℕ → List ℕ → List ℕ → List ℕ → Result ℕ Refusal
judged_of dictionary fields message space =
    if is_dictionary dictionary
    then table_answer fields space (table_check_of fields (length message))
    else Err (UnknownForm 0)

-- ---- what the space holds afterwards

module _ (dictionary fields message : List ℕ) (strict : Bool) (space : List ℕ) where
  abbrev pub written_in : List ℕ
  written_in = verdicts_of dictionary strict (fields_of fields message) ++ drop (row_count fields) space

  abbrev pub space_with : List ℕ
  space_with = if row_count fields ≤ᵇ length space then written_in else space

  abbrev pub table_space : Result Unit Refusal → List ℕ
  table_space (Err refusal) = space
  table_space (Ok tt) = space_with

  unfoldable pub verdicts_in : List ℕ
  verdicts_in = if is_dictionary dictionary then table_space (table_check_of fields (length message)) else space
