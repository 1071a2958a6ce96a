-- The check of lent words. Document 01: "A call that is lent dictionary or layout words first checks that they are the arrangement of an accepted dictionary".
-- The words say how many lines they have; their records are read as lines, the steps of the dictionary text (dictionary_order, `step_of`) run over these, the lengths of
-- their texts are added up ("text over 65,536 bytes"), and each index names what the records define, each name once. Assumes nothing.
--
--   accepts state number total lines   lines from this number on, read in this state behind so many bytes, are those of an accepted text, but for row 5
--   is_index kind at count words  the index at this place has the names of all records of this kind, each once, and where they stand
--   is_dictionary words           the words begin with the arrangement of an accepted dictionary
use Rattle.std.specs.Prelude.{ℕ, zero, suc, ◌+◌, ◌*◌, Bool, true, false, ◌&&◌, List, [], ◌∷◌, length, get_or, take, drop, if◌then◌else◌, Result, Ok, Err}
use Rattle.ascii.specs.Notation.{◌≤ᵇ◌, ◌<ᵇ◌, ◌≡ᵇ◌}
use Rattle.ascending.specs.Search.{is_strictly_ascending}
use Rattle.line_forms.specs.declared.line.Line.{Line}
use Rattle.dictionary_order.specs.declared.dictionary_order.State.{State}
use Rattle.dictionary_order.specs.DictionaryOrder.{start, step_of, after, may_end}
use Rattle.records.specs.Records.{lines_from}
use Rattle.records.specs.LineLengths.{length_of}
use Rattle.dictionary.specs.DictionaryWords as kinds
use Rattle.refusals.specs.declared.refusal.Refusal.{Refusal}

-- ---- the lines

abbrev pub is_taken : Result State Refusal → Bool
is_taken (Ok next) = true
is_taken (Err refusal) = false

unfoldable pub accepts : State → ℕ → ℕ → List Line → Bool
accepts state number total [] = may_end state
accepts state number total (line ∷ rest) =
    let step = step_of state number line in
    is_taken step
    && (total + (length_of line + 1) ≤ᵇ 65536 && accepts (after state step) (number + 1) (total + (length_of line + 1)) rest)

-- ---- an index

-- how many of so many records are of this kind
unfoldable pub count_of : ℕ → ℕ → List ℕ → ℕ
count_of kind zero words = 0
count_of kind (suc count) words = if get_or words 0 0 ≡ᵇ kind then suc (count_of kind count (drop 10 words)) else count_of kind count (drop 10 words)

-- the record with this number is of this kind and has this name
unfoldable pub stands_at : ℕ → ℕ → ℕ → List ℕ → Bool
stands_at kind name number words =
    number <ᵇ get_or words 0 0
    && (get_or words (4 + 10 * number) 0 ≡ᵇ kind && get_or words (4 + 10 * number + 1) 0 ≡ᵇ name)

-- the `left` names from this place on, each with the number of its record `count` words behind it
unfoldable pub stands_each : ℕ → ℕ → ℕ → ℕ → List ℕ → Bool
stands_each kind count at zero words = true
stands_each kind count at (suc left) words =
    stands_at kind (get_or words at 0) (get_or words (at + count) 0) words && stands_each kind count (at + 1) left words

unfoldable pub is_index : ℕ → ℕ → ℕ → List ℕ → Bool
is_index kind at count words =
    count_of kind (get_or words 0 0) (drop 4 words) ≡ᵇ count
    && (is_strictly_ascending (take count (drop at words)) && stands_each kind count at count words)

-- ---- the whole

-- where the indexes begin
abbrev pub tags_at : List ℕ → ℕ
tags_at words = 4 + 10 * get_or words 0 0

abbrev pub components_at : List ℕ → ℕ
components_at words = tags_at words + 2 * get_or words 1 0

abbrev pub messages_at : List ℕ → ℕ
messages_at words = components_at words + 2 * get_or words 2 0

abbrev pub size_of : List ℕ → ℕ
size_of words = messages_at words + 2 * get_or words 3 0

unfoldable pub is_dictionary : List ℕ → Bool
is_dictionary words =
    4 ≤ᵇ length words
    && (size_of words ≤ᵇ length words
    && (accepts start 1 0 (lines_from (get_or words 0 0) (drop 4 words))
    && (is_index kinds.definitions (tags_at words) (get_or words 1 0) words
    && (is_index kinds.components (components_at words) (get_or words 2 0) words
    && is_index kinds.messages (messages_at words) (get_or words 3 0) words))))
