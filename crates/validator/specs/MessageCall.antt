-- The call `walk_message` on lent words (document 01, 'The events of a walk' and 'When the gate says no'): what it answers, and what the event space holds
-- afterwards. "Walk: lent words, 12, 14, 13", where the message walk knows no 14; of lent words "the dictionary first". "A refusal writes nothing; an answer
-- leaves the words behind its last one as they were." `WalkedMessage` is declared in src/message_call.rt; number and place of a refusal are in
-- `Refusal.antt` of refusals. Assumes nothing.
--
--   walk_of dictionary words fields message   the events of the message walk, where the dictionary's words define the tags (`DefinedTags.antt` of definitions)
--   needed_for events                   "space for a walk's events is five words each"
--   space_answer, space_with events space   13, or the answer and the words written
--   walked_of dictionary words fields message space   what the call answers
--   events_in dictionary words fields message space   what the event space holds afterwards
use Rattle.std.specs.Prelude.{ℕ, ◌*◌, List, ◌++◌, length, drop, if◌then◌else◌, Result, Ok, Err}
use Rattle.ascii.specs.Notation.{◌≤ᵇ◌}
use Rattle.refusals.specs.declared.refusal.Refusal.TheVariants.{UnknownForm, RuleBroken, SpaceShort}
use Rattle.definitions.specs.DefinedTags.{defined_tags}
use Rattle.dictionary.specs.DictionaryCheck.{is_dictionary}
use Rattle.layouts.specs.Limits.{gate_limits}
use Rattle.layouts.specs.LayoutCheck.{is_layout}
use Rattle.events.specs.declared.event.Event.{Event}
use Rattle.events.specs.Events.{events_words}
use Rattle.field_table.specs.FieldTable.{table_check_of}
use Rattle.message_level.specs.MessageWords.{events_with}
use Rattle.refusals.specs.declared.refusal.Refusal.{Refusal}

abbrev pub walk_of : List ℕ → List ℕ → List ℕ → List ℕ → List Event
walk_of dictionary words fields message = events_with (defined_tags dictionary) words fields message

abbrev pub needed_for : List Event → ℕ
needed_for events = 5 * length events

-- 13, or the answer
abbrev pub space_answer : List Event → List ℕ → Result ℕ Refusal
space_answer events space = if needed_for events ≤ᵇ length space then Ok (needed_for events) else Err (SpaceShort (needed_for events))

abbrev pub space_with : List Event → List ℕ → List ℕ
space_with events space = if needed_for events ≤ᵇ length space then events_words events ++ drop (needed_for events) space else space

module _ (dictionary words fields message space : List ℕ) where
  -- 12 before it
  abbrev pub table_answer : Result Unit Refusal → Result ℕ Refusal
  table_answer (Err refusal) = Err refusal
  table_answer (Ok tt) = space_answer (walk_of dictionary words fields message) space

  abbrev pub table_space : Result Unit Refusal → List ℕ
  table_space (Err refusal) = space
  table_space (Ok tt) = space_with (walk_of dictionary words fields message) space

  -- "it refuses dictionary words with 2 and layout words with 11, place 0, the dictionary first"
  unfoldable pub walked_of : Result ℕ Refusal
  walked_of =
      if is_dictionary dictionary then
      (if is_layout gate_limits words then table_answer (table_check_of fields (length message)) else Err (RuleBroken 0 0))
      else Err (UnknownForm 0)

  unfoldable pub events_in : List ℕ
  events_in =
      if is_dictionary dictionary then
      (if is_layout gate_limits words then table_space (table_check_of fields (length message)) else space)
      else space
