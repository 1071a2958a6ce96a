-- The call `walk_group` on lent words (document 01, 'The events of a walk' and 'When the gate says no'): what it answers, and what the event space holds
-- afterwards. "Walk: lent words, 12, 14, 13." "A refusal writes nothing; an answer leaves the words behind its last one as they were."
-- `Walked` is declared in src/walk_call.rt; number and place of a refusal are in `Refusal.antt` of refusals. Assumes nothing.
--
--   top_walk words fields message group position the walk of the top group of this number, from the position on
--   needed_for walk                              "space for a walk's events is five words each"
--   walked_of words fields message position tag space   what the call answers
--   events_in words fields message position tag space   what the event space holds afterwards
use Rattle.std.specs.Prelude.{ℕ, ◌+◌, ◌*◌, List, ◌++◌, length, drop, if◌then◌else◌, Option, Some, None, Result, Ok, Err}
use Rattle.ascii.specs.Notation.{◌≤ᵇ◌}
use Rattle.refusals.specs.declared.refusal.Refusal.TheVariants.{RuleBroken, SpaceShort, NoSuchGroup}
use Rattle.layouts.specs.Limits.{gate_limits}
use Rattle.layouts.specs.LayoutCheck.{is_layout}
use Rattle.events.specs.Events.{events_words}
use Rattle.field_table.specs.FieldTable.{table_check_of}
use Rattle.group_reading.specs.GroupWalk.{WalkedGroup, walk_group}
use Rattle.walk.specs.declared.walk_call.Walked.{Walked}
use Rattle.walk_steps.specs.WalkWords.{group_of, input_of, top_members}
use Rattle.refusals.specs.declared.refusal.Refusal.{Refusal}

abbrev pub top_walk : List ℕ → List ℕ → List ℕ → ℕ → ℕ → WalkedGroup
top_walk words fields message group position = walk_group (input_of words fields message) group 0 (top_members words) position

abbrev pub needed_for : WalkedGroup → ℕ
needed_for walk = 5 * length walk.events

-- 13, or the answer
abbrev pub space_answer : WalkedGroup → List ℕ → Result Walked Refusal
space_answer walk space = if needed_for walk ≤ᵇ length space then Ok (record { position = walk.next; words = (needed_for walk) }) else Err (SpaceShort (needed_for walk))

abbrev pub space_with : WalkedGroup → List ℕ → List ℕ
space_with walk space = if needed_for walk ≤ᵇ length space then events_words walk.events ++ drop (needed_for walk) space else space

module _ (words fields message : List ℕ) (position tag : ℕ) (space : List ℕ) where
  -- 14 before it
  abbrev pub group_answer : Option ℕ → Result Walked Refusal
  group_answer None = Err (NoSuchGroup tag)
  group_answer (Some group) = space_answer (top_walk words fields message group position) space

  abbrev pub group_space : Option ℕ → List ℕ
  group_space None = space
  group_space (Some group) = space_with (top_walk words fields message group position) space

  -- 12 before that
  abbrev pub table_answer : Result Unit Refusal → Result Walked Refusal
  table_answer (Err refusal) = Err refusal
  table_answer (Ok tt) = group_answer (group_of words 0 tag)

  abbrev pub table_space : Result Unit Refusal → List ℕ
  table_space (Err refusal) = space
  table_space (Ok tt) = group_space (group_of words 0 tag)

  unfoldable pub walked_of : Result Walked Refusal
  walked_of = if is_layout gate_limits words then table_answer (table_check_of fields (length message)) else Err (RuleBroken 0 0)

  unfoldable pub events_in : List ℕ
  events_in = if is_layout gate_limits words then table_space (table_check_of fields (length message)) else space
