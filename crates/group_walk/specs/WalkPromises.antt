-- What the functions of a group walk ask and promise, in terms of the walk (`GroupWalk.antt` of group_reading) at the words' input (`WalkWords.antt`).
-- Assumes nothing.
--
--   WalkAsks, Walks   `walk_group`: the walk's events are written from `at` on, and the positions given are the walk's
--   most_words rows position   as many words as a walk from the position on can need
--   ScanAsks, Scans   `scan_entry` and `scan_wide`: the same for an entry from its first field on, of a level with no more members than the limit
--
-- No more than 25 words are written for a field that is passed: so the place behind the words stays far below what a place can be.
use Rattle.std.specs.Prelude.{◌≡◌, ℕ, ◌+◌, ◌*◌, ◌-◌, ◌≤◌, ◌<◌, Bool, true, false, List, [], length}
use Rattle.ascending.specs.Search.{StrictlyAscending}
use Rattle.layouts.specs.Limits.{gate_limits}
use Rattle.layouts.specs.LayoutWords.{group_count, level_members}
use Rattle.layouts.specs.LayoutCheckFacts.{Passed}
use Rattle.field_table.specs.FieldTable.{row_count}
use Rattle.field_table.specs.FieldTableLaws.{AcceptedTable}
use Rattle.events.specs.EventSpaceLaws.{Wrote}
use Rattle.group_reading.specs.GroupSteps.{entry_stops}
use Rattle.group_reading.specs.GroupWalk.{walk_group, scan_entry}
use Rattle.walk_steps.specs.WalkWords.{among, input_of}

-- 5 * N - 2 events where N fields are left
abbrev pub most_words : ℕ → ℕ → ℕ
most_words rows position = 5 * (5 * (rows - position) - 2)

-- layout words that passed the check, with a group of theirs, and an accepted field table
pub record Accepted (words fields message : List ℕ) (group : ℕ) : Type 0 where
  pub passed : Passed gate_limits words
  pub few_groups_lem : group_count words < 4294967296
  pub valid : group < group_count words
  pub table : AcceptedTable fields (length message)

pub record WalkAsks (words : List ℕ) (group index depth at : ℕ) : Type 0 where
  pub valid : group < group_count words
  pub shallow : depth ≤ 33
  pub room : at ≤ 25 * index

pub record Walks (words fields message enclosing : List ℕ) (group index depth : ℕ) (before after : List ℕ) (at past next : ℕ) : Type 0 where
  pub wrote : Wrote before after at past (walk_group (input_of words fields message) group depth (among enclosing) index).events
  pub next_is : next ≡ (walk_group (input_of words fields message) group depth (among enclosing) index).next

pub record ScanAsks (words fields message : List ℕ) (group start depth at limit : ℕ) : Type 0 where
  pub valid : group < group_count words
  pub few_members_lem : length (level_members words (1 + group)) ≤ limit
  pub taken : entry_stops (input_of words fields message) true group start ≡ false
  pub inside : start < row_count fields
  pub shallow : depth ≤ 32
  pub room : at + 10 ≤ 25 * start

pub record Scans (words fields message : List ℕ) (group start depth : ℕ) (before after : List ℕ) (at past next seen : ℕ) (unparseable : Bool) : Type 0 where
  pub wrote : Wrote before after at past (scan_entry (input_of words fields message) true group depth [] start).events
  pub next_is : next ≡ (scan_entry (input_of words fields message) true group depth [] start).next
  pub seen_is : seen ≡ (scan_entry (input_of words fields message) true group depth [] start).seen
  pub unparseable_is : unparseable ≡ (scan_entry (input_of words fields message) true group depth [] start).unparseable
  pub moves : start < next
  pub within : next ≤ row_count fields
  pub few : past + 5 + 25 * start ≤ at + 25 * next
