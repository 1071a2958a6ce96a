-- What the functions of a message walk ask and promise, in terms of the walk at the words' input (`MessageWords.antt`). The tags defined are given as a list
-- of words. Assumes nothing.
--
--   Lent defined words fields message   layout words that passed the check, an accepted field table, and the ascending tags of a dictionary: what
--                       the types `Layout`, `FieldTable` and `DefinedTags` hold of the lent words (`lent_of`)
--   PlaceAsks, Placed   `walk_place`: the group that begins at a field, or foreign
--   TurnAsks, Turned    `walk_field`: a turn of the loop
--   Walked              `walk_fields`: the loop
--
-- No more than 25 words are written for a field that is passed, and five are left behind each turn: so there is room for a twice before a group.
use Rattle.std.specs.Prelude.{◌≡◌, ℕ, ◌+◌, ◌*◌, ◌≤◌, ◌<◌, true, List, length}
use Rattle.ascending.specs.Search.{StrictlyAscending}
use Rattle.layouts.specs.Limits.{gate_limits}
use Rattle.layouts.specs.LayoutWords.{group_count}
use Rattle.layouts.specs.LayoutCheckFacts.{Passed}
use Rattle.field_table.specs.FieldTable.{row_count, tag_of}
use Rattle.field_table.specs.FieldTableLaws.{AcceptedTable}
use Rattle.events.specs.EventSpaceLaws.{Wrote}
use Rattle.entry_tags.specs.EntryTags.{holds_rank}
use Rattle.walk_steps.specs.WalkWords.{group_of, input_of}
use Rattle.message_level.specs.MessageWalk.{place_at, turn_at, message_turns}
use Rattle.message_level.specs.MessageWords.{level_of}
use Rattle.message_level.specs.SeenTags.{seen_words, SeenTags}

pub record Lent (defined words fields message : List ℕ) : Type 0 where
  pub ascends : StrictlyAscending defined
  pub few_tags_lem : length defined ≤ 10922
  pub passed : Passed gate_limits words
  pub few_groups_lem : group_count words < 4294967296
  pub table : AcceptedTable fields (length message)

pub record PlaceAsks (fields : List ℕ) (index tag at : ℕ) : Type 0 where
  pub inside : index < row_count fields
  pub tag_is : tag ≡ tag_of fields index
  pub room : at ≤ 25 * index

-- whatever tags are defined
pub record Placed (words fields message : List ℕ) (index tag : ℕ) (before after : List ℕ) (at past next : ℕ) : Type 0 where
  pub wrote : (defined : List ℕ) → Wrote before after at past (place_at (input_of words fields message) (level_of defined words) (group_of words 0 tag) index).events
  pub next_is : (defined : List ℕ) → next ≡ (place_at (input_of words fields message) (level_of defined words) (group_of words 0 tag) index).next

pub record TurnAsks (fields seen : List ℕ) (index at : ℕ) : Type 0 where
  pub wide : length seen ≡ seen_words
  pub inside : index < row_count fields
  pub room : at ≤ 25 * index
  -- where a tag was seen before, there was a turn
  pub again : (rank : ℕ) → rank < 10944 → holds_rank seen rank ≡ true → at + 5 ≤ 25 * index

-- `seen` and `seen'` are the words of the set before and after the turn
pub record Turned (defined words fields message tags : List ℕ) (index : ℕ) (seen' before after : List ℕ) (at past next : ℕ) : Type 0 where
  pub wrote : Wrote before after at past (turn_at (input_of words fields message) (level_of defined words) tags index).events
  pub kept : SeenTags defined seen' (turn_at (input_of words fields message) (level_of defined words) tags index).seen
  pub next_is : next ≡ (turn_at (input_of words fields message) (level_of defined words) tags index).next

pub record Walked (defined words fields message seen before after : List ℕ) (past : ℕ) : Type 0 where
  pub wrote : Wrote before after 0 past (message_turns (input_of words fields message) (level_of defined words)).events
  pub kept : SeenTags defined seen (message_turns (input_of words fields message) (level_of defined words)).seen
  pub few : past ≤ 25 * row_count fields
