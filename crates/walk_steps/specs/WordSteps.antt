-- The decisions of a group walk (`GroupSteps.antt` of group_reading) as they are made on words: a field with its tag and the tag's rank among the members
-- at hand. `EntryStep` and `Turn` are declared in src/group_steps.rt. That they are those of `GroupSteps.antt` is in the laws. Assumes nothing.
--
--   entry_step fields members count_tags first delimiter start cursor   what `scan_entry` does at the cursor, in an entry that begins at `start`; the
--                          groups nested in the level have these count tags, and their numbers begin with `first`
--   turn_at fields members enclosing delimiter declared entries cursor   what `walk_group` does at the cursor, behind so many entries
use Rattle.std.specs.Prelude.{ℕ, Bool, not, ◌&&◌, List, if◌then◌else◌, Option, Some, None}
use Rattle.ascii.specs.Notation.{◌<ᵇ◌, ◌≡ᵇ◌}
use Rattle.ascending.specs.Search.{rank_in}
use Rattle.layouts.specs.LayoutRules.{◌∈ᵇ◌}
use Rattle.field_table.specs.FieldTable.{row_count, tag_of}
use Rattle.group_reading.specs.GroupSteps.{ends_group}
use Rattle.walk_steps.specs.declared.group_steps.EntryStep.{EntryStep}
use Rattle.walk_steps.specs.declared.group_steps.EntryStep.TheVariants.{Stop, Plain, Nested}
use Rattle.walk_steps.specs.declared.group_steps.Turn.{Turn}
use Rattle.walk_steps.specs.declared.group_steps.Turn.TheVariants.{Over, Entry, Lead}
use Rattle.walk_steps.specs.WalkWords.{among, number_found}

abbrev pub member_step : ℕ → ℕ → Option ℕ → EntryStep
member_step rank tag None = Plain rank tag
member_step rank tag (Some number) = Nested rank tag number

-- `delimits`: the field is the delimiter and not the entry's first
abbrev pub rank_step : Option ℕ → ℕ → (delimits : Bool) → Option ℕ → EntryStep
rank_step None tag delimits inner = Stop
rank_step (Some rank) tag delimits inner = if delimits then Stop else member_step rank tag inner

unfoldable pub entry_step : List ℕ → List ℕ → List ℕ → ℕ → ℕ → ℕ → ℕ → EntryStep
entry_step fields members count_tags first delimiter start cursor =
    if cursor <ᵇ row_count fields
    then rank_step (rank_in members (tag_of fields cursor)) (tag_of fields cursor) (not (cursor ≡ᵇ start) && tag_of fields cursor ≡ᵇ delimiter)
    (number_found first (rank_in count_tags (tag_of fields cursor)))
    else Stop

-- over the outcomes of the tests: no entry yet, a member, and as many entries as declared with a tag of the level around
abbrev pub lead_by : (none_yet member ends : Bool) → ℕ → Turn
lead_by none_yet member ends tag = if none_yet && member && not ends then Lead tag else Over

-- also: inside the table, the delimiter
abbrev pub turn_by : (inside delimits ends none_yet member : Bool) → ℕ → Turn
turn_by inside delimits ends none_yet member tag =
    if not inside then Over
    else if delimits then (if ends then Over else Entry)
    else lead_by none_yet member ends tag

unfoldable pub turn_at : List ℕ → List ℕ → List ℕ → ℕ → Option ℕ → ℕ → ℕ → Turn
turn_at fields members enclosing delimiter declared entries cursor =
    turn_by (cursor <ᵇ row_count fields) (tag_of fields cursor ≡ᵇ delimiter) (ends_group declared entries (among enclosing) (tag_of fields cursor)) (entries ≡ᵇ 0)
    (tag_of fields cursor ∈ᵇ members) (tag_of fields cursor)
