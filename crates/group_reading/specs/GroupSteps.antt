-- The decisions of a group walk, as walk.rs makes them: what the walk does at a count field, whether another entry begins, and what it does
-- at a field of an entry. Assumes nothing.
--
--   ends_group declared entries enclosing tag            the Rust's closure `ends_group`: the declared entries are here, and the enclosing level has the tag
--   member_leads group enclosing declared cursor         a member of the group stands ahead of any delimiter
--   entry_begins group enclosing declared entries cursor another entry begins behind so many
--   entry_stops at_start group cursor                     the entry ends before the field at the cursor; `at_start`: the cursor is at the entry's first field
--   Opening, opening_at group depth enclosing index      what `walk_group` finds at the count field
--   Step, step_at at_start group cursor                   what `scan_entry` finds at a field
--
-- `enclosing` tests the tags of the level around the group.
use Rattle.std.specs.Prelude.{ℕ, suc, Bool, false, not, ◌&&◌, ◌||◌, if◌then◌else◌, Option, Some, None}
use Rattle.ascii.specs.Notation.{◌≤ᵇ◌, ◌<ᵇ◌, ◌≡ᵇ◌}
use Rattle.field_table.specs.WalkInput.{Input, count_at}

abbrev pub ends_group : Option ℕ → ℕ → (ℕ → Bool) → ℕ → Bool
ends_group (Some declared) entries enclosing tag = declared ≡ᵇ entries && enclosing tag
ends_group None entries enclosing tag = false

pub data Opening : Type 0 where
  -- the index is outside the table
  outside : Opening
  -- the group nests past the limit
  too_deep : Opening
  -- "members ahead of any delimiter: the first entry is not delimiter-led"
  member_leads_lem : Opening
  entries_follow : Opening

pub data Step (Group : Type 0) : Type 0 where
  -- the entry has no further field
  stops : Step Group
  plain_field : Step Group
  -- the field is the count field of a nested group
  nested_group_lem : Group → Step Group

abbrev pub field_step : {Group : Type 0} → Option Group → Step Group
field_step None = plain_field
field_step (Some inner) = nested_group_lem inner

module _ (input : Input) where
  open input use {layout, fields, depth_limit}
  open layout use {Group, delimiter, is_member, nested_group}
  open fields use {field_count, tag_at}

  unfoldable pub member_leads : Group → (ℕ → Bool) → Option ℕ → ℕ → Bool
  member_leads group enclosing declared cursor =
      cursor <ᵇ field_count
      && not (tag_at cursor ≡ᵇ delimiter group)
      && is_member group (tag_at cursor)
      && not (ends_group declared 0 enclosing (tag_at cursor))

  unfoldable pub entry_begins : Group → (ℕ → Bool) → Option ℕ → ℕ → ℕ → Bool
  entry_begins group enclosing declared entries cursor =
      cursor <ᵇ field_count
      && tag_at cursor ≡ᵇ delimiter group
      && not (ends_group declared entries enclosing (tag_at cursor))

  unfoldable pub entry_stops : Bool → Group → ℕ → Bool
  entry_stops at_start group cursor =
      not (cursor <ᵇ field_count)
      || not (is_member group (tag_at cursor))
      || not at_start && tag_at cursor ≡ᵇ delimiter group

  unfoldable pub opening_at : Group → ℕ → (ℕ → Bool) → ℕ → Opening
  opening_at group depth enclosing index =
      if not (index <ᵇ field_count) then outside
      else if not (depth ≤ᵇ depth_limit) then too_deep
      else if member_leads group enclosing (count_at fields index) (suc index) then member_leads_lem
      else entries_follow

  unfoldable pub step_at : Bool → Group → ℕ → Step Group
  step_at at_start group cursor = if entry_stops at_start group cursor then stops else field_step (nested_group group (tag_at cursor))
