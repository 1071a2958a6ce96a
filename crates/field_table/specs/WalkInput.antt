-- What a group walk reads: a layout, as a system of groups, a field table, by position, and the limit of the depth. The words that hold
-- them do not appear here. Document 01, 'The layout of a message type' and 'The events of a walk'. Assumes nothing.
--
--   Layout               the Rust's `GroupSpec` with its lookups (group.rs)
--   Fields               the fields of a message, by their position from 0
--   Input                both, and the greatest depth of a group (the Rust's MAX_SCOPE_DEPTH)
--   count_at fields position              what the value at the position declares as a count field
--   event layout group depth kind        an event of the group: it carries the group's count tag and its depth
use Rattle.std.specs.Prelude.{ℕ, Bool, List, Option}
use Rattle.counts.specs.Count.{count_of}
use Rattle.events.specs.declared.event.Kind.{Kind}
use Rattle.events.specs.declared.event.Event.{Event}

-- A `Group` is whatever names a group, as a row of the layout's table of groups.
pub record Layout : Type 1 where
  pub Group : Type 0
  pub count_tag : Group → ℕ
  pub delimiter : Group → ℕ
  -- whether a tag is one of the group's own members; those of groups nested in it are not
  pub is_member : Group → ℕ → Bool
  -- the group nested in this one whose count tag it is
  pub nested_group : Group → ℕ → Option Group

pub record Fields : Type 0 where
  pub field_count : ℕ
  pub tag_at : ℕ → ℕ
  pub value_at : ℕ → List ℕ

pub record Input : Type 1 where
  pub layout : Layout
  pub fields : Fields
  pub depth_limit : ℕ

abbrev pub count_at : Fields → ℕ → Option ℕ
count_at fields position = count_of (fields.value_at position)

abbrev pub event : (layout : Layout) → layout.Group → ℕ → Kind → Event
event layout group depth kind = record { count_tag = layout.count_tag group; depth = depth; kind = kind }
