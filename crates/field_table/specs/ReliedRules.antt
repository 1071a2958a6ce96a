-- What the theorem on readings relies on of a layout: the delimiter of a group is one of its members. Layout words that pass the check
-- meet it (`WalkWordsLaws.antt` of walk_steps). Assumes nothing.
use Rattle.std.specs.Prelude.{◌≡◌, ℕ, true, Some}
use Rattle.field_table.specs.WalkInput.{Layout}

-- Rule 2 of document 01's seven, for the groups that are `Valid`; what is nested in a valid group is valid. The other rules are for searches.
-- That the names of groups are a set, as numbers are, is used for one derivation a reading.
pub record LayoutRules (layout : Layout) : Type 1 where
  pub group_set : IsSet layout.Group
  pub Valid : layout.Group → Type 0
  pub delimiter_member : (group : layout.Group) → Valid group → layout.is_member group (layout.delimiter group) ≡ true
  pub nested_valid : (group inner : layout.Group) (tag : ℕ) → Valid group → layout.nested_group group tag ≡ Some inner → Valid inner
