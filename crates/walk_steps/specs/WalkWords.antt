-- What a group walk reads, from lent words: a layout from layout words (`LayoutWords.antt` of layouts, docs/ARRANGEMENT.md), the fields from a field
-- table and a message. Document 01, 'The layout of a message type' and 'The events of a walk'. Assumes nothing.
--
--   among members tag           the tag is one of the members
--   number_found first found     the number of the group whose count tag was found among those of a level, `first` being the number of the level's first
--   group_of words level tag     the number of the group with this count tag among those of the level, if there is one
--   layout_of words              the layout: a group is its number, and its entry level has the number behind it
--   input_of words fields message   all that a walk reads; "depth is 0 at the top and at most 32"
--   top_members words            the level around a top group
--   GroupRead words group ..     a group as it is read from the words: its count tag, its delimiter, the members of its entry level, the count tags of
--                               the groups nested in it and the number of the first of these
use Rattle.std.specs.Prelude.{◌≡◌, ℕ, ◌+◌, Bool, List, Option, Some, None}
use Rattle.ascending.specs.Search.{rank_in}
use Rattle.layouts.specs.Limits.{gate_limits}
use Rattle.layouts.specs.LayoutRules.{◌∈ᵇ◌}
use Rattle.layouts.specs.LayoutWords.{level_members, level_count_tags, first_group, count_tag_at, delimiter_at}
use Rattle.field_table.specs.WalkInput.{Layout, Input}
use Rattle.field_table.specs.FieldTable.{fields_of}

abbrev pub among : List ℕ → ℕ → Bool
among members tag = tag ∈ᵇ members

abbrev pub number_found : ℕ → Option ℕ → Option ℕ
number_found first (Some place) = Some (first + place)
number_found first None = None

abbrev pub group_of : List ℕ → ℕ → ℕ → Option ℕ
group_of words level tag = number_found (first_group words level) (rank_in (level_count_tags words level) tag)

abbrev pub layout_of : List ℕ → Layout
layout_of words = record {
  Group = ℕ;
  count_tag = count_tag_at words;
  delimiter = delimiter_at words;
  is_member = λ group. among (level_members words (1 + group));
  nested_group = λ group. group_of words (1 + group);
}

abbrev pub input_of : List ℕ → List ℕ → List ℕ → Input
input_of words fields message = record { layout = layout_of words; fields = fields_of fields message; depth_limit = gate_limits.depth }

abbrev pub top_members : List ℕ → ℕ → Bool
top_members words = among (level_members words 0)

pub record GroupRead (words : List ℕ) (group count_tag delimiter : ℕ) (members tags : List ℕ) (first : ℕ) : Type 0 where
  pub count_tag_is : count_tag ≡ count_tag_at words group
  pub delimiter_is : delimiter ≡ delimiter_at words group
  pub members_are : members ≡ level_members words (1 + group)
  pub tags_are : tags ≡ level_count_tags words (1 + group)
  pub first_is : first ≡ first_group words (1 + group)
