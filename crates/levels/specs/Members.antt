-- A level of a layout and its members (document 01, 'The layout of a message type'): "A level's members are handed out as a part of the
-- layout's own words, not copied; a level is named by its count tags from the top, and 14 with an empty part is given if there is none, its
-- place the first count tag not found; 11 comes with an empty part too." The empty name is the top. Assumes nothing.
--
--   nested_level words number tag       the number of the entry level of the group with that count tag in the level of that number, if any
--   level_along words number path       where the count tags of the path lead from the level of that number
--   level_outcome limits words path     where they lead from the top of lent words; 11, place 0, where the words are no layout's
--   level_part limits words path        the members that are handed out, none where the path leads nowhere
--   group_named tag groups, level_below level path   the same on a layout: the group of that count tag, the level that the path leads to
--   members_below found                 its members, none where there is no such level
-- That the members handed out are those of the layout is `level_part-layout` (MembersLayout.antt).
use Rattle.std.specs.Prelude.{ℕ, ◌+◌, List, [], ◌∷◌, if◌then◌else◌, Option, Some, None, Result, Ok, Err}
use Rattle.ascii.specs.Notation.{◌≡ᵇ◌}
use Rattle.ascending.specs.Search.{rank_in}
use Rattle.refusals.specs.declared.refusal.Refusal.TheVariants.{RuleBroken, NoSuchGroup}
use Rattle.layouts.specs.Limits.{Limits}
use Rattle.layouts.specs.Layout.{Level, Group, members_of, groups_of, count_tag, entry}
use Rattle.layouts.specs.LayoutWords.{level_members, level_count_tags, first_group}
use Rattle.layouts.specs.LayoutCheck.{is_layout}
use Rattle.refusals.specs.declared.refusal.Refusal.{Refusal}

-- the entry level of group `number` is level `number + 1`
abbrev pub entry_from : ℕ → Option ℕ → Option ℕ
entry_from first (Some rank) = Some (first + rank + 1)
entry_from first None = None

unfoldable pub nested_level : List ℕ → ℕ → ℕ → Option ℕ
nested_level words number tag = entry_from (first_group words number) (rank_in (level_count_tags words number) tag)

unfoldable pub level_along : List ℕ → ℕ → List ℕ → Result ℕ Refusal
level_along words number [] = Ok number
level_along words number (tag ∷ path) = elim (nested_level words number tag) [ Some next ↦ level_along words next path | None ↦ Err (NoSuchGroup tag) ]

unfoldable pub level_outcome : Limits → List ℕ → List ℕ → Result ℕ Refusal
level_outcome limits words path = if is_layout limits words then level_along words 0 path else Err (RuleBroken 0 0)

abbrev pub members_reached : List ℕ → Result ℕ Refusal → List ℕ
members_reached words (Ok number) = level_members words number
members_reached words (Err refusal) = []

unfoldable pub level_part : Limits → List ℕ → List ℕ → List ℕ
level_part limits words path = members_reached words (level_outcome limits words path)

-- ---- on a layout

unfoldable pub group_named : ℕ → List Group → Option Group
group_named tag [] = None
group_named tag (first ∷ others) = if count_tag first ≡ᵇ tag then Some first else group_named tag others

unfoldable pub level_below : Level → List ℕ → Option Level
level_below level [] = Some level
level_below level (tag ∷ path) = elim (group_named tag (groups_of level)) [ Some group ↦ level_below (entry group) path | None ↦ None ]

abbrev pub members_below : Option Level → List ℕ
members_below (Some level) = members_of level
members_below None = []
