-- The seven rules of a layout (document 01, 'The layout of a message type'): "For a group: 1 members strictly ascending; 2 delimiter a
-- member; 3 nested count tags strictly ascending; 4 each a member. For the top: 5 groups strictly ascending; 6 members strictly ascending;
-- 7 each group's count tag a member." Rules 1 to 4 are those of `GroupSpec::new` (group.rs), 5 to 7 those of
-- `GroupSet::with_level_tags`. Assumes nothing.
--
--   is_ascending tags           each tag is greater than the one before (`is_strictly_ascending` of the crate ascending)
--   tag ∈ᵇ tags                the tag is one of the tags (`is_in` of the crate ascending)
--   are_among members tags      each of the tags is one of the members
--   rule1 group .. rule7 top   the rules
--   meets_rules layout          the top meets rules 5 to 7 and every group of every level rules 1 to 4
--   BrokenAt layout rule tag   "the rule given is broken at the tag given": by a group of that count tag, or by the top, whose tag is 0
--   meets_limits limits layout  no more members and no more required tags in all than the limits allow
use Rattle.std.specs.Prelude.{ℕ, ◌≡◌, Bool, true, false, ◌&&◌, length}
use mathlib.Core.List.{List, Memᴰ}
use Rattle.ascii.specs.Notation.{◌≤ᵇ◌}
use Rattle.ascii.specs.Bytes.{every}
use Rattle.ascending.specs.Sort.{is_in}
use Rattle.ascending.specs.Search.{is_strictly_ascending}
use Rattle.layouts.specs.Limits.{Limits}
use Rattle.layouts.specs.Layout.{Level, Groups, Group, Layout, level_of_lem, no_groups, group_and, group_of_lem, members_of, count_tags_of, count_tag, delimiter, entry, all_groups, all_members, all_required}

abbrev pub is_ascending : List ℕ → Bool
is_ascending tags = is_strictly_ascending tags

infix 50 ◌∈ᵇ◌
abbrev pub ◌∈ᵇ◌ : ℕ → List ℕ → Bool
tag ∈ᵇ tags = is_in tag tags

abbrev pub are_among : List ℕ → List ℕ → Bool
are_among members tags = every (λ tag. tag ∈ᵇ members) tags

-- "1 members strictly ascending"
abbrev pub rule1 : Group → Bool
rule1 group = is_ascending (members_of (entry group))

-- "2 delimiter a member"
abbrev pub rule2 : Group → Bool
rule2 group = delimiter group ∈ᵇ members_of (entry group)

-- "3 nested count tags strictly ascending"
abbrev pub rule3 : Group → Bool
rule3 group = is_ascending (count_tags_of (entry group))

-- "4 each a member"
abbrev pub rule4 : Group → Bool
rule4 group = are_among (members_of (entry group)) (count_tags_of (entry group))

-- "5 groups strictly ascending"
abbrev pub rule5 : Layout → Bool
rule5 top = is_ascending (count_tags_of top)

-- "6 members strictly ascending"
abbrev pub rule6 : Layout → Bool
rule6 top = is_ascending (members_of top)

-- "7 each group's count tag a member"
abbrev pub rule7 : Layout → Bool
rule7 top = are_among (members_of top) (count_tags_of top)

abbrev pub meets_group_rules : Group → Bool
meets_group_rules group = rule1 group && rule2 group && rule3 group && rule4 group

abbrev pub meets_top_rules : Layout → Bool
meets_top_rules top = rule5 top && rule6 top && rule7 top

-- every group of a level, and every group in the entries of its groups, passes a test
unfoldable mutual
  pub every_group : (Group → Bool) → Level → Bool
  every_group test (level_of_lem members required groups) = every_among test groups

  pub every_among : (Group → Bool) → Groups → Bool
  every_among test no_groups = true
  every_among test (group_and first others) = every_with test first && every_among test others

  pub every_with : (Group → Bool) → Group → Bool
  every_with test (group_of_lem tag first needed inner) = test (group_of_lem tag first needed inner) && every_group test inner

unfoldable pub meets_rules : Layout → Bool
meets_rules layout = meets_top_rules layout && every_group meets_group_rules layout

pub data BrokenAt (layout : Layout) (rule tag : ℕ) : Type 0 where
  breaks_1 : rule ≡ 1 → (group : Group) → Memᴰ group (all_groups layout) → tag ≡ count_tag group → rule1 group ≡ false → BrokenAt layout rule tag
  breaks_2 : rule ≡ 2 → (group : Group) → Memᴰ group (all_groups layout) → tag ≡ count_tag group → rule2 group ≡ false → BrokenAt layout rule tag
  breaks_3 : rule ≡ 3 → (group : Group) → Memᴰ group (all_groups layout) → tag ≡ count_tag group → rule3 group ≡ false → BrokenAt layout rule tag
  breaks_4 : rule ≡ 4 → (group : Group) → Memᴰ group (all_groups layout) → tag ≡ count_tag group → rule4 group ≡ false → BrokenAt layout rule tag
  breaks_5 : rule ≡ 5 → tag ≡ 0 → rule5 layout ≡ false → BrokenAt layout rule tag
  breaks_6 : rule ≡ 6 → tag ≡ 0 → rule6 layout ≡ false → BrokenAt layout rule tag
  breaks_7 : rule ≡ 7 → tag ≡ 0 → rule7 layout ≡ false → BrokenAt layout rule tag

abbrev pub meets_limits : Limits → Layout → Bool
meets_limits limits layout = length (all_members layout) ≤ᵇ limits.members && length (all_required layout) ≤ᵇ limits.required
