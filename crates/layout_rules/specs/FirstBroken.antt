-- The first broken rule of a layout, of the seven of LayoutRules.antt: groups in the order of their `end` lines, so that a group stands
-- behind the groups nested in it, the top last, and of each the lowest rule. "A refusal gives some broken rule with its group's count tag
-- (0 for the top)" (document 01, 'The layout of a message type'); change request C-18 fixes which. Assumes nothing.
--
--   broken_at rule tag          the rule is broken at the tag
--   or_else broken later        the first of two
--   own_broken group            the lowest rule that the group itself breaks
--   top_broken top              the lowest rule that the top breaks
--   first_among groups          the first broken rule of these groups and of those nested in them
--   first_broken layout         the first broken rule
use Rattle.std.specs.Prelude.{ℕ, not, if◌then◌else◌, Option, Some, None}
use Rattle.layouts.specs.Layout.{Level, Groups, Group, Layout, level_of_lem, no_groups, group_and, group_of_lem, count_tag}
use Rattle.layouts.specs.LayoutRules.{rule1, rule2, rule3, rule4, rule5, rule6, rule7}

abbrev pub broken_at : ℕ → ℕ → Option (ℕ × ℕ)
broken_at rule tag = Some (rule, tag)

abbrev pub or_else : Option (ℕ × ℕ) → Option (ℕ × ℕ) → Option (ℕ × ℕ)
or_else (Some (rule, tag)) later = Some (rule, tag)
or_else None later = later

unfoldable pub own_broken : Group → Option (ℕ × ℕ)
own_broken group =
    if not (rule1 group) then broken_at 1 (count_tag group)
    else if not (rule2 group) then broken_at 2 (count_tag group)
    else if not (rule3 group) then broken_at 3 (count_tag group)
    else if not (rule4 group) then broken_at 4 (count_tag group)
    else None

unfoldable pub top_broken : Layout → Option (ℕ × ℕ)
top_broken top =
    if not (rule5 top) then broken_at 5 0
    else if not (rule6 top) then broken_at 6 0
    else if not (rule7 top) then broken_at 7 0
    else None

unfoldable mutual
  pub first_below : Level → Option (ℕ × ℕ)
  first_below (level_of_lem members required groups) = first_among groups

  pub first_among : Groups → Option (ℕ × ℕ)
  first_among no_groups = None
  first_among (group_and first others) = or_else (first_with first) (first_among others)

  pub first_with : Group → Option (ℕ × ℕ)
  first_with (group_of_lem count delimiter flag inner) = or_else (first_below inner) (own_broken (group_of_lem count delimiter flag inner))

unfoldable pub first_broken : Layout → Option (ℕ × ℕ)
first_broken layout = or_else (first_below layout) (top_broken layout)
