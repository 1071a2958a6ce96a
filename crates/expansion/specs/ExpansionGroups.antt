-- The groups of the layout that an expansion gives: at most half as many as members were added, since each group adds its count tag to the level
-- around it and its delimiter to its entry level. So there are at most 4,096 where 8,192 members may be added. Assumes nothing.
--
--   levels_in level                the level and all levels below it, counted
--   GroupsAdded others work       each group of the level in work and below it was added with two members, and `others` members more
use Rattle.std.specs.Prelude.{◌≡◌, refl, ℕ, suc, ◌+◌, ◌*◌, ◌≤◌, Bool, List, [], ◌∷◌}
use Rattle.std.proofs.Common.{ap, arith}
use Rattle.refusals.specs.declared.refusal.Refusal.TheVariants.{MembersOver}
use Rattle.layouts.specs.Limits.{Limits}
use Rattle.layouts.specs.Layout.{Level, Groups, Group, Layout, level_of_lem, no_groups, group_and, group_of_lem, groups_below, groups_among, groups_with}
use Rattle.expansion.specs.Dictionary.{Body, GroupDef, Dictionary, count_tag_of, delimiter_of}
use Rattle.expansion.specs.Expansion.{Work, OpenLevel, empty_level, add_member, noted, push_member, open_entry, close_group, retained, finish, finish_entry, build, Expanded, expand_of}
use Rattle.expansion.specs.ExpansionInduction.{Steps, keeps_build}
use Rattle.expansion.specs.ExpansionLaws.{built, keeps_add_member, keeps_add_required, build-added}
use Rattle.expansion.specs.ExpansionLimits.{size_below, size_among, size_with, size_listed, size_listed-append, size_below-listed, finished_groups, one_group, no_group, group-size}

abbrev pub one : Level → ℕ
one level = 1

abbrev levels_in : Level → ℕ
levels_in level = size_below one level

-- ---- the groups below a level are the levels below it

mutual
  unfolding groups_below size_below

  pub levels_groups : (level : Level) → size_below one level ≡ suc (groups_below level)
  levels_groups (level_of_lem members required groups) = omega (arith, levels_among groups)

  levels_among : (groups : Groups) → size_among one groups ≡ groups_among groups
  levels_among no_groups = refl
  levels_among (group_and first others) = omega (arith, levels_with first, levels_among others)

  pub levels_with : (group : Group) → size_with one group ≡ groups_with group
  levels_with (group_of_lem tag first needed inner) = levels_groups inner

-- ---- finishing adds no level

finish-levels : (level : OpenLevel) → levels_in (finish level) ≤ 1 + size_listed one level.groups
unfolding finish
finish-levels level = omega (arith, size_below-listed one (finish level), finished_groups one level.groups)

entry-levels : (delimiter : ℕ) (level : OpenLevel) → levels_in (finish_entry delimiter level) ≤ 1 + size_listed one level.groups
unfolding finish_entry
entry-levels delimiter level = finish-levels (record { members = level.members; required = retained delimiter [] level.required; groups = level.groups })

-- ---- two members for each group

abbrev GroupsAdded : ℕ → Work → Type 0
GroupsAdded others work = others + 2 * size_listed one work.level.groups ≤ work.builder.members

module _ (limits : Limits) where
  added_opens : (others : ℕ) (group : GroupDef) (spent : Work)
      → GroupsAdded others spent
      → GroupsAdded (others + 2 * size_listed one spent.level.groups + 2) (open_entry limits (delimiter_of group) (add_member limits (count_tag_of group) spent))
  added_opens others group spent kept =
      keeps_add_member limits (λ outer. GroupsAdded inner (open_entry limits (delimiter_of group) outer)) (count_tag_of group) spent
      (λ within. inside (push_member (count_tag_of group) spent) refl)
      (inside (noted MembersOver (push_member (count_tag_of group) spent)) refl)
    where
      inner : ℕ
      inner = others + 2 * size_listed one spent.level.groups + 2

      inside : (outer : Work) → outer.builder.members ≡ suc spent.builder.members → GroupsAdded inner (open_entry limits (delimiter_of group) outer)
      inside outer members =
          keeps_add_member limits (GroupsAdded inner) (delimiter_of group) (record { builder = outer.builder; level = empty_level })
          (λ within. omega (arith, members, kept, no_group one))
          (omega (arith, members, kept, no_group one))

  added_closes : (others : ℕ) (group : GroupDef) (required : Bool) (around spent filled : Work)
      → around.level.groups ≡ spent.level.groups
      → GroupsAdded (others + 2 * size_listed one spent.level.groups + 2) filled
      → GroupsAdded others (close_group group required around filled)
  added_closes others group required around spent filled same inside =
      let entry = finish_entry (delimiter_of group) filled.level in
      let closed = group_of_lem (count_tag_of group) (delimiter_of group) required entry in
      omega (
        arith,
        inside,
        size_listed-append one around.level.groups (closed ∷ []),
        ap (size_listed one) same,
        one_group one closed,
        group-size one (count_tag_of group) (delimiter_of group) required entry,
        entry-levels (delimiter_of group) filled.level,
      )

  added_steps : Steps limits ℕ GroupsAdded
  added_steps = record {
    member = λ others tag work kept. keeps_add_member limits (GroupsAdded others) tag work (λ within. omega (arith, kept)) (omega (arith, kept));
    needed = λ others tag work kept. keeps_add_required limits (GroupsAdded others) tag work (λ within. kept) kept;
    error = λ others refusal work kept. kept;
    node = λ others work room kept. kept;
    inner = λ others group spent kept. others + 2 * size_listed one spent.level.groups + 2;
    opens = λ others group spent kept. added_opens others group spent kept;
    closes = λ others group required spent kept filled still.
        keeps_add_member limits (λ around. GroupsAdded others (close_group group required around filled)) (count_tag_of group) spent
        (λ within. added_closes others group required (push_member (count_tag_of group) spent) spent filled refl still)
        (added_closes others group required (noted MembersOver (push_member (count_tag_of group) spent)) spent filled refl still);
  }

  build-groups : (transport dictionary : Dictionary) (message : Body) → GroupsAdded 0 (build limits transport dictionary message)
  build-groups transport dictionary message = keeps_build limits ℕ GroupsAdded added_steps transport dictionary message 0 (omega (arith, no_group one))

  pub expanded-groups : (transport dictionary : Dictionary) (type : List ℕ) (layout : Layout) (nodes : ℕ)
      → expand_of limits transport dictionary type ≡ Expanded layout nodes
      → 2 * groups_below layout ≤ limits.members
  expanded-groups transport dictionary type layout nodes given =
      let from = built limits transport dictionary layout nodes type given in
      let work = build limits transport dictionary from.message in
      omega (
        arith,
        ap groups_below from.same_layout,
        levels_groups (finish work.level),
        finish-levels work.level,
        build-groups transport dictionary from.message,
        (build-added limits transport dictionary from.message from.no_error).0,
      )
