-- The layout that an expansion gives is within the limits: all its levels together have no more members and no more required tags than
-- were added. Assumes nothing.
--
--   sum_of size levels       the sizes of the levels, added up
--   size_below size level    the sizes of the level and of all below it, added up
--   Accounted others work   what the level in work and the levels below it have, with `others` more elsewhere, was added
use Rattle.std.specs.Prelude.{◌≡◌, Bool, true, false, cond, ◌||◌, eqb, leb, length}
use Rattle.std.proofs.Math.Path.{refl, sym, ap}
use Rattle.std.proofs.Common.{◌∙◌, length-append, le-leb}
use Prim.Native.Nat.{ℕ, zero, suc, ◌+◌, ◌≤◌}
use mathlib.Core.List.{List, [], ◌∷◌, ◌++◌, map}
use native.Mathlib.Omega.{arith}
use Rattle.ascii.specs.NotationLaws.{and_both}
use Rattle.refusals.specs.declared.refusal.Refusal.TheVariants.{MembersOver}
use Rattle.ascending.specs.Sort.{sorted, is_in}
use Rattle.ascending.specs.SortLaws.{sorted-length}
use Rattle.ascending.specs.DedupLaws.{deduped-length}
use Rattle.layouts.specs.Limits.{Limits}
use Rattle.layouts.specs.Layout.{Level, Groups, Group, Layout, level_of_lem, no_groups, group_and, group_of_lem, listed, grouped, groups_of, members_of, required_of, count_tag, entry, groups_below, level_order, all_groups, all_levels, all_members, all_required, joined}
use Rattle.layouts.specs.LayoutLaws.{listed-grouped, group_total, group_total-first, groups_below-total}
use Rattle.layouts.specs.LayoutRules.{meets_limits}
use Rattle.expansion.specs.Dictionary.{Body, GroupDef, Dictionary, count_tag_of, delimiter_of}
use Rattle.expansion.specs.Expansion.{Work, OpenLevel, empty_level, add_member, noted, push_member, push_required, open_entry, close_group, inserted_group, sorted_groups, firsts_after, firsts_of, finish, retained, finish_entry, build, Expanded, expand_of}
use Rattle.expansion.specs.ExpansionInduction.{Steps, keeps_build}
use Rattle.expansion.specs.ExpansionLaws.{built, keeps_add_member, keeps_add_required, build-added}

-- ---- sizes, added up

unfoldable pub sum_of : (Level → ℕ) → List Level → ℕ
sum_of size [] = 0
sum_of size (level ∷ levels) = size level + sum_of size levels

unfoldable mutual
  pub size_below : (Level → ℕ) → Level → ℕ
  size_below size (level_of_lem members required groups) = size (level_of_lem members required groups) + size_among size groups

  pub size_among : (Level → ℕ) → Groups → ℕ
  size_among size no_groups = 0
  size_among size (group_and first others) = size_with size first + size_among size others

  pub size_with : (Level → ℕ) → Group → ℕ
  size_with size (group_of_lem tag first needed inner) = size_below size inner

unfoldable pub size_listed : (Level → ℕ) → List Group → ℕ
size_listed size [] = 0
size_listed size (group ∷ rest) = size_with size group + size_listed size rest

module _ (size : Level → ℕ) where
  pub size_listed-append : (these those : List Group) → size_listed size (these ++ those) ≡ size_listed size these + size_listed size those
  unfolding size_listed
  size_listed-append [] those = omega arith
  size_listed-append (first ∷ rest) those = omega (arith, size_listed-append rest those)

  size_among-listed : (groups : Groups) → size_among size groups ≡ size_listed size (listed groups)
  unfolding size_below size_among size_with size_listed
  size_among-listed no_groups = refl
  size_among-listed (group_and first others) = ap (λ (rest : ℕ). size_with size first + rest) (size_among-listed others)

  pub size_below-listed : (level : Level) → size_below size level ≡ size level + size_listed size (groups_of level)
  unfolding size_below size_among size_with
  size_below-listed (level_of_lem members required groups) = ap (λ (rest : ℕ). size (level_of_lem members required groups) + rest) (size_among-listed groups)

  size_with-listed : (group : Group) → size_with size group ≡ size (entry group) + size_listed size (groups_of (entry group))
  unfolding size_below size_among size_with
  size_with-listed (group_of_lem tag first needed inner) = size_below-listed inner

  none-waits : (waiting : List Group) → group_total waiting ≡ 0 → size_listed size waiting ≡ 0
  unfolding size_listed
  none-waits [] none = refl
  none-waits (first ∷ waiting) none = absurd (omega (arith, group_total-first first waiting))

  nothing-waits : (count : ℕ) → group_total [] ≡ suc count → ⊥
  unfolding group_total
  nothing-waits count some = omega arith

  level_order-sum : (count : ℕ) (waiting : List Group) → group_total waiting ≡ count → sum_of size (map entry (level_order count waiting)) ≡ size_listed size waiting
  unfolding level_order sum_of size_listed
  level_order-sum zero waiting all = sym (none-waits waiting all)
  level_order-sum (suc count) [] all = absurd (nothing-waits count all)
  level_order-sum (suc count) (first ∷ waiting) all =
      let next : group_total (waiting ++ groups_of (entry first)) ≡ count = omega (arith, group_total-first first waiting) in
      omega
      (arith, level_order-sum count (waiting ++ groups_of (entry first)) next, size_listed-append waiting (groups_of (entry first)), size_with-listed first)

  pub all_levels-sum : (layout : Layout) → sum_of size (all_levels layout) ≡ size_below size layout
  unfolding sum_of all_groups
  all_levels-sum layout =
      ap (λ (rest : ℕ). size layout + rest) (level_order-sum (groups_below layout) (groups_of layout) (sym (groups_below-total layout)))
      ∙ sym (size_below-listed layout)

joined-sum : (part : Level → List ℕ) (levels : List Level) → length (joined (map part levels)) ≡ sum_of (λ level. length (part level)) levels
unfolding joined sum_of
joined-sum part [] = refl
joined-sum part (level ∷ levels) = length-append (part level) (joined (map part levels)) ∙ ap (λ (rest : ℕ). length (part level) + rest) (joined-sum part levels)

-- ---- finishing drops and adds nothing

module _ (size : Level → ℕ) where
  listed_by : (test : Bool) (these those : List Group) (most : ℕ)
      → size_listed size these ≤ most
      → size_listed size those ≤ most
      → size_listed size (cond test these those) ≤ most
  listed_by true these those most first second = first
  listed_by false these those most first second = second

  inserted-size : (group : Group) (groups : List Group) → size_listed size (inserted_group group groups) ≤ size_with size group + size_listed size groups
  unfolding inserted_group size_listed
  inserted-size group [] = omega arith
  inserted-size group (next ∷ rest) =
      listed_by (leb (count_tag group) (count_tag next)) (group ∷ next ∷ rest) (next ∷ inserted_group group rest)
      (size_with size group + (size_with size next + size_listed size rest))
      (omega arith)
      (omega (arith, inserted-size group rest))

  sorted-size : (groups : List Group) → size_listed size (sorted_groups groups) ≤ size_listed size groups
  unfolding sorted_groups size_listed
  sorted-size [] = omega arith
  sorted-size (group ∷ rest) = omega (arith, inserted-size group (sorted_groups rest), sorted-size rest)

  firsts_after-size : (last : ℕ) (groups : List Group) → size_listed size (firsts_after last groups) ≤ size_listed size groups
  unfolding firsts_after size_listed
  firsts_after-size last [] = omega arith
  firsts_after-size last (group ∷ rest) =
      listed_by (eqb (count_tag group) last) (firsts_after last rest) (group ∷ firsts_after (count_tag group) rest)
      (size_with size group + size_listed size rest)
      (omega (arith, firsts_after-size last rest))
      (omega (arith, firsts_after-size (count_tag group) rest))

  firsts-size : (groups : List Group) → size_listed size (firsts_of groups) ≤ size_listed size groups
  unfolding firsts_of size_listed
  firsts-size [] = omega arith
  firsts-size (group ∷ rest) = omega (arith, firsts_after-size (count_tag group) rest)

  pub finished_groups : (groups : List Group) → size_listed size (listed (grouped (firsts_of (sorted_groups groups)))) ≤ size_listed size groups
  finished_groups groups =
      omega (arith, ap (size_listed size) (listed-grouped (firsts_of (sorted_groups groups))), firsts-size (sorted_groups groups), sorted-size groups)

retained-by : (test : Bool) (tag : ℕ) (these those : List ℕ) (most : ℕ)
    → length these ≤ most
    → length those ≤ most
    → length (cond test these (tag ∷ those)) ≤ suc most
retained-by true tag these those most first second = omega arith
retained-by false tag these those most first second = omega arith

pub retained-length : (delimiter : ℕ) (seen required : List ℕ) → length (retained delimiter seen required) ≤ length required
unfolding retained
retained-length delimiter seen [] = omega arith
retained-length delimiter seen (tag ∷ rest) =
    retained-by (eqb tag delimiter || is_in tag seen) tag (retained delimiter seen rest) (retained delimiter (tag ∷ seen) rest) (length rest)
    (retained-length delimiter seen rest)
    (retained-length delimiter (tag ∷ seen) rest)

abbrev member_count : Level → ℕ
member_count level = length (members_of level)

abbrev required_count : Level → ℕ
required_count level = length (required_of level)

pub finish-members : (level : OpenLevel) → size_below member_count (finish level) ≤ length level.members + size_listed member_count level.groups
unfolding finish
finish-members level =
    omega (
      arith,
      size_below-listed member_count (finish level),
      deduped-length (sorted level.members),
      sorted-length level.members,
      finished_groups member_count level.groups,
    )

pub finish-required : (level : OpenLevel) → size_below required_count (finish level) ≤ length level.required + size_listed required_count level.groups
unfolding finish
finish-required level = omega (arith, size_below-listed required_count (finish level), finished_groups required_count level.groups)

entry-members : (delimiter : ℕ) (level : OpenLevel) → size_below member_count (finish_entry delimiter level) ≤ length level.members + size_listed member_count level.groups
unfolding finish_entry
entry-members delimiter level = finish-members (record { members = level.members; required = retained delimiter [] level.required; groups = level.groups })

entry-required : (delimiter : ℕ) (level : OpenLevel) → size_below required_count (finish_entry delimiter level) ≤ length level.required + size_listed required_count level.groups
unfolding finish_entry
entry-required delimiter level =
    omega (
      arith,
      finish-required (record { members = level.members; required = retained delimiter [] level.required; groups = level.groups }),
      retained-length delimiter [] level.required,
    )

-- ---- what a level has was added

-- the members and the required entries of levels elsewhere
pub record Elsewhere : Type 0 where
  pub members : ℕ
  pub required : ℕ

pub record Accounted (elsewhere : Elsewhere) (work : Work) : Type 0 where
  pub members : elsewhere.members + (length work.level.members + size_listed member_count work.level.groups) ≤ work.builder.members
  pub required : elsewhere.required + (length work.level.required + size_listed required_count work.level.groups) ≤ work.builder.required

push_accounted : (elsewhere : Elsewhere) (tag : ℕ) (work : Work) → Accounted elsewhere work → Accounted elsewhere (push_member tag work)
push_accounted elsewhere tag work kept = record {
  members = omega (arith, kept.members, length-append work.level.members (tag ∷ []));
  required = kept.required;
}

need_accounted : (elsewhere : Elsewhere) (tag : ℕ) (work : Work) → Accounted elsewhere work → Accounted elsewhere (push_required tag work)
need_accounted elsewhere tag work kept = record {
  members = kept.members;
  required = omega (arith, kept.required, length-append work.level.required (tag ∷ []));
}

-- with an error noted
still_accounted : (elsewhere : Elsewhere) (work after : Work)
    → after.level ≡ work.level
    → after.builder.members ≡ work.builder.members
    → after.builder.required ≡ work.builder.required
    → Accounted elsewhere work
    → Accounted elsewhere after
still_accounted elsewhere work after level members required kept = record {
  members =
      rw (members, ap (λ (same : OpenLevel). length same.members) level, ap (λ (same : OpenLevel). size_listed member_count same.groups) level) kept.members;
  required =
      rw (required, ap (λ (same : OpenLevel). length same.required) level, ap (λ (same : OpenLevel). size_listed required_count same.groups) level) kept.required;
}

-- the levels elsewhere, seen from the entry of a group
abbrev around : Elsewhere → Work → Elsewhere
around elsewhere spent = record {
  members = elsewhere.members + (suc (length spent.level.members) + size_listed member_count spent.level.groups);
  required = elsewhere.required + (length spent.level.required + size_listed required_count spent.level.groups);
}

pub one_group : (size : Level → ℕ) (group : Group) → size_listed size (group ∷ []) ≡ size_with size group
unfolding size_listed
one_group size group = omega arith

pub no_group : (size : Level → ℕ) → size_listed size [] ≡ 0
unfolding size_listed
no_group size = refl

pub group-size : (size : Level → ℕ) (tag first : ℕ) (needed : Bool) (inner : Level) → size_with size (group_of_lem tag first needed inner) ≡ size_below size inner
unfolding size_below size_among size_with
group-size size tag first needed inner = refl

entry-accounted : (elsewhere : Elsewhere) (count_tag delimiter : ℕ) (spent : Work)
    → Accounted elsewhere spent
    → Accounted (around elsewhere spent) (push_member delimiter (record { builder = (push_member count_tag spent).builder; level = empty_level }))
entry-accounted elsewhere count_tag delimiter spent kept = record {
  members = omega (arith, kept.members, no_group member_count);
  required = omega (arith, kept.required, no_group required_count);
}

module _ (elsewhere : Elsewhere) (group : GroupDef) (required : Bool) (spent filled : Work) where
  close_accounted : Accounted (around elsewhere spent) filled → Accounted elsewhere (close_group group required (push_member (count_tag_of group) spent) filled)
  close_accounted inside =
      let closed = group_of_lem (count_tag_of group) (delimiter_of group) required (finish_entry (delimiter_of group) filled.level) in
      record {
        members =
            omega (
              arith,
              inside.members,
              length-append spent.level.members (count_tag_of group ∷ []),
              size_listed-append member_count spent.level.groups (closed ∷ []),
              one_group member_count closed,
              group-size member_count (count_tag_of group) (delimiter_of group) required (finish_entry (delimiter_of group) filled.level),
              entry-members (delimiter_of group) filled.level,
            );
        required =
            omega (
              arith,
              inside.required,
              size_listed-append required_count spent.level.groups (closed ∷ []),
              one_group required_count closed,
              group-size required_count (count_tag_of group) (delimiter_of group) required (finish_entry (delimiter_of group) filled.level),
              entry-required (delimiter_of group) filled.level,
            );
      }

module _ (limits : Limits) where
  opens-accounted : (elsewhere : Elsewhere) (group : GroupDef) (spent : Work)
      → Accounted elsewhere spent
      → Accounted (around elsewhere spent) (open_entry limits (delimiter_of group) (add_member limits (count_tag_of group) spent))
  opens-accounted elsewhere group spent kept =
      keeps_add_member limits (λ outer. Accounted (around elsewhere spent) (open_entry limits (delimiter_of group) outer)) (count_tag_of group) spent
      (λ within. inside (push_member (count_tag_of group) spent) refl refl)
      (inside (noted MembersOver (push_member (count_tag_of group) spent)) refl refl)
    where
      inside : (outer : Work)
          → outer.builder.members ≡ suc spent.builder.members
          → outer.builder.required ≡ spent.builder.required
          → Accounted (around elsewhere spent) (open_entry limits (delimiter_of group) outer)
      inside outer members required =
          keeps_add_member limits (Accounted (around elsewhere spent)) (delimiter_of group) (record { builder = outer.builder; level = empty_level })
          (λ within. still_accounted (around elsewhere spent) _ _ refl (ap suc members) required (entry-accounted elsewhere (count_tag_of group) (delimiter_of group) spent kept))
          (still_accounted (around elsewhere spent) _ _ refl (ap suc members) required (entry-accounted elsewhere (count_tag_of group) (delimiter_of group) spent kept))

  limits_steps : Steps limits Elsewhere Accounted
  limits_steps = record {
    member = λ elsewhere tag work kept.
        keeps_add_member limits (Accounted elsewhere) tag work
        (λ within. push_accounted elsewhere tag work kept)
        (still_accounted elsewhere (push_member tag work) _ refl refl refl (push_accounted elsewhere tag work kept));
    needed = λ elsewhere tag work kept.
        keeps_add_required limits (Accounted elsewhere) tag work
        (λ within. need_accounted elsewhere tag work kept)
        (still_accounted elsewhere (push_required tag work) _ refl refl refl (need_accounted elsewhere tag work kept));
    error = λ elsewhere refusal work kept. still_accounted elsewhere work _ refl refl refl kept;
    node = λ elsewhere work room kept. still_accounted elsewhere work _ refl refl refl kept;
    inner = λ elsewhere group spent kept. around elsewhere spent;
    opens = λ elsewhere group spent kept. opens-accounted elsewhere group spent kept;
    closes = λ elsewhere group required spent kept filled still.
        keeps_add_member limits (λ outer. Accounted elsewhere (close_group group required outer filled)) (count_tag_of group) spent
        (λ within. close_accounted elsewhere group required spent filled still)
        (close_accounted elsewhere group required spent filled still);
  }

  pub build-accounted : (transport dictionary : Dictionary) (message : Body) → Accounted (record { members = 0; required = 0 }) (build limits transport dictionary message)
  build-accounted transport dictionary message =
      keeps_build limits Elsewhere Accounted limits_steps transport dictionary message (record { members = 0; required = 0 })
      (record { members = omega (arith, no_group member_count); required = omega (arith, no_group required_count) })

  finished_limits : (transport dictionary : Dictionary) (message : Body)
      → (build limits transport dictionary message).builder.errors ≡ []
      → meets_limits limits (finish (build limits transport dictionary message).level) ≡ true
  finished_limits transport dictionary message none =
      let work = build limits transport dictionary message in
      let layout = finish work.level in
      let added = build-added limits transport dictionary message none in
      let members : length (all_members layout) ≤ limits.members =
      omega (
        arith,
        joined-sum members_of (all_levels layout),
        all_levels-sum member_count layout,
        finish-members work.level,
        (build-accounted transport dictionary message).members,
        added.0,
      ) in
      let required : length (all_required layout) ≤ limits.required =
      omega (
        arith,
        joined-sum required_of (all_levels layout),
        all_levels-sum required_count layout,
        finish-required work.level,
        (build-accounted transport dictionary message).required,
        added.1,
      ) in
      and_both _ _ (le-leb (length (all_members layout)) limits.members members) (le-leb (length (all_required layout)) limits.required required)

  pub expanded-limits : (transport dictionary : Dictionary) (type : List ℕ) (layout : Layout) (nodes : ℕ)
      → expand_of limits transport dictionary type ≡ Expanded layout nodes
      → meets_limits limits layout ≡ true
  expanded-limits transport dictionary type layout nodes given =
      let from = built limits transport dictionary layout nodes type given in
      rw from.same_layout (finished_limits transport dictionary from.message from.no_error)
