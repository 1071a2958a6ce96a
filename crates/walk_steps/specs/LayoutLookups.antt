-- The lookups of a walk are those of the layout tree (`Layout.antt` of layouts): in words that pass the check and begin with the
-- arrangement of a layout, a number names a group of that layout, and its count tag, its delimiter, its members and the groups
-- nested in it are that group's own. So no wrong lookup is shared by the grammar of a group and the code. Assumes nothing.
--
--   group_numbered layout found            the group of the layout with the number found, if one is found
--   ReadsTop words layout                 what is looked up at the top is the layout's
--   ReadsGroup words layout number group  what is looked up by the number is the group's
--   top-reads-layout, walk-reads-layout   that it is so
--   top-group-read                        a top group of the layout has a number, and what is looked up by it is the group's
use Rattle.std.specs.Prelude.{◌≡◌, refl, ℕ, ◌+◌, ◌≤◌, ◌<◌, true, List, ◌++◌, drop, slice_get, Option, Some, None}
use Rattle.std.proofs.Common.{sym, subst, ◌∙◌, arith}
use Rattle.std.proofs.Math.Path.{ap}
use Rattle.ascending.specs.Search.{rank_in}
use Rattle.layouts.specs.Limits.{gate_limits}
use Rattle.layouts.specs.Layout.{Level, Group, Layout, members_of, groups_of, count_tag, delimiter, entry, all_groups}
use Rattle.layouts.specs.LayoutRules.{◌∈ᵇ◌}
use Rattle.layouts.specs.LayoutWords.{arranged, group_count, level_count_tags, first_group, group_at, groups_from, layout_in}
use Rattle.layouts.specs.LayoutCheck.{is_layout}
use Rattle.layouts.specs.LayoutCheckFacts.{Passed, is_layout-passed}
use Rattle.layouts.specs.LayoutCheckSound.{all_groups-in, layout_in-begins}
use Rattle.layout_check.specs.LayoutCheckUnique.{arranged-unique}
use Rattle.levels.specs.Members.{group_named}
use Rattle.levels.specs.MembersLayout.{level_numbered, group-numbered, entry-numbered, top-numbered, no_group_numbered, some-group_numbered}
use Rattle.walk_steps.specs.WalkWords.{number_found, group_of, layout_of, top_members}
use Rattle.walk_steps.specs.WalkWordsLaws.{group_of_number}

abbrev pub group_numbered : Layout → Option ℕ → Option Group
group_numbered layout None = None
group_numbered layout (Some number) = slice_get (all_groups layout) number

pub record ReadsTop (words : List ℕ) (layout : Layout) : Type 0 where
  pub members : (tag : ℕ) → top_members words tag ≡ tag ∈ᵇ members_of layout
  pub groups : (tag : ℕ) → group_numbered layout (group_of words 0 tag) ≡ group_named tag (groups_of layout)

pub record ReadsGroup (words : List ℕ) (layout : Layout) (number : ℕ) (group : Group) : Type 0 where
  pub numbered : group_numbered layout (Some number) ≡ Some group
  pub count_tag_lem : (layout_of words).count_tag number ≡ count_tag group
  pub delimits : (layout_of words).delimiter number ≡ delimiter group
  pub members : (tag : ℕ) → (layout_of words).is_member number tag ≡ tag ∈ᵇ members_of (entry group)
  pub nested : (tag : ℕ) → group_numbered layout ((layout_of words).nested_group number tag) ≡ group_named tag (groups_of (entry group))

-- ---- in the layout that the words tell of

module _ (words : List ℕ) (passed : Passed gate_limits words) where
  abbrev there : ℕ → Group
  there number = group_at words number (drop (number + 1) (groups_from words 0 (group_count words)))

  numbered-in : (number : ℕ) → number < group_count words → group_numbered (layout_in words) (Some number) ≡ Some (there number)
  numbered-in number inside =
      ap (λ (groups : List Group). slice_get groups number) (all_groups-in gate_limits words passed) ∙ group-numbered gate_limits words passed number inside

  nested-in : (level : ℕ) → level ≤ group_count words → (tag : ℕ)
      → group_numbered (layout_in words) (group_of words level tag) ≡ group_named tag (groups_of (level_numbered words level))
  nested-in level within tag = go (rank_in (level_count_tags words level) tag) refl
    where
      go : (found : Option ℕ) → rank_in (level_count_tags words level) tag ≡ found
          → group_numbered (layout_in words) (number_found (first_group words level) found) ≡ group_named tag (groups_of (level_numbered words level))
      go None found = sym (no_group_numbered gate_limits words passed level within tag found)
      go (Some rank) found =
          let inside : first_group words level + rank < group_count words =
          group_of_number words passed level tag (first_group words level + rank) within (ap (number_found (first_group words level)) found) in
          numbered-in (first_group words level + rank) inside ∙ sym (some-group_numbered gate_limits words passed level within tag rank found (omega arith))

  top_read : ReadsTop words (layout_in words)
  unfolding layout_in
  top_read = record {
    members = λ tag. refl;
    groups = λ tag.
        nested-in 0 (omega arith) tag ∙ ap (λ (level : Level). group_named tag (groups_of level)) (sym (top-numbered gate_limits words passed));
  }

  group-read : (number : ℕ) → number < group_count words → ReadsGroup words (layout_in words) number (there number)
  group-read number inside = record {
    numbered = numbered-in number inside;
    count_tag_lem = refl;
    delimits = refl;
    members = λ tag. refl;
    nested = λ tag.
        let next : 1 + number ≡ number + 1 = omega arith in
        nested-in (1 + number) (omega arith) tag
        ∙ ap (λ (level : ℕ). group_named tag (groups_of (level_numbered words level))) next
        ∙ ap (λ (level : Level). group_named tag (groups_of level)) (sym (entry-numbered gate_limits words passed number inside));
  }

-- ---- in the layout with whose arrangement the words begin

module _ (words : List ℕ) (layout : Layout) (behind : List ℕ) (begins : arranged layout ++ behind ≡ words) (right : is_layout gate_limits words ≡ true) where
  passed : Passed gate_limits words
  passed = is_layout-passed gate_limits words right

  same : layout_in words ≡ layout
  same =
      let told = layout_in-begins gate_limits words right in
      arranged-unique (layout_in words) layout told.0 behind (told.1 ∙ sym begins)

  pub top-reads_layout : ReadsTop words layout
  top-reads_layout = subst (λ (tree : Layout). ReadsTop words tree) same (top_read words passed)

  pub walk_reads_layout : (number : ℕ) → number < group_count words → (group : Group) × ReadsGroup words layout number group
  walk_reads_layout number inside =
      (there words passed number, subst (λ (tree : Layout). ReadsGroup words tree number (there words passed number)) same (group-read words passed number inside))

  -- a top group of the layout has a number, by which the walk reads what the layout has
  pub top-group_read : (tag : ℕ) (group : Group) → group_named tag (groups_of layout) ≡ Some group
      → (number : ℕ) × ((group_of words 0 tag ≡ Some number) × ReadsGroup words layout number group)
  top-group_read tag group named = go (group_of words 0 tag) refl (top-reads_layout.groups tag ∙ named)
    where
      go : (found : Option ℕ) → group_of words 0 tag ≡ found → group_numbered layout found ≡ Some group
          → (number : ℕ) × ((group_of words 0 tag ≡ Some number) × ReadsGroup words layout number group)
      go None found there-is = let zero_one : ◌≡◌ {A = ℕ} 0 1 = cc in absurd (omega arith)
      go (Some number) found there-is =
          let read = walk_reads_layout number (group_of_number words passed 0 tag number (omega arith) found) in
          let both : Some read.0 ≡ Some group = sym read.1.numbered ∙ there-is in
          let alike : read.0 ≡ group = cc in
          (number, (found, subst (λ (tree : Group). ReadsGroup words layout number tree) alike read.1))
