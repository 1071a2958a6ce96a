-- Gathering the levels of a trace (ArrangeTrace.antt) in the order of `all_levels`: each level is read, put in order and stored, and the groups
-- that stand in it wait behind those that wait already. Assumes nothing.
--
--   groups_told trace starts, levels_told trace starts   the groups that begin there, and their entry levels
--   GatherRoom                     the working memory has room for all levels
--   GatheredSoFar                  the levels of `done` are gathered, those of `waiting` are found: their rows and members are in memory
--   LevelKept                      what is stored of one level behind what was stored before
--   GatheredIn                     all levels are gathered: the slices hold the parts of the layout
--   layout_told trace               the layout that the trace tells of, level_count trace how many levels it has
use Rattle.std.specs.Prelude.{◌≡◌, ℕ, suc, ◌+◌, ◌*◌, ◌-◌, ◌≤◌, ◌<◌, List, [], ◌∷◌, ◌++◌, map, length, take}
use Rattle.layouts.specs.Layout.{Level, Group, Layout, members_of, required_of, count_tags_of, delimiter, entry, level_order, joined}
use Rattle.layouts.specs.LayoutLaws.{group_total}
use Rattle.layouts.specs.GatheredLayout.{column, ends_from, Gathered}
use Rattle.arrange.specs.declared.arrange.Gathering.{Gathering}
use Rattle.expansion.specs.Expansion.{finish}
use Rattle.arrange_level.specs.ArrangeTrace.{Start, level_at, group_at, top_start}
use Rattle.arrange_level.specs.ArrangeGroups.{count_tags}
use Rattle.arrange_level.specs.ArrangeRows.{flag_of}
use Rattle.arrange_level.specs.ArrangeWeightLaws.{counted, weight_all, counts_member, counts_required, counts_group}

abbrev pub groups_told : List ℕ → List Start → List Group
groups_told trace starts = map (group_at trace) starts

abbrev pub levels_told : List ℕ → List Start → List Level
levels_told trace starts = map entry (groups_told trace starts)

abbrev pub layout_told : List ℕ → Layout
layout_told trace = finish (level_at trace 0)

-- how many levels there are
abbrev pub level_count : List ℕ → ℕ
level_count trace = group_total (groups_told trace (top_start ∷ []))

pub record GatherRoom (trace members required tags rows : List ℕ) : Type 0 where
  pub short : length trace < 4294967296
  pub for_members : counted counts_member trace ≤ length members
  pub for_required : counted counts_required trace ≤ length required
  pub for_tags : counted counts_group trace ≤ length tags
  pub for_rows : 6 * level_count trace ≤ length rows
  pub few : level_count trace < 4294967296

pub record GatheredSoFar (trace members required rows : List ℕ) (so_far : Gathering) : Type 0 where
  pub done : List Start
  pub waiting : List Start
  pub level_is : so_far.level ≡ length done
  pub levels_is : so_far.levels ≡ length done + length waiting
  pub order : level_order (level_count trace) (groups_told trace (top_start ∷ []))
      ≡ groups_told trace done ++ level_order (group_total (groups_told trace waiting)) (groups_told trace waiting)
  pub all : length done + group_total (groups_told trace waiting) ≡ level_count trace
  pub found : length done + length waiting ≡ suc (length (joined (map count_tags_of (levels_told trace done))))
  pub tags : column rows 0 (length done + length waiting) ≡ count_tags (done ++ waiting)
  pub flags : column rows 2 (length done + length waiting) ≡ map flag_of (done ++ waiting)
  pub firsts : column rows (3 + 6 * length done) (length waiting) ≡ map (λ (start : Start). start.first) waiting
  pub delimiters : column rows 1 (length done) ≡ map delimiter (groups_told trace done)
  pub member_ends : column rows 3 (length done) ≡ ends_from 0 (map members_of (levels_told trace done))
  pub required_ends : column rows 4 (length done) ≡ ends_from 0 (map required_of (levels_told trace done))
  pub group_ends : column rows 5 (length done) ≡ ends_from 0 (map count_tags_of (levels_told trace done))
  pub members_are : take so_far.members members ≡ joined (map members_of (levels_told trace done))
  pub member_count_lem : so_far.members ≡ length (joined (map members_of (levels_told trace done)))
  pub required_are : take so_far.required required ≡ joined (map required_of (levels_told trace done))
  pub required_count_lem : so_far.required ≡ length (joined (map required_of (levels_told trace done)))
  pub members_left : so_far.members + weight_all counts_member trace waiting ≤ counted counts_member trace
  pub required_left : so_far.required + weight_all counts_required trace waiting ≤ counted counts_required trace

-- behind the first `from` words stands the list, which ends at `past`
pub record LevelKept (words : List ℕ) (from : ℕ) (list : List ℕ) (past : ℕ) (words_now : List ℕ) : Type 0 where
  pub past_is : past ≡ from + length list
  pub stands : take past words_now ≡ take from words ++ list

-- all levels are gathered: the first words of the slices are the parts of the layout
pub record GatheredIn (trace members required rows : List ℕ) (all : Gathering) : Type 0 where
  pub some_levels : 0 < all.levels
  pub few_levels : all.levels ≤ level_count trace
  pub members_inside : all.members ≤ length members
  pub required_inside : all.required ≤ length required
  pub rows_inside : 6 * all.levels ≤ length rows
  pub parts : Gathered (layout_told trace) (all.levels - 1) (take all.members members) (take all.required required) (take (6 * all.levels) rows)
