-- Examples of layouts, by computation: the layout of the worked example of document 01 ('One list in full'), its words, and words that
-- break one thing. Assumes nothing.
use Rattle.std.specs.Prelude.{ℕ, ◌≡◌, refl, true, false, ◌&&◌, List, [], ◌∷◌, ◌++◌, set}
use Rattle.ascii.specs.Bytes.{non_empty}
use Rattle.ascending.specs.Sort.{is_in}
use Rattle.ascending.specs.Search.{is_strictly_above, is_strictly_ascending}
use Rattle.layouts.specs.Limits.{gate_limits}
use Rattle.layouts.specs.Layout.{Layout, level_of_lem, no_groups, group_and, group_of_lem, groups_below, level_order, all_groups, joined}
use Rattle.layouts.specs.LayoutRules.{every_group, meets_rules, meets_limits}
use Rattle.layouts.specs.LayoutWords.{places_from, arranged_parts, arranged, stretch, stretches}
use Rattle.layouts.specs.LayoutCheck.{never_falls, is_run, is_ahead, member_places_hold, required_places_hold, group_places_hold, is_level, levels_hold, delimiters_hold, all_levels_hold, all_delimiters_hold, is_layout_of, is_layout}

-- header field 35, and group 453 with delimiter 448 and the required field 447
abbrev parties : Layout
parties = level_of_lem (35 ∷ 453 ∷ []) (35 ∷ []) (group_and (group_of_lem 453 448 true (level_of_lem (447 ∷ 448 ∷ []) (447 ∷ []) no_groups)) no_groups)

abbrev parties_words : List ℕ
parties_words =
    1 ∷ 13 ∷ 15 ∷ 17 ∷ 17 ∷ 18 ∷ 19 ∷ 10 ∷ 11 ∷ 11 ∷ 453 ∷ 448 ∷ 1 ∷ 35 ∷ 453 ∷ 447 ∷ 448 ∷ 35 ∷ 447 ∷ []

-- groups 1 and 4 at the top, 2 and 3 in the entry of 1
abbrev nested_groups : Layout
nested_groups =
    level_of_lem
    (1 ∷ 4 ∷ [])
    []
    (group_and
    (group_of_lem 1 9 true (level_of_lem (2 ∷ 3 ∷ 9 ∷ []) [] (group_and (group_of_lem 2 9 false (level_of_lem (9 ∷ []) [] no_groups)) (group_and (group_of_lem 3 8 false (level_of_lem (8 ∷ []) (8 ∷ []) no_groups)) no_groups))))
    (group_and (group_of_lem 4 7 false (level_of_lem (7 ∷ []) [] no_groups)) no_groups))

pub record Cases : Type 0 where
  pub parties_arranged : arranged parties ≡ parties_words
  pub parties_meet : meets_rules parties && meets_limits gate_limits parties ≡ true
  pub parties_pass : is_layout gate_limits parties_words ≡ true
  pub words_behind_pass : is_layout gate_limits (parties_words ++ (7 ∷ 0 ∷ [])) ≡ true
  pub nested_pass : is_layout gate_limits (arranged nested_groups) ≡ true
  pub empty_top_passes : is_layout gate_limits (arranged (level_of_lem [] [] no_groups)) ≡ true
  pub no_words_fail : is_layout gate_limits [] ≡ false
  pub members_out_of_order_fail : is_layout gate_limits (set parties_words 13 454) ≡ false
  pub delimiter_no_member_fails : is_layout gate_limits (set parties_words 11 449) ≡ false
  pub count_tag_no_member_fails : is_layout gate_limits (set parties_words 10 452) ≡ false
  -- the group in its own entry and not in the top
  pub own_entry_fails : is_layout gate_limits (set parties_words 8 10) ≡ false
  pub word_missing_fails : is_layout gate_limits (set parties_words 6 20) ≡ false

pub cases : Cases
unfolding groups_below level_order all_groups joined is_strictly_above is_strictly_ascending is_in every_group meets_rules places_from arranged_parts arranged stretch stretches never_falls is_run is_ahead member_places_hold required_places_hold group_places_hold is_level levels_hold delimiters_hold all_levels_hold all_delimiters_hold is_layout_of is_layout non_empty
cases = record {
  parties_arranged = refl;
  parties_meet = refl;
  parties_pass = refl;
  words_behind_pass = refl;
  nested_pass = refl;
  empty_top_passes = refl;
  no_words_fail = refl;
  members_out_of_order_fail = refl;
  delimiter_no_member_fails = refl;
  count_tag_no_member_fails = refl;
  own_entry_fails = refl;
  word_missing_fails = refl;
}
