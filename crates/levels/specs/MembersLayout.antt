-- The members that `level_members` hands out are those of the layout that the words tell of: a path of count tags leads to the same level
-- in the words, by numbers, and in the layout, group by group. Assumes nothing.
--
--   level_numbered words number   the level of that number, with the groups of the words that stand in it
use Rattle.std.specs.Prelude.{◌≡◌, Bool, true, false, cond, length, take, eqb, slice_get, Option, Some, None}
use Rattle.std.proofs.Math.Path.{refl, sym, ap, ap₂}
use Rattle.std.proofs.Common.{◌∙◌}
use Prim.Native.Nat.{ℕ, zero, suc, ◌+◌, ◌-◌, ◌≤◌, ◌<◌}
use mathlib.Core.List.{List, [], ◌∷◌, map}
use native.Mathlib.Omega.{arith}
use Rattle.std.proofs.Math.ListN.{drop}
use Rattle.std.proofs.Math.Seq.{drop-drop}
use Rattle.ascending.specs.Search.{rank_from, rank_in}
use Rattle.ascending.specs.SearchLaws.{rank_in-inside}
use Rattle.layouts.specs.Limits.{Limits}
use Rattle.layouts.specs.Layout.{Level, Group, level_of_lem, grouped, groups_of, count_tag, entry}
use Rattle.layouts.specs.LayoutLaws.{listed-grouped}
use Rattle.layouts.specs.LayoutWords.{group_count, level_members, level_required, level_count_tags, first_group, group_at, groups_from, layout_in}
use Rattle.layouts.specs.LayoutCheck.{is_layout}
use Rattle.layouts.specs.LayoutCheckFacts.{Passed, is_layout-passed, first_group-first, first_group-ahead}
use Rattle.layouts.specs.LayoutCheckSound.{tags-in}
use Rattle.levels.specs.Members.{entry_from, nested_level, level_along, members_reached, level_part, group_named, level_below, members_below}
use Rattle.levels.specs.MembersLaws.{length-level_count_tags, nested_level-within, level_outcome-along}

-- ---- lists

element_first : {A : Type 0} (number : ℕ) (list : List A) (first : A) (rest : List A) → drop number list ≡ first ∷ rest → slice_get list number ≡ Some first
element_first zero [] first rest here = let never : ◌≡◌ {A = ℕ} 0 (suc (length rest)) = ap length here in absurd (omega arith)
element_first zero (one ∷ others) first rest here = cc
element_first (suc number) [] first rest here = let never : ◌≡◌ {A = ℕ} 0 (suc (length rest)) = ap length here in absurd (omega arith)
element_first (suc number) (one ∷ others) first rest here = element_first number others first rest here

element_take : {A : Type 0} (count number : ℕ) (list : List A) → number < count → slice_get (take count list) number ≡ slice_get list number
element_take zero number list inside = absurd (omega arith)
element_take (suc count) number [] inside = refl
element_take (suc count) zero (one ∷ others) inside = refl
element_take (suc count) (suc number) (one ∷ others) inside = element_take count number others (omega arith)

element_drop : {A : Type 0} (from number : ℕ) (list : List A) → slice_get (drop from list) number ≡ slice_get list (from + number)
element_drop zero number list = ap (slice_get list) (omega arith)
element_drop (suc from) number [] = sym (none-there (suc from + number))
  where
    none-there : {A : Type 0} (number : ℕ) → slice_get {X = A} [] number ≡ None
    none-there number = refl
element_drop (suc from) number (one ∷ others) =
    let next : suc from + number ≡ suc (from + number) = omega arith in
    element_drop from number others ∙ ap (slice_get (one ∷ others)) (sym next)

-- ---- the group of a count tag, by its rank

named-nothing : (index : ℕ) (groups : List Group) (tag : ℕ) → rank_from index (map count_tag groups) tag ≡ None → group_named tag groups ≡ None
unfolding rank_from group_named
named-nothing index [] tag found = refl
named-nothing index (first ∷ others) tag found = go (eqb (count_tag first) tag) found (named-nothing (index + 1) others tag)
  where
    go : (test : Bool)
        → cond test (Some index) (rank_from (index + 1) (map count_tag others) tag) ≡ None
        → (rank_from (index + 1) (map count_tag others) tag ≡ None → group_named tag others ≡ None)
        → cond test (Some first) (group_named tag others) ≡ None
    go true here later = let never : ◌≡◌ {A = ℕ} 0 1 = cc in absurd (omega arith)
    go false here later = later here

rank_from_lem : (index : ℕ) (words : List ℕ) (tag rank : ℕ) → rank_from index words tag ≡ Some rank → index ≤ rank
unfolding rank_from
rank_from_lem index [] tag rank found = let never : ◌≡◌ {A = ℕ} 0 1 = cc in absurd (omega arith)
rank_from_lem index (word ∷ rest) tag rank found = go (eqb word tag) found (rank_from_lem (index + 1) rest tag rank)
  where
    go : (test : Bool) → cond test (Some index) (rank_from (index + 1) rest tag) ≡ Some rank → (rank_from (index + 1) rest tag ≡ Some rank → index + 1 ≤ rank) → index ≤ rank
    go true here later = let same : index ≡ rank = cc in omega arith
    go false there later = omega (arith, later there)

named-at : (index : ℕ) (groups : List Group) (tag rank place : ℕ) → rank ≡ index + place → rank_from index (map count_tag groups) tag ≡ Some rank → group_named tag groups ≡ slice_get groups place
unfolding rank_from group_named
named-at index [] tag rank place sum found = refl
named-at index (first ∷ others) tag rank place sum found = go (eqb (count_tag first) tag) place sum found (λ place. named-at (index + 1) others tag rank place)
  where
    behind-first : rank_from (index + 1) (map count_tag others) tag ≡ Some rank → index < rank
    behind-first there = omega (arith, rank_from_lem (index + 1) (map count_tag others) tag rank there)

    go : (test : Bool) (place : ℕ)
        → rank ≡ index + place
        → cond test (Some index) (rank_from (index + 1) (map count_tag others) tag) ≡ Some rank
        → ((place : ℕ) → rank ≡ index + 1 + place → rank_from (index + 1) (map count_tag others) tag ≡ Some rank → group_named tag others ≡ slice_get others place)
        → cond test (Some first) (group_named tag others) ≡ slice_get (first ∷ others) place
    go true zero sum here later = refl
    go true (suc place) sum here later = let same : index ≡ rank = cc in absurd (omega arith)
    go false zero sum here later = absurd (omega (arith, behind-first here))
    go false (suc place) sum here later = later place (omega arith) here

-- ---- levels by their numbers

abbrev pub level_numbered : List ℕ → ℕ → Level
level_numbered words number =
    level_of_lem
    (level_members words number)
    (level_required words number)
    (grouped (take (first_group words (number + 1) - first_group words number) (drop (first_group words number) (groups_from words 0 (group_count words)))))

module _ (words : List ℕ) where
  groups-behind : (number count : ℕ) → number + count ≡ group_count words → groups_from words number count ≡ drop number (groups_from words 0 (group_count words))
  unfolding groups_from
  groups-behind zero count all = let same : count ≡ group_count words = omega arith in ap (groups_from words 0) same
  groups-behind (suc number) count all =
      let groups = groups_from words 0 (group_count words) in
      let next : suc number ≡ number + 1 = omega arith in
      ap (λ (from : ℕ). groups_from words from count) next
      ∙ ap (drop 1) (groups-behind number (suc count) (omega arith))
      ∙ drop-drop 1 number groups
      ∙ ap (λ (from : ℕ). drop from groups) (sym next)

module _ (limits : Limits) (words : List ℕ) (passed : Passed limits words) where
  pub group-numbered : (number : ℕ) → number < group_count words
      → slice_get (groups_from words 0 (group_count words)) number ≡ Some (group_at words number (drop (number + 1) (groups_from words 0 (group_count words))))
  unfolding groups_from
  group-numbered number inside =
      let groups = groups_from words 0 (group_count words) in
      let left = group_count words - (number + 1) in
      let here : drop number groups ≡ group_at words number (groups_from words (number + 1) left) ∷ groups_from words (number + 1) left = sym (groups-behind words number (suc left) (omega arith)) in
      element_first number groups (group_at words number (groups_from words (number + 1) left)) (groups_from words (number + 1) left) here
      ∙ ap (λ (later : List Group). Some (group_at words number later)) (groups-behind words (number + 1) left (omega arith))

  pub entry-numbered : (number : ℕ) → number < group_count words → entry (group_at words number (drop (number + 1) (groups_from words 0 (group_count words)))) ≡ level_numbered words (number + 1)
  entry-numbered number inside =
      let groups = groups_from words 0 (group_count words) in
      let ahead = first_group-ahead limits words passed number inside in
      let one : 1 + number ≡ number + 1 = omega arith in
      let two : 2 + number ≡ number + 1 + 1 = omega arith in
      let reach : number + 1 + (first_group words (number + 1) - (number + 1)) ≡ first_group words (number + 1) = omega (arith, ahead) in
      ap₂ (λ (n m : ℕ). level_of_lem (level_members words n) (level_required words n) (grouped (take (first_group words m - first_group words n) (drop (first_group words n - n) (drop (number + 1) groups))))) one two
      ∙ ap
      (λ (behind : List Group). level_of_lem (level_members words (number + 1)) (level_required words (number + 1)) (grouped (take (first_group words (number + 1 + 1) - first_group words (number + 1)) behind)))
      (drop-drop (first_group words (number + 1) - (number + 1)) (number + 1) groups ∙ ap (λ (from : ℕ). drop from groups) reach)

  pub top-numbered : layout_in words ≡ level_numbered words 0
  unfolding layout_in
  top-numbered =
      let groups = groups_from words 0 (group_count words) in
      let none_before = first_group-first limits words passed in
      let many : first_group words 1 ≡ first_group words (0 + 1) - first_group words 0 = omega (arith, none_before) in
      ap₂ (λ (n m : ℕ). level_of_lem (level_members words 0) (level_required words 0) (grouped (take n (drop m groups)))) many (sym none_before)

  module _ (number : ℕ) (level : number ≤ group_count words) where
    groups-numbered : groups_of (level_numbered words number) ≡ take (first_group words (number + 1) - first_group words number) (drop (first_group words number) (groups_from words 0 (group_count words)))
    groups-numbered = listed-grouped (take (first_group words (number + 1) - first_group words number) (drop (first_group words number) (groups_from words 0 (group_count words))))

    tags-numbered : map count_tag (groups_of (level_numbered words number)) ≡ level_count_tags words number
    tags-numbered =
        let groups = groups_from words 0 (group_count words) in
        let same : first_group words number ≡ first_group words number - 0 = omega arith in
        ap (map count_tag) groups-numbered
        ∙ ap (λ (from : ℕ). map count_tag (take (first_group words (number + 1) - first_group words number) (drop from groups))) same
        ∙ tags-in limits words passed number 0 (group_count words) level (omega arith) (omega arith)

    pub no_group_numbered : (tag : ℕ) → rank_in (level_count_tags words number) tag ≡ None → group_named tag (groups_of (level_numbered words number)) ≡ None
    unfolding rank_in
    no_group_numbered tag found =
        named-nothing 0 (groups_of (level_numbered words number)) tag (ap (λ (tags : List ℕ). rank_from 0 tags tag) tags-numbered ∙ found)

    pub some-group_numbered : (tag rank : ℕ) → rank_in (level_count_tags words number) tag ≡ Some rank → first_group words number + rank + 1 ≤ group_count words
        → group_named tag (groups_of (level_numbered words number)) ≡ Some (group_at words (first_group words number + rank) (drop (first_group words number + rank + 1) (groups_from words 0 (group_count words))))
    unfolding rank_in
    some-group_numbered tag rank found within =
        let groups = groups_from words 0 (group_count words) in
        let many = first_group words (number + 1) - first_group words number in
        named-at 0 (groups_of (level_numbered words number)) tag rank rank (omega arith) (ap (λ (tags : List ℕ). rank_from 0 tags tag) tags-numbered ∙ found)
        ∙ ap (λ (list : List Group). slice_get list rank) groups-numbered
        ∙ element_take many rank (drop (first_group words number) groups) (omega (arith, rank_below tag rank found))
        ∙ element_drop (first_group words number) rank groups
        ∙ group-numbered (first_group words number + rank) (omega arith)
      where
        rank_below : (tag rank : ℕ) → rank_in (level_count_tags words number) tag ≡ Some rank → rank < first_group words (number + 1) - first_group words number
        rank_below tag rank found =
            omega
            (arith, rank_in-inside (level_count_tags words number) tag rank found, length-level_count_tags limits words passed number level)

  -- a path leads to the same members
  along_layout : (path : List ℕ) (number : ℕ) → number ≤ group_count words → members_reached words (level_along words number path) ≡ members_below (level_below (level_numbered words number) path)
  unfolding level_along level_below nested_level
  along_layout [] number level = refl
  along_layout (tag ∷ path) number level = go (rank_in (level_count_tags words number) tag) refl (λ next. along_layout path next)
    where
      go : (found : Option ℕ)
          → rank_in (level_count_tags words number) tag ≡ found
          → ((next : ℕ) → next ≤ group_count words → members_reached words (level_along words next path) ≡ members_below (level_below (level_numbered words next) path))
          → members_reached words (level_along words number (tag ∷ path)) ≡ members_below (level_below (level_numbered words number) (tag ∷ path))
      go None found later = rw (level_along, level_below, found, no_group_numbered number level tag found)
      go (Some rank) found later =
          let next = first_group words number + rank + 1 in
          let within : next ≤ group_count words = nested_level-within limits words passed number level tag next (ap (entry_from (first_group words number)) found) in
          rw
          (level_along, level_below, found, some-group_numbered number level tag rank found within, entry-numbered (first_group words number + rank) (omega (arith, within)))
          (later next within)

-- the members handed out are those of the layout in the words
pub level_part-layout : (limits : Limits) (words path : List ℕ) → is_layout limits words ≡ true → level_part limits words path ≡ members_below (level_below (layout_in words) path)
unfolding level_part
level_part-layout limits words path holds =
    let passed = is_layout-passed limits words holds in
    ap (members_reached words) (level_outcome-along limits words path holds (level_along words 0 path) refl)
    ∙ along_layout limits words passed path 0 (omega arith)
    ∙ ap (λ (top : Level). members_below (level_below top path)) (sym (top-numbered limits words passed))
