-- Laws of `Members.antt`, in its order, and the loop of `level_of`, turn by turn. Assumes nothing.
use Rattle.std.proofs.Math.Path.{◌≡◌, refl}
use Rattle.std.proofs.Common.{sym, ap, ◌∙◌, arith, drop_of_length-le}
use Rattle.std.specs.Prelude.{ℕ, ◌+◌, ◌*◌, ◌-◌, ◌≤◌, ◌<◌, Bool, List, [], ◌∷◌, length, get_or, drop, Option, Some, None, Result, Ok, Err}
use Rattle.std.proofs.Math.Bool.{true, false, cond}
use Rattle.std.specs.Option.{ok_or}
use Rattle.ascii.specs.BytesLaws.{drop-step}
use Rattle.ascending.specs.Search.{StrictlyAscending, rank_in}
use Rattle.ascending.specs.SearchLaws.{is_strictly_ascending-true, rank_in-inside}
use Rattle.refusals.specs.declared.refusal.Refusal.{Refusal}
use Rattle.refusals.specs.declared.refusal.Refusal.TheVariants.{RuleBroken, NoSuchGroup}
use Rattle.layouts.specs.Limits.{Limits}
use Rattle.layouts.specs.LayoutWords.{group_places, group_count, level_members, level_count_tags, first_group}
use Rattle.layouts.specs.LayoutWordsLaws.{StretchInside, length-stretch}
use Rattle.layouts.specs.LayoutCheck.{is_layout}
use Rattle.layouts.specs.LayoutCheckFacts.{Passed, is_layout-passed, members_inside, count_tags-inside, count_tags-ascending, groups-place, first_group-within}
use Rattle.levels.specs.Members.{entry_from, nested_level, level_along, level_outcome, level_part}

-- ---- nested_level

module _ (limits : Limits) (words : List ℕ) (passed : Passed limits words) (number : ℕ) (level : number ≤ group_count words) where
  pub length-level_count_tags : length (level_count_tags words number) ≡ first_group words (number + 1) - first_group words number
  length-level_count_tags =
      let size = length-stretch words (group_places (group_count words) + number) (count_tags-inside limits words passed number level) in
      let place = groups-place limits words passed number (omega arith) in
      let next = groups-place limits words passed (number + 1) (omega arith) in
      let same : get_or words (group_places (group_count words) + number + 1) 0 ≡ get_or words (group_places (group_count words) + (number + 1)) 0 = ap (λ (at : ℕ). get_or words at 0) (omega arith) in
      omega (arith, size, place, next, same)

  -- the rank of a group among the count tags of its level is below their number, which is that of the level's groups
  rank_within : (tag rank : ℕ) → rank_in (level_count_tags words number) tag ≡ Some rank → first_group words number + rank + 1 ≤ group_count words
  rank_within tag rank found =
      omega
      (arith, length-level_count_tags, rank_in-inside (level_count_tags words number) tag rank found, first_group-within limits words passed (number + 1) (omega arith))

  pub nested_level-within : (tag next : ℕ) → nested_level words number tag ≡ Some next → next ≤ group_count words
  unfolding nested_level
  nested_level-within tag next found = go (rank_in (level_count_tags words number) tag) refl found
    where
      go : (rank : Option ℕ) → rank_in (level_count_tags words number) tag ≡ rank → entry_from (first_group words number) rank ≡ Some next → next ≤ group_count words
      go (Some rank) there same = let is : first_group words number + rank + 1 ≡ next = cc in omega (arith, rank_within tag rank there)
      go None there same = let never : ◌≡◌ {A = ℕ} 0 1 = cc in absurd (omega arith)

  -- the search of `nested_level`
  module _
      (tags : List ℕ)
      (tags-read : tags ≡ level_count_tags words number)
      (tag : ℕ)
      (found : Option ℕ)
      (searched : StrictlyAscending tags → found ≡ rank_in tags tag)
    where
      rank_is : found ≡ rank_in (level_count_tags words number) tag
      rank_is =
          let ascend : StrictlyAscending tags = rw tags-read (is_strictly_ascending-true (level_count_tags words number) (count_tags-ascending limits words passed number level)) in
          searched ascend ∙ ap (λ (list : List ℕ). rank_in list tag) tags-read

      pub nested-nothing : found ≡ None → nested_level words number tag ≡ None
      unfolding nested_level
      nested-nothing none = rw (← rank_is, none)

      module _ (rank : ℕ) (there : found ≡ Some rank) where
        -- the first group's place is not before the first count tag, and the sum stays below the number of groups
        pub nested-place : 7 + 3 * group_count words ≤ get_or words (5 + 2 * group_count words + number) 0
        nested-place = omega (arith, groups-place limits words passed number (omega arith))

        pub nested-sum : get_or words (5 + 2 * group_count words + number) 0 - (7 + 3 * group_count words) + rank + 1 ≤ group_count words
        nested-sum = omega (arith, groups-place limits words passed number (omega arith), rank_within tag rank (sym rank_is ∙ there))

        pub nested-at : nested_level words number tag ≡ Some (get_or words (5 + 2 * group_count words + number) 0 - (7 + 3 * group_count words) + rank + 1)
        unfolding nested_level
        nested-at =
            let sum : first_group words number + rank + 1 ≡ get_or words (5 + 2 * group_count words + number) 0 - (7 + 3 * group_count words) + rank + 1 = omega (arith, groups-place limits words passed number (omega arith)) in
            rw (← rank_is, there) (ap Some sum)

-- ---- level_along

-- the count tags before `index` lead from the top to the level of that number
pub record AlongSoFar (words path : List ℕ) (index number : ℕ) : Type 0 where
  pub within : index ≤ length path
  pub level : number ≤ group_count words
  pub leads : level_along words 0 path ≡ level_along words number (drop index path)

pub along_begins : (words path : List ℕ) → AlongSoFar words path 0 0
along_begins words path = record { within = omega arith; level = omega arith; leads = refl }

module _ (words path : List ℕ) (index number : ℕ) (so_far : AlongSoFar words path index number) where
  pub along_ends : length path ≤ index → level_along words 0 path ≡ Ok number
  unfolding level_along
  along_ends over = so_far.leads ∙ rw (drop_of_length-le path over)

  module _ (inside : index < length path) (found : Option ℕ) (looked : found ≡ nested_level words number (get_or path index 0)) where
    at_tag : level_along words 0 path ≡ level_along words number (get_or path index 0 ∷ drop (index + 1) path)
    at_tag = so_far.leads ∙ ap (level_along words number) (drop-step path index inside)

    pub along_nowhere : (refusal : Refusal) → ok_or found (NoSuchGroup (get_or path index 0)) ≡ Err refusal → level_along words 0 path ≡ Err refusal
    unfolding level_along
    along_nowhere refusal answer = go found refl answer
      where
        go : (answer : Option ℕ) → found ≡ answer → ok_or answer (NoSuchGroup (get_or path index 0)) ≡ Err refusal → level_along words 0 path ≡ Err refusal
        go (Some next) there never = let never : ◌≡◌ {A = ℕ} 0 1 = cc in absurd (omega arith)
        go None none same = at_tag ∙ rw (level_along, ← looked, none) same

    pub along_goes_on : (limits : Limits) → Passed limits words → (next : ℕ) → ok_or found (NoSuchGroup (get_or path index 0)) ≡ Ok next → AlongSoFar words path (index + 1) next
    unfolding level_along
    along_goes_on limits passed next answer = go found refl answer
      where
        go : (answer : Option ℕ) → found ≡ answer → ok_or answer (NoSuchGroup (get_or path index 0)) ≡ Ok next → AlongSoFar words path (index + 1) next
        go (Some next') there answer = let same : next' ≡ next = cc in record {
          within = omega arith;
          level = nested_level-within limits words passed number so_far.level (get_or path index 0) next (sym looked ∙ there ∙ ap Some same);
          leads = at_tag ∙ rw (level_along, ← looked, there, same);
        }
        go None none never = let never : ◌≡◌ {A = ℕ} 0 1 = cc in absurd (omega arith)

pub along_within : (limits : Limits) (words : List ℕ) → Passed limits words → (path : List ℕ) (number level : ℕ) → number ≤ group_count words → level_along words number path ≡ Ok level → level ≤ group_count words
unfolding level_along
along_within limits words passed [] number level start leads = let same : number ≡ level = cc in omega arith
along_within limits words passed (tag ∷ path) number level start leads =
    go (nested_level words number tag) refl leads (λ next. along_within limits words passed path next level)
  where
    go : (found : Option ℕ)
        → nested_level words number tag ≡ found
        → elim found as (λ _. (Result ℕ Refusal)) [ Some next ↦ level_along words next path | None ↦ Err (NoSuchGroup tag) ] ≡ Ok level
        → ((next : ℕ) → next ≤ group_count words → level_along words next path ≡ Ok level → level ≤ group_count words)
        → level ≤ group_count words
    go (Some next) there reaches later = later next (nested_level-within limits words passed number start tag next there) reaches
    go None there reaches later = let never : ◌≡◌ {A = ℕ} 0 1 = cc in absurd (omega arith)

-- ---- level_outcome

module _ (limits : Limits) (words path : List ℕ) where
  pub level_outcome-no_layout : is_layout limits words ≡ false → level_outcome limits words path ≡ Err (RuleBroken 0 0)
  unfolding level_outcome
  level_outcome-no_layout fails = rw fails

  pub level_outcome-along : is_layout limits words ≡ true → (outcome : Result ℕ Refusal) → level_along words 0 path ≡ outcome → level_outcome limits words path ≡ outcome
  unfolding level_outcome
  level_outcome-along holds outcome leads = rw (holds, leads)

  pub reached_inside : (level : ℕ) → level_outcome limits words path ≡ Ok level → StretchInside words (1 + level)
  unfolding level_outcome
  reached_inside level reached = go (is_layout limits words) refl reached
    where
      go : (test : Bool) → is_layout limits words ≡ test → cond test (level_along words 0 path) (Err (RuleBroken 0 0)) ≡ Ok level → StretchInside words (1 + level)
      go true holds leads =
          let passed = is_layout-passed limits words holds in
          members_inside limits words passed level (along_within limits words passed path 0 level (omega arith) leads)
      go false holds leads = let never : ◌≡◌ {A = ℕ} 0 1 = cc in absurd (omega arith)

  -- ---- level_part

  pub level_part-reached : (level : ℕ) → level_outcome limits words path ≡ Ok level → level_part limits words path ≡ level_members words level
  unfolding level_part
  level_part-reached level reached = rw reached

  pub level_part-refused : (refusal : Refusal) → level_outcome limits words path ≡ Err refusal → level_part limits words path ≡ []
  unfolding level_part
  level_part-refused refusal refused = rw refused
