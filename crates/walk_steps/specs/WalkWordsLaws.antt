-- Laws of `WalkWords.antt`: a search is membership, and layout words that pass the check (layouts, `LayoutCheckFacts.antt`) meet the rules that the theorem
-- on readings relies on. Assumes nothing.
--
--   rank_of members tag   the rank of a member, its place among the members
use Rattle.std.specs.Prelude.{◌≡◌, refl, ℕ, zero, suc, ◌+◌, ◌*◌, ◌-◌, ◌≤◌, ◌<◌, Bool, true, false, List, [], ◌∷◌, eqb, length, get_or, if◌then◌else◌, Option, Some, None}
use Rattle.std.proofs.Math.Path.{sym}
use Rattle.std.proofs.Common.{ap, ◌∙◌, true≢false, arith, eqb-true}
use Rattle.std.proofs.Math.Nat.{ℕ_set}
use Rattle.ascending.specs.Search.{StrictlyAscending, rank_from, rank_in, is_found}
use Rattle.ascending.specs.SearchLaws.{is_strictly_ascending-true, is_found-rank}
use Rattle.layouts.specs.Limits.{gate_limits}
use Rattle.layouts.specs.LayoutRules.{◌∈ᵇ◌}
use Rattle.layouts.specs.LayoutWords.{member_places, first_member, group_count, group_places, stretch, level_members, level_count_tags, first_group}
use Rattle.layouts.specs.LayoutWordsLaws.{length-stretch}
use Rattle.layouts.specs.LayoutCheckLaws.{RunIn, member-places, members-few}
use Rattle.layouts.specs.LayoutCheckFacts.{Passed, members_inside, members-ascending, count_tags-ascending, count_tags-inside, delimiter_member, groups-place, first_group-first, first_group-rises, first_group-within}
use Rattle.field_table.specs.ReliedRules.{LayoutRules}
use Rattle.walk_steps.specs.WalkWords.{number_found, group_of, layout_of}

abbrev pub rank_found : Option ℕ → ℕ
rank_found (Some rank) = rank
rank_found None = 0

abbrev pub rank_of : List ℕ → ℕ → ℕ
rank_of members tag = rank_found (rank_in members tag)

-- ---- a search is membership

pub found-member : (members : List ℕ) (tag : ℕ) → is_found (rank_in members tag) ≡ tag ∈ᵇ members
found-member members tag = is_found-rank members tag

module _ (members : List ℕ) (tag : ℕ) where
  pub member-found : (rank : ℕ) → rank_in members tag ≡ Some rank → tag ∈ᵇ members ≡ true
  unfolding is_found
  member-found rank there = sym (found-member members tag) ∙ rw there

  pub member-nowhere : rank_in members tag ≡ None → tag ∈ᵇ members ≡ false
  unfolding is_found
  member-nowhere nowhere = sym (found-member members tag) ∙ rw nowhere

-- ---- what is found is there

rank_from-there : (index : ℕ) (words : List ℕ) (tag place : ℕ) → rank_from index words tag ≡ Some place
    → (index ≤ place) × (place < index + length words) × (get_or words (place - index) 0 ≡ tag)
unfolding rank_from
rank_from-there index [] tag place found = let zero_one : ◌≡◌ {A = ℕ} 0 1 = cc in absurd (omega arith)
rank_from-there index (word ∷ rest) tag place found = go (eqb word tag) refl found (rank_from-there (index + 1) rest tag place)
  where
    go : (same : Bool) → eqb word tag ≡ same → (if same then Some index else rank_from (index + 1) rest tag) ≡ Some place
        → (rank_from (index + 1) rest tag ≡ Some place → (index + 1 ≤ place) × (place < index + 1 + length rest) × (get_or rest (place - (index + 1)) 0 ≡ tag))
        → (index ≤ place) × (place < index + length (word ∷ rest)) × (get_or (word ∷ rest) (place - index) 0 ≡ tag)
    go true same here later =
        let first : index ≡ place = cc in
        let none_before : place - index ≡ 0 = omega arith in
        (omega arith, omega arith, rw none_before (eqb-true word tag same))
    go false other there later =
        let behind = later there in
        let one_more : place - index ≡ suc (place - (index + 1)) = omega (arith, behind.0) in
        (omega (arith, behind.0), omega (arith, behind.1), rw one_more behind.2)

pub rank_in-there : (words : List ℕ) (tag place : ℕ) → rank_in words tag ≡ Some place → (place < length words) × (get_or words place 0 ≡ tag)
unfolding rank_in
rank_in-there words tag place found =
    let facts = rank_from-there 0 words tag place found in
    let same : place - 0 ≡ place = omega arith in
    (omega (arith, facts.1), rw same at facts.2)

-- ---- the rank of a member

module _ (members : List ℕ) where
  pub rank_of_found : (tag rank : ℕ) → rank_in members tag ≡ Some rank → rank ≡ rank_of members tag
  rank_of_found tag rank found = rw found

  rank_of_there : (tag : ℕ) → tag ∈ᵇ members ≡ true → (rank_of members tag < length members) × (get_or members (rank_of members tag) 0 ≡ tag)
  rank_of_there tag member = go (rank_in members tag) refl
    where
      go : (found : Option ℕ) → rank_in members tag ≡ found → (rank_of members tag < length members) × (get_or members (rank_of members tag) 0 ≡ tag)
      go (Some rank) found = rw found (rank_in-there members tag rank found)
      go None found = absurd (true≢false (sym member ∙ member-nowhere members tag found))

  pub rank_of_low : (tag : ℕ) → tag ∈ᵇ members ≡ true → rank_of members tag < length members
  rank_of_low tag member = (rank_of_there tag member).0

  pub rank_of_apart : (tag other : ℕ) → tag ∈ᵇ members ≡ true → other ∈ᵇ members ≡ true → rank_of members tag ≡ rank_of members other → tag ≡ other
  rank_of_apart tag other member also same =
      sym (rank_of_there tag member).1 ∙ ap (λ (rank : ℕ). get_or members rank 0) same ∙ (rank_of_there other also).1

-- ---- words that pass the check

module _ (words : List ℕ) (passed : Passed gate_limits words) where
  pub members_ascend : (level : ℕ) → level ≤ group_count words → StrictlyAscending (level_members words level)
  members_ascend level there = is_strictly_ascending-true (level_members words level) (members-ascending gate_limits words passed level there)

  pub count_tags-ascend : (level : ℕ) → level ≤ group_count words → StrictlyAscending (level_count_tags words level)
  count_tags-ascend level there = is_strictly_ascending-true (level_count_tags words level) (count_tags-ascending gate_limits words passed level there)

  -- a level has as many count tags as groups
  count_tags-length : (level : ℕ) → level ≤ group_count words → first_group words level + length (level_count_tags words level) ≡ first_group words (level + 1)
  count_tags-length level there =
      let inside = count_tags-inside gate_limits words passed level there in
      let next : get_or words (group_places (group_count words) + level + 1) 0 ≡ get_or words (group_places (group_count words) + (level + 1)) 0 =
      ap (λ (place : ℕ). get_or words place 0) (omega arith) in
      let here = groups-place gate_limits words passed level (omega arith) in
      let behind = groups-place gate_limits words passed (level + 1) (omega arith) in
      let rises = first_group-rises gate_limits words passed level there in
      let size = length-stretch words (group_places (group_count words) + level) inside in
      omega (arith, size, next, here, behind, rises, inside.rises)

  pub group_of_number : (level tag number : ℕ) → level ≤ group_count words → group_of words level tag ≡ Some number → number < group_count words
  group_of_number level tag number there is_number = go (rank_in (level_count_tags words level) tag) refl is_number
    where
      go : (found : Option ℕ) → rank_in (level_count_tags words level) tag ≡ found → number_found (first_group words level) found ≡ Some number → number < group_count words
      go (Some place) found same =
          let sum : first_group words level + place ≡ number = cc in
          omega (
            arith,
            (rank_in-there (level_count_tags words level) tag place found).0,
            count_tags-length level there,
            first_group-within gate_limits words passed (level + 1) (omega arith),
          )
      go None found same = let zero_one : ◌≡◌ {A = ℕ} 0 1 = cc in absurd (omega arith)

  -- a level has no more members than all levels together may have
  pub members-few_here : (level : ℕ) → level ≤ group_count words → length (level_members words level) ≤ 8192
  members-few_here level there =
      let run = member-places gate_limits (group_count words) words passed.heads passed.members_hold in
      let most = members-few gate_limits (group_count words) words passed.heads passed.members_hold in
      let inside = members_inside gate_limits words passed level there in
      let size = length-stretch words (member_places + level) inside in
      let from = first-place run level (omega arith) in
      let next : get_or words (member_places + level + 1) 0 ≡ get_or words (member_places + (level + 1)) 0 = ap (λ (place : ℕ). get_or words place 0) (omega arith) in
      let last : get_or words (member_places + (group_count words + 1)) 0 ≡ get_or words (group_count words + 2) 0 = ap (λ (place : ℕ). get_or words place 0) (omega arith) in
      omega (arith, size, next, last, from, run.begins, run.reaches (level + 1) (omega arith), most, inside.rises)
    where
      first-place : RunIn words member_places (group_count words + 1) (first_member (group_count words)) → (level : ℕ) → level ≤ group_count words + 1
          → first_member (group_count words) ≤ get_or words (member_places + level) 0
      first-place run zero there =
          let zeroth : get_or words (member_places + 0) 0 ≡ get_or words member_places 0 = ap (λ (place : ℕ). get_or words place 0) (omega arith) in
          omega (arith, zeroth, run.begins)
      first-place run (suc level) there =
          let next : get_or words (member_places + level + 1) 0 ≡ get_or words (member_places + suc level) 0 = ap (λ (place : ℕ). get_or words place 0) (omega arith) in
          omega (arith, next, first-place run level (omega arith), run.rises level (omega arith))

  -- where the first group of a level is read
  module _ (level : ℕ) (there : level ≤ group_count words) (groups word : ℕ) (is-groups : groups ≡ group_count words) (is_Is_word : word ≡ get_or words (5 + 2 * groups + level) 0) where
    word-here : word ≡ get_or words (group_places (group_count words) + level) 0
    word-here = is_Is_word ∙ ap (λ (number : ℕ). get_or words (5 + 2 * number + level) 0) is-groups

    pub first-group_fits : 7 + 3 * groups ≤ word
    first-group_fits = omega (arith, word-here, is-groups, groups-place gate_limits words passed level (omega arith))

    pub first-group_read : word - (7 + 3 * groups) ≡ first_group words level
    first-group_read = omega (arith, word-here, is-groups)

  -- the numbers of a level's groups
  pub groups-few : (level : ℕ) → level ≤ group_count words → first_group words level + length (level_count_tags words level) ≤ group_count words
  groups-few level there = omega (arith, count_tags-length level there, first_group-within gate_limits words passed (level + 1) (omega arith))

  -- what the searches of an entry ask
  pub level-searches : group_count words < 4294967296 → (group : ℕ) → group < group_count words → (members tags : List ℕ) (first : ℕ)
      → members ≡ level_members words (1 + group) → tags ≡ level_count_tags words (1 + group) → first ≡ first_group words (1 + group)
      → StrictlyAscending members × (StrictlyAscending tags × (first + length tags < 4294967296))
  level-searches few_groups_lem group valid members tags first are-members are-tags is-first =
      let few : first + length tags < 4294967296 = rw (are-tags, is-first) (omega (arith, groups-few (1 + group) (omega arith))) in
      let of_tags : StrictlyAscending tags × (first + length tags < 4294967296) = (rw are-tags (count_tags-ascend (1 + group) (omega arith)), few) in
      (rw are-members (members_ascend (1 + group) (omega arith)), of_tags)

  pub level-ascends : (group : ℕ) → group < group_count words → (members : List ℕ) → members ≡ level_members words (1 + group) → StrictlyAscending members
  level-ascends group valid members are-members = rw are-members (members_ascend (1 + group) (omega arith))

  pub top-ascends : (members : List ℕ) → members ≡ level_members words 0 → StrictlyAscending members
  top-ascends members are-members = rw are-members (members_ascend 0 (omega arith))

  -- the top's groups are the first ones
  pub top-found : (tag : ℕ) (found : Option ℕ) (tags : List ℕ) → tags ≡ level_count_tags words 0 → (StrictlyAscending tags → found ≡ rank_in tags tag)
      → number_found 0 found ≡ group_of words 0 tag
  top-found tag found tags are-tags searched =
      let found_is : found ≡ rank_in (level_count_tags words 0) tag = searched (rw are-tags (count_tags-ascend 0 (omega arith))) ∙ rw are-tags in
      rw (found_is, first_group-first gate_limits words passed)

  -- the rules that the theorem on readings relies on
  abbrev pub layout_of_rules : LayoutRules (layout_of words)
  layout_of_rules = record {
    group_set = ℕ_set;
    Valid = λ group. group < group_count words;
    delimiter_member = λ group valid. delimiter_member gate_limits words passed group valid;
    nested_valid = λ group inner tag valid found. group_of_number (1 + group) tag inner (omega arith) found;
  }

-- the number of members, as code counts them
pub level-length : (words : List ℕ) (level : ℕ) (members : List ℕ) → members ≡ level_members words level → length members ≡ length (level_members words level)
level-length words level members are-members = ap (λ (list : List ℕ). length list) are-members
