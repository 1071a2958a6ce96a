-- What holds of words that pass the check, for calls that read them: every level's stretches lie in the words, the members and count tags of
-- each level ascend, the count tags of a level and the delimiter of a group are members, and the groups of a level have higher numbers than
-- the level: so the entry level of a group stands behind the level that the group stands in. Assumes nothing.
use Rattle.std.specs.Prelude.{◌≡◌, refl, ℕ, zero, suc, ◌+◌, ◌*◌, ◌≤◌, ◌<◌, Bool, true, false, ◌&&◌, List, [], ◌∷◌, drop, leb, ltb, if◌then◌else◌, Option, Some, None, Result, Ok, Err}
use Rattle.std.specs.Option.{option_map, ok_or}
use Rattle.std.proofs.Common.{ap, sym, ◌∙◌}
use Rattle.std.proofs.lemmas.Bool.{false≢true}
use native.Mathlib.Omega.{arith}
use Rattle.std.proofs.Math.ListN.{length, get_or, take}
use borrow.Author.Tests.{le-leb, leb-true, ltb-true}
use Rattle.ascii.specs.NotationLaws.{and_left, and_right}
use Rattle.ascii.specs.Bytes.{non_empty, every}
use Rattle.layouts.specs.Limits.{Limits, gate_limits}
use Rattle.layouts.specs.LayoutRules.{is_ascending, ◌∈ᵇ◌, are_among}
use Rattle.layouts.specs.LayoutWords.{member_places, group_places, first_member, first_count_tag, first_delimiter, first_flag, group_count, stretch, stretches, level_members, level_count_tags, first_group, delimiter_at, flag_at}
use Rattle.layouts.specs.LayoutWordsLaws.{StretchInside}
use Rattle.layouts.specs.LayoutCheck.{is_ahead, member_places_hold, required_places_hold, group_places_hold, is_flag, is_level, levels_hold, delimiters_hold, all_levels_hold, all_delimiters_hold, is_layout_of, is_layout, layout_words}
use Rattle.layouts.specs.LayoutCheckLaws.{RunIn, group-places, groups-end, groups-ahead, member-stretches, required-stretches, count-tag_stretches, word_of_part, length_part}

-- the tests of `is_layout`, one by one
pub record Passed (limits : Limits) (words : List ℕ) : Type 0 where
  pub some_word : non_empty words ≡ true
  pub heads : first_member (group_count words) ≤ length words
  pub members_hold : member_places_hold limits (group_count words) words ≡ true
  pub required_hold : required_places_hold limits (group_count words) words ≡ true
  pub groups_hold_lem : group_places_hold (group_count words) words ≡ true
  pub flags_hold : every is_flag (take (group_count words) (drop (first_flag (group_count words)) words)) ≡ true
  pub levels_hold_lem : all_levels_hold (group_count words) words ≡ true
  pub delimiters_hold_lem : all_delimiters_hold (group_count words) words ≡ true

module _ (limits : Limits) (words : List ℕ) where
  seven : (a b c d e f g : Bool) → a && b && c && d && e && f && g ≡ true
      → (a ≡ true) × (b ≡ true) × (c ≡ true) × (d ≡ true) × (e ≡ true) × (f ≡ true) × (g ≡ true)
  seven true true true true true true true holds = (refl, refl, refl, refl, refl, refl, refl)
  seven true true true true true true false holds = absurd (false≢true holds)
  seven true true true true true false g holds = absurd (false≢true holds)
  seven true true true true false f g holds = absurd (false≢true holds)
  seven true true true false e f g holds = absurd (false≢true holds)
  seven true true false d e f g holds = absurd (false≢true holds)
  seven true false c d e f g holds = absurd (false≢true holds)
  seven false b c d e f g holds = absurd (false≢true holds)

  pub is_layout-passed : is_layout limits words ≡ true → Passed limits words
  unfolding is_layout is_layout_of
  is_layout-passed holds =
      let tests = seven
      (leb (first_member (group_count words)) (length words))
      (member_places_hold limits (group_count words) words)
      (required_places_hold limits (group_count words) words)
      (group_places_hold (group_count words) words)
      (every is_flag (take (group_count words) (drop (first_flag (group_count words)) words)))
      (all_levels_hold (group_count words) words)
      (all_delimiters_hold (group_count words) words)
      (and_right (non_empty words) _ holds)
      in
      record {
        some_word = and_left (non_empty words) _ holds;
        heads = leb-true _ _ tests.0;
        members_hold = tests.1;
        required_hold = tests.2;
        groups_hold_lem = tests.3;
        flags_hold = tests.4;
        levels_hold_lem = tests.5;
        delimiters_hold_lem = tests.6;
      }

  -- the tests together are the check
  pub passed-is_layout : Passed limits words → is_layout limits words ≡ true
  unfolding is_layout is_layout_of
  passed-is_layout passed =
      rw
      (passed.some_word, le-leb (first_member (group_count words)) (length words) passed.heads, passed.members_hold, passed.required_hold, passed.groups_hold_lem, passed.flags_hold, passed.levels_hold_lem, passed.delimiters_hold_lem)

-- ---- what the call that gives a layout tells

module _ (limits : Limits) (words : List ℕ) where
  pub layout_words-passed : is_layout limits words ≡ true → layout_words limits words ≡ Some words
  unfolding layout_words
  layout_words-passed passed = rw passed

  pub layout_words-refused : is_layout limits words ≡ false → layout_words limits words ≡ None
  unfolding layout_words
  layout_words-refused refused = rw refused

  module _ {X : Type 0} (view : X → List ℕ) (found : Option X) (told : option_map view found ≡ layout_words limits words) where
    pub layout-found : (layout : X) → found ≡ Some layout → (is_layout limits words ≡ true) × (view layout ≡ words)
    unfolding layout_words
    layout-found layout there = go (is_layout limits words) refl (ap (option_map view) (sym there) ∙ told)
      where
        go : (test : Bool) → is_layout limits words ≡ test → Some (view layout) ≡ (if test then Some words else None)
            → (is_layout limits words ≡ true) × (view layout ≡ words)
        go true passed same = (passed, cc)
        go false refused same = let zero_one : ◌≡◌ {A = ℕ} 0 1 = cc in absurd (omega arith)

    pub layout-nowhere : found ≡ None → is_layout limits words ≡ false
    unfolding layout_words
    layout-nowhere nowhere = go (is_layout limits words) refl (ap (option_map view) (sym nowhere) ∙ told)
      where
        go : (test : Bool) → is_layout limits words ≡ test → None ≡ (if test then Some words else None) → is_layout limits words ≡ false
        go true passed same = let zero_one : ◌≡◌ {A = ℕ} 0 1 = cc in absurd (omega arith)
        go false refused same = refused

    -- where a refusal takes the place of no layout
    module _ {E : Type 0} (refusal : E) where
      pub layout-taken : (layout : X) → ok_or found refusal ≡ Ok layout → (is_layout limits words ≡ true) × (view layout ≡ words)
      layout-taken layout taken = go found refl taken
        where
          go : (answer : Option X) → found ≡ answer → ok_or answer refusal ≡ Ok layout → (is_layout limits words ≡ true) × (view layout ≡ words)
          go (Some other) there same = layout-found layout (there ∙ ap Some cc)
          go None nowhere same = let zero_one : ◌≡◌ {A = ℕ} 0 1 = cc in absurd (omega arith)

      pub layout-refused : (error : E) → ok_or found refusal ≡ Err error → (is_layout limits words ≡ false) × (error ≡ refusal)
      layout-refused error refused = go found refl refused
        where
          go : (answer : Option X) → found ≡ answer → ok_or answer refusal ≡ Err error → (is_layout limits words ≡ false) × (error ≡ refusal)
          go (Some other) there same = let zero_one : ◌≡◌ {A = ℕ} 0 1 = cc in absurd (omega arith)
          go None nowhere same = (layout-nowhere nowhere, cc)

-- all words before the members are there
pub layout_heads : (words : List ℕ) → is_layout gate_limits words ≡ true → first_member (group_count words) ≤ length words
layout_heads words holds = (is_layout-passed gate_limits words holds).heads

-- ---- each level, each group, by its number

levels_at : (words : List ℕ) (count place other number : ℕ) → levels_hold (stretches words place count) (stretches words other count) ≡ true
    → number < count → is_level (stretch words (place + number)) (stretch words (other + number)) ≡ true
unfolding stretches levels_hold
levels_at words zero place other number hold inside = absurd (omega arith)
levels_at words (suc count) place other zero hold inside =
    let here : place + 0 ≡ place = omega arith in
    let there : other + 0 ≡ other = omega arith in
    rw (here, there) (and_left (is_level (stretch words place) (stretch words other)) _ hold)
levels_at words (suc count) place other (suc number) hold inside =
    let here : place + suc number ≡ place + 1 + number = omega arith in
    let there : other + suc number ≡ other + 1 + number = omega arith in
    rw (here, there) (levels_at words count (place + 1) (other + 1) number (and_right (is_level (stretch words place) (stretch words other)) _ hold) (omega arith))

delimiters-at : (words : List ℕ) (count place : ℕ) (delimiters : List ℕ) (number : ℕ) → delimiters_hold (stretches words place count) delimiters ≡ true
    → number < count → number < length delimiters → get_or delimiters number 0 ∈ᵇ stretch words (place + number) ≡ true
unfolding stretches delimiters_hold
delimiters-at words zero place delimiters number hold inside within = absurd (omega arith)
delimiters-at words (suc count) place [] number hold inside within = absurd (omega arith)
delimiters-at words (suc count) place (delimiter ∷ rest) zero hold inside within =
    let here : place + 0 ≡ place = omega arith in
    rw here (and_left (delimiter ∈ᵇ stretch words place) _ hold)
delimiters-at words (suc count) place (delimiter ∷ rest) (suc number) hold inside within =
    let here : place + suc number ≡ place + 1 + number = omega arith in
    rw here (delimiters-at words count (place + 1) rest number (and_right (delimiter ∈ᵇ stretch words place) _ hold) (omega arith) (omega arith))

ahead-at : (first : ℕ) (places : List ℕ) (number : ℕ) → is_ahead first places ≡ true → number < length places → first + number < get_or places number 0
unfolding is_ahead
ahead-at first [] number hold inside = absurd (omega arith)
ahead-at first (place ∷ rest) zero hold inside = omega (arith, ltb-true first place (and_left (ltb first place) _ hold))
ahead-at first (place ∷ rest) (suc number) hold inside = omega (arith, ahead-at (first + 1) rest number (and_right (ltb first place) _ hold) (omega arith))

flags-at : (flags : List ℕ) (number : ℕ) → every is_flag flags ≡ true → number < length flags → get_or flags number 0 ≤ 1
flags-at [] number hold inside = absurd (omega arith)
flags-at (flag ∷ rest) zero hold inside = leb-true flag 1 (and_left (leb flag 1) _ hold)
flags-at (flag ∷ rest) (suc number) hold inside = flags-at rest number (and_right (leb flag 1) _ hold) (omega arith)

module _ (limits : Limits) (words : List ℕ) (passed : Passed limits words) where
  same_word : (n m : ℕ) → n ≡ m → get_or words n 0 ≡ get_or words m 0
  same_word n m same = ap (λ (number : ℕ). get_or words number 0) same

  -- ---- levels

  pub members_inside : (number : ℕ) → number ≤ group_count words → StretchInside words (member_places + number)
  members_inside number level = member-stretches limits (group_count words) words passed.heads passed.members_hold passed.required_hold passed.groups_hold_lem number level

  pub required_inside : (number : ℕ) → number ≤ group_count words → StretchInside words (3 + group_count words + number)
  required_inside number level = required-stretches limits (group_count words) words passed.heads passed.members_hold passed.required_hold passed.groups_hold_lem number level

  pub count_tags-inside : (number : ℕ) → number ≤ group_count words → StretchInside words (group_places (group_count words) + number)
  count_tags-inside number level = count-tag_stretches limits (group_count words) words passed.heads passed.members_hold passed.required_hold passed.groups_hold_lem number level

  pub level_holds : (number : ℕ) → number ≤ group_count words → is_level (level_members words number) (level_count_tags words number) ≡ true
  unfolding all_levels_hold
  level_holds number level = levels_at words (group_count words + 1) member_places (group_places (group_count words)) number passed.levels_hold_lem (omega arith)

  pub members-ascending : (number : ℕ) → number ≤ group_count words → is_ascending (level_members words number) ≡ true
  unfolding is_level
  members-ascending number level =
      and_left _ (is_ascending (level_count_tags words number)) (and_left _ (are_among (level_members words number) (level_count_tags words number)) (level_holds number level))

  pub count_tags-ascending : (number : ℕ) → number ≤ group_count words → is_ascending (level_count_tags words number) ≡ true
  unfolding is_level
  count_tags-ascending number level =
      and_right (is_ascending (level_members words number)) _ (and_left _ (are_among (level_members words number) (level_count_tags words number)) (level_holds number level))

  pub count_tags-members : (number : ℕ) → number ≤ group_count words → are_among (level_members words number) (level_count_tags words number) ≡ true
  unfolding is_level
  count_tags-members number level = and_right (is_ascending (level_members words number) && is_ascending (level_count_tags words number)) _ (level_holds number level)

  -- ---- groups

  pub delimiter_member : (number : ℕ) → number < group_count words → delimiter_at words number ∈ᵇ level_members words (1 + number) ≡ true
  unfolding all_delimiters_hold
  delimiter_member number group =
      let delimiters = take (group_count words) (drop (first_delimiter (group_count words)) words) in
      let size : length delimiters ≡ group_count words = length_part words (first_delimiter (group_count words)) (group_count words) (omega (arith, passed.heads)) in
      let read : get_or delimiters number 0 ≡ delimiter_at words number = word_of_part words (first_delimiter (group_count words)) (group_count words) number group in
      let place : member_places + (1 + number) ≡ member_places + 1 + number = omega arith in
      rw (← read, place) (delimiters-at words (group_count words) (member_places + 1) delimiters number passed.delimiters_hold_lem group (omega (arith, size)))

  pub flag_small : (number : ℕ) → number < group_count words → flag_at words number ≤ 1
  flag_small number group =
      let flags = take (group_count words) (drop (first_flag (group_count words)) words) in
      let size : length flags ≡ group_count words = length_part words (first_flag (group_count words)) (group_count words) (omega (arith, passed.heads)) in
      let read : get_or flags number 0 ≡ flag_at words number = word_of_part words (first_flag (group_count words)) (group_count words) number group in
      omega (arith, read, flags-at flags number passed.flags_hold (omega (arith, size)))

  -- ---- the groups of a level: those from its first up to the first of the level behind it

  group-run : RunIn words (group_places (group_count words)) (group_count words + 1) (first_count_tag (group_count words))
  group-run = group-places limits (group_count words) words passed.heads passed.groups_hold_lem

  -- the place of a level's count tags, and the number of its first group
  pub groups-place : (number : ℕ) → number ≤ group_count words + 1 → get_or words (group_places (group_count words) + number) 0 ≡ first_count_tag (group_count words) + first_group words number
  groups-place number level =
      let begins = group-run.begins in
      let zeroth : get_or words (group_places (group_count words) + 0) 0 ≡ get_or words (group_places (group_count words)) 0 = same_word (group_places (group_count words) + 0) (group_places (group_count words)) (omega arith) in
      omega (arith, begins, zeroth, from_first number level)
    where
      from_first : (number : ℕ) → number ≤ group_count words + 1 → get_or words (group_places (group_count words) + 0) 0 ≤ get_or words (group_places (group_count words) + number) 0
      from_first zero level = omega arith
      from_first (suc number) level =
          let next : get_or words (group_places (group_count words) + number + 1) 0 ≡ get_or words (group_places (group_count words) + suc number) 0 = same_word (group_places (group_count words) + number + 1) (group_places (group_count words) + suc number) (omega arith) in
          omega (arith, next, from_first number (omega arith), group-run.rises number (omega arith))

  pub first_group-first : first_group words 0 ≡ 0
  first_group-first =
      let zeroth : get_or words (group_places (group_count words) + 0) 0 ≡ get_or words (group_places (group_count words)) 0 = same_word (group_places (group_count words) + 0) (group_places (group_count words)) (omega arith) in
      omega (arith, zeroth, group-run.begins)

  pub first_group-last : first_group words (group_count words + 1) ≡ group_count words
  first_group-last =
      let last : get_or words (group_places (group_count words) + (group_count words + 1)) 0 ≡ get_or words (6 + 3 * group_count words) 0 = same_word (group_places (group_count words) + (group_count words + 1)) (6 + 3 * group_count words) (omega arith) in
      omega (arith, last, groups-end limits (group_count words) words passed.heads passed.groups_hold_lem)

  pub first_group-rises : (number : ℕ) → number ≤ group_count words → first_group words number ≤ first_group words (number + 1)
  first_group-rises number level =
      let next : get_or words (group_places (group_count words) + number + 1) 0 ≡ get_or words (group_places (group_count words) + (number + 1)) 0 = same_word (group_places (group_count words) + number + 1) (group_places (group_count words) + (number + 1)) (omega arith) in
      omega (arith, next, group-run.rises number (omega arith))

  pub first_group-within : (number : ℕ) → number ≤ group_count words + 1 → first_group words number ≤ group_count words
  first_group-within number level =
      omega (arith, group-run.reaches number level, first_group-last, groups-place number level, groups-place (group_count words + 1) (omega arith))

  -- the groups of the levels up to this one are more than its number: the next level is the entry of one of them
  pub first_group-ahead : (number : ℕ) → number < group_count words → number < first_group words (number + 1)
  first_group-ahead number group =
      let places = take (group_count words) (drop (6 + 2 * group_count words) words) in
      let size : length places ≡ group_count words = length_part words (6 + 2 * group_count words) (group_count words) (omega (arith, passed.heads)) in
      let read : get_or places number 0 ≡ get_or words (6 + 2 * group_count words + number) 0 = word_of_part words (6 + 2 * group_count words) (group_count words) number group in
      let same : get_or words (6 + 2 * group_count words + number) 0 ≡ get_or words (group_places (group_count words) + (number + 1)) 0 = same_word (6 + 2 * group_count words + number) (group_places (group_count words) + (number + 1)) (omega arith) in
      omega (arith, read, same, ahead-at (first_count_tag (group_count words)) places number (groups-ahead limits (group_count words) words passed.heads passed.groups_hold_lem) (omega (arith, size)))

  -- a group's entry level, `group + 1`, stands behind the level that the group stands in
  pub entry-behind : (number : ℕ) → number ≤ group_count words → number ≤ first_group words number
  entry-behind zero level = omega arith
  entry-behind (suc number) level =
      let same : first_group words (number + 1) ≡ first_group words (suc number) = ap (first_group words) (omega arith) in
      omega (arith, same, first_group-ahead number (omega arith))

-- the place of a level's count tags is not before the first of them all
pub layout_first_group : (words : List ℕ) → is_layout gate_limits words ≡ true → (number : ℕ) → number ≤ group_count words
    → first_count_tag (group_count words) ≤ get_or words (group_places (group_count words) + number) 0
layout_first_group words holds number level =
    omega (arith, groups-place gate_limits words (is_layout-passed gate_limits words holds) number (omega arith))
