-- Laws of `LayoutCheck.antt`, in its order, and the loops of the check, turn by turn. Assumes nothing.
use Rattle.std.proofs.Math.Path.{◌≡◌, refl, sym, ap}
use Rattle.std.proofs.Common.{◌∙◌, length-drop, length-take-le, get_or-take, get_or-drop}
use Prim.Native.Nat.{ℕ, zero, suc, ◌+◌, ◌*◌, ◌-◌, ◌≤◌, ◌<◌}
use Rattle.std.specs.Prelude.{Bool, true, ◌&&◌, ◌||◌, take, if◌then◌else◌, Some, MatchBool}
use Rattle.std.specs.Ordering.{is_some_and, nat_cmp, is_le}
use Rattle.std.specs.List.{list_any, IsAllAdjacentAnswer}
use Rattle.std.specs.List.Sorted.{IsNonDecreasing}
use Rattle.std.proofs.lemmas.List.Sorted.{non_decreasing_from_is_sorted}
use Rattle.std.proofs.Math.Bool.{false}
use Rattle.std.proofs.lemmas.Bool.{false≢true}
use mathlib.Core.List.{List, [], ◌∷◌}
use native.Mathlib.Omega.{arith}
use Rattle.std.proofs.Math.Numerals.{add-one}
use Rattle.std.proofs.Math.ListN.{length, get_or, drop, drop_of_length-le}
use Rattle.std.proofs.Math.Dec.{eqb, leb}
use borrow.Author.Tests.{le-leb, lt-leb, leb-true, lt-ltb, le-ltb, eq-eqb, ne_eqb, eqb-true}
use Rattle.ascii.specs.NotationLaws.{and_left, and_right, and_both}
use Rattle.ascii.specs.BytesLaws.{drop-step}
use Rattle.ascending.specs.Sort.{is_in}
use Rattle.layouts.specs.Limits.{Limits}
use Rattle.layouts.specs.LayoutRules.{◌∈ᵇ◌}
use Rattle.layouts.specs.LayoutRulesLaws.{met_among, met_among-level}
use Rattle.layouts.specs.LayoutWords.{stretch, stretches, first_member, first_count_tag, first_delimiter, group_places}
use Rattle.layouts.specs.LayoutWordsLaws.{StretchInside, stretches-next}
use Rattle.layouts.specs.LayoutCheck.{never_falls, is_run, is_ahead, member_places_hold, required_places_hold, group_places_hold, is_level, levels_hold, delimiters_hold, all_levels_hold, all_delimiters_hold}

-- ---- is_run, and the answer of the library's `is_sorted` at words

pub is_run-none : (first : ℕ) (places : List ℕ) → length places < 1 → is_run first places ≡ false
unfolding is_run
is_run-none first [] none = refl
is_run-none first (place ∷ rest) none = absurd (omega arith)

pub is_run-other : (first : ℕ) (places : List ℕ) → (get_or places 0 0 ≡ first → ⊥) → eqb (get_or places 0 0) first ≡ is_run first places
unfolding is_run
is_run-other first [] other = ne_eqb 0 first other
is_run-other first (place ∷ rest) other = rw (ne_eqb place first other)

never_falls-rises : (place : ℕ) (rest : List ℕ) → never_falls place rest ≡ true → (number : ℕ) → number < length rest → get_or (place ∷ rest) number 0 ≤ get_or rest number 0
unfolding never_falls
never_falls-rises place [] holds number inside = absurd (omega arith)
never_falls-rises place (next ∷ rest) holds zero inside = leb-true place next (and_left (leb place next) _ holds)
never_falls-rises place (next ∷ rest) holds (suc number) inside = never_falls-rises next rest (and_right (leb place next) _ holds) number (omega arith)

rises-never_falls : (place : ℕ) (rest : List ℕ) → ((number : ℕ) → number < length rest → get_or (place ∷ rest) number 0 ≤ get_or rest number 0) → never_falls place rest ≡ true
unfolding never_falls
rises-never_falls place [] rises = refl
rises-never_falls place (next ∷ rest) rises =
    and_both
    (leb place next)
    (never_falls next rest)
    (le-leb place next (rises 0 (omega arith)))
    (rises-never_falls next rest (λ number inside. rises (suc number) (omega arith)))

abbrev IsSortedAnswer : List ℕ → Bool → Type 0
IsSortedAnswer places answer = MatchBool answer (IsNonDecreasing places) ((number : ℕ) × (number + 1 < length places) × ((other : ℕ) → get_or places (number + 1) other < get_or places number other))

never_falls-answer : (place : ℕ) (rest : List ℕ) (answer : Bool) → IsSortedAnswer (place ∷ rest) answer → answer ≡ never_falls place rest
never_falls-answer place rest true sorted =
    sym (rises-never_falls place rest (λ number inside. rw add-one at (sorted number (number + 1) 0 (omega arith) (omega arith))))
never_falls-answer place rest false falls = go (never_falls place rest) refl
  where
    go : (answer : Bool) → never_falls place rest ≡ answer → false ≡ answer
    go true never =
        let rises = never_falls-rises place rest never falls.0 (omega (arith, falls.1)) in
        let below : get_or rest falls.0 0 < get_or (place ∷ rest) falls.0 0 = rw add-one at (falls.2 0) in
        absurd (omega (arith, rises, below))
    go false never = refl

pub is_run-sorted : (first : ℕ) (places : List ℕ) (answer : Bool)
    → 1 ≤ length places
    → get_or places 0 0 ≡ first
    → IsAllAdjacentAnswer (λ place next ordered. is_some_and is_le (Some (nat_cmp place next)) ≡ ordered) places answer
    → answer ≡ is_run first places
unfolding is_run
is_run-sorted first [] answer some_place same sorted = absurd (omega arith)
is_run-sorted first (place ∷ rest) answer some_place same sorted =
    rw (eq-eqb place first same) (never_falls-answer place rest answer (non_decreasing_from_is_sorted (place ∷ rest) answer sorted))

-- ---- is_ahead: the places before `index` are ahead, and `passed` is the number that the next one must be greater than

pub record AheadSoFar (number : ℕ) (places : List ℕ) (index passed : ℕ) : Type 0 where
  pub within : index ≤ length places
  pub ahead : is_ahead number places ≡ is_ahead passed (drop index places)

pub ahead-begins : (number : ℕ) (places : List ℕ) → AheadSoFar number places 0 number
ahead-begins number places = record { within = omega arith; ahead = refl }

module _ (number : ℕ) (places : List ℕ) (index passed : ℕ) (so_far : AheadSoFar number places index passed) where
  pub ahead-ends : length places ≤ index → is_ahead number places ≡ true
  unfolding is_ahead
  ahead-ends over = so_far.ahead ∙ rw (drop_of_length-le places over)

  module _ (inside : index < length places) (place : ℕ) (read : place ≡ get_or places index 0) where
    pub ahead-fails : place ≤ passed → is_ahead number places ≡ false
    unfolding is_ahead
    ahead-fails behind = so_far.ahead ∙ rw (drop-step places index inside, ← read, le-ltb passed place behind)

    pub ahead-goes_on : passed < place → AheadSoFar number places (index + 1) (passed + 1)
    unfolding is_ahead
    ahead-goes_on beyond = record {
      within = omega arith;
      ahead = so_far.ahead ∙ rw (drop-step places index inside, ← read, lt-ltb passed place beyond);
    }

-- ---- is_level: the members before `index` ascend and are below `least`, the count tags before `met` were met among them

pub record LevelSoFar (members tags : List ℕ) (index least met : ℕ) : Type 0 where
  pub within : index ≤ length members
  pub met_within : met ≤ length tags
  pub passed : is_level members tags ≡ met_among least (drop index members) (drop met tags)

pub level-begins : (members tags : List ℕ) → LevelSoFar members tags 0 0 0
unfolding is_level
level-begins members tags = record { within = omega arith; met_within = omega arith; passed = sym (met_among-level members tags) }

met_among-low : (least member : ℕ) (rest tags : List ℕ) → member < least → met_among least (member ∷ rest) tags ≡ false
unfolding met_among
met_among-low least member rest [] low = rw (lt-leb least member low)
met_among-low least member rest (tag ∷ tags) low = rw (lt-leb least member low)

module _ (members tags : List ℕ) (index least met : ℕ) (so_far : LevelSoFar members tags index least met) where
  module _ (over : length members ≤ index) where
    all-passed : is_level members tags ≡ met_among least [] (drop met tags)
    all-passed = so_far.passed ∙ rw (drop_of_length-le members over)

    pub level-ends : (eqb met (length tags)) ≡ is_level members tags
    unfolding met_among
    level-ends = go (drop met tags) refl ∙ sym all-passed
      where
        go : (rest : List ℕ) → drop met tags ≡ rest → eqb met (length tags) ≡ met_among least [] (drop met tags)
        go [] rest = rw (rest, eq-eqb met (length tags) (omega (arith, so_far.met_within, ends met tags rest)))
          where
            ends : (met : ℕ) (tags : List ℕ) → drop met tags ≡ [] → length tags ≤ met
            ends zero [] none = omega arith
            ends zero (tag ∷ tags) none = let never : ◌≡◌ {A = ℕ} 0 (suc (length tags)) = ap length (sym none) in absurd (omega arith)
            ends (suc met) [] none = omega arith
            ends (suc met) (tag ∷ tags) none = omega (arith, ends met tags none)
        go (tag ∷ others) rest = rw (rest, ne_eqb met (length tags) (λ (same : met ≡ length tags). never same))
          where
            never : met ≡ length tags → ⊥
            never same =
                let none : drop met tags ≡ [] = drop_of_length-le tags {i = met} (omega arith) in
                let some_left : ◌≡◌ {A = ℕ} 0 (suc (length others)) = ap length (sym none ∙ rest) in
                omega arith

  module _ (inside : index < length members) (member : ℕ) (read : member ≡ get_or members index 0) where
    at-member : is_level members tags ≡ met_among least (member ∷ drop (index + 1) members) (drop met tags)
    at-member = so_far.passed ∙ rw (drop-step members index inside, ← read)

    pub level-falls : member < least → is_level members tags ≡ false
    level-falls low = at-member ∙ met_among-low least member (drop (index + 1) members) (drop met tags) low

    module _ (above : least ≤ member) where
      pub level-over : length tags ≤ met → LevelSoFar members tags (index + 1) (member + 1) met
      unfolding met_among
      level-over over = record {
        within = omega arith;
        met_within = so_far.met_within;
        passed = at-member ∙ rw (drop_of_length-le tags over, le-leb least member above, add-one member);
      }

      module _ (some_left : met < length tags) (tag : ℕ) (tag_read : tag ≡ get_or tags met 0) where
        at_tag : is_level members tags ≡ (if eqb tag member then met_among (suc member) (drop (index + 1) members) (drop (met + 1) tags) else met_among (suc member) (drop (index + 1) members) (tag ∷ drop (met + 1) tags))
        unfolding met_among
        at_tag = at-member ∙ rw (drop-step tags met some_left, ← tag_read, le-leb least member above)

        pub level-meets : tag ≡ member → LevelSoFar members tags (index + 1) (member + 1) (met + 1)
        level-meets same = record {
          within = omega arith;
          met_within = omega arith;
          passed = at_tag ∙ rw (eq-eqb tag member same, add-one member);
        }

        pub level-passes : (tag ≡ member → ⊥) → LevelSoFar members tags (index + 1) (member + 1) met
        level-passes other = record {
          within = omega arith;
          met_within = so_far.met_within;
          passed = at_tag ∙ rw (ne_eqb tag member other, drop-step tags met some_left, ← tag_read, add-one member);
        }

-- ---- _∈ᵇ_ as the library's test

pub is_in-any : (tag : ℕ) (members : List ℕ) → list_any (λ member. eqb member tag) members ≡ tag ∈ᵇ members
unfolding is_in
is_in-any tag [] = refl
is_in-any tag (member ∷ rest) = ap (λ (others : Bool). eqb member tag || others) (is_in-any tag rest)

-- ---- the places of every level

-- the words hold the stretches of members and of count tags of every level
pub record PlacesInside (groups : ℕ) (words : List ℕ) : Type 0 where
  pub few : groups < 4294967296
  pub heads : first_member groups ≤ length words
  pub members : (number : ℕ) → number ≤ groups → StretchInside words (1 + number)
  pub count_tags : (number : ℕ) → number ≤ groups → StretchInside words (group_places groups + number)

-- the members of the entry level of a group
pub entry-stretch : (groups : ℕ) (words : List ℕ) → PlacesInside groups words → (number : ℕ) → number < groups → StretchInside words (2 + number)
entry-stretch groups words inside number below = let same : 1 + (number + 1) ≡ 2 + number = omega arith in rw same at (inside.members (number + 1) (omega arith))

-- ---- all_levels_hold: the levels before `number` meet the rules

pub record LevelsSoFar (groups : ℕ) (words : List ℕ) (number : ℕ) : Type 0 where
  pub within : number ≤ groups + 1
  pub passed : all_levels_hold groups words ≡ levels_hold (stretches words (1 + number) (groups + 1 - number)) (stretches words (5 + 2 * groups + number) (groups + 1 - number))

pub levels_begin : (groups : ℕ) (words : List ℕ) → LevelsSoFar groups words 0
unfolding all_levels_hold
levels_begin groups words =
    let all : groups + 1 - 0 ≡ groups + 1 = omega arith in
    let first : 5 + 2 * groups + 0 ≡ 5 + 2 * groups = omega arith in
    record { within = omega arith; passed = rw (all, first) }

module _ (groups : ℕ) (words : List ℕ) (number : ℕ) (so_far : LevelsSoFar groups words number) where
  pub levels_end : groups + 1 ≤ number → all_levels_hold groups words ≡ true
  unfolding stretches levels_hold
  levels_end over = let none : groups + 1 - number ≡ 0 = omega arith in so_far.passed ∙ rw none

  module _
      (inside : number < groups + 1)
      (members tags : List ℕ)
      (read : members ≡ stretch words (1 + number))
      (tags-read : tags ≡ stretch words (5 + 2 * groups + number))
    where
      at_level : all_levels_hold groups words
          ≡ is_level members tags && levels_hold (stretches words (1 + (number + 1)) (groups + 1 - (number + 1))) (stretches words (5 + 2 * groups + (number + 1)) (groups + 1 - (number + 1)))
      unfolding levels_hold
      at_level =
          let some : groups + 1 - number ≡ suc (groups + 1 - (number + 1)) = omega arith in
          so_far.passed
          ∙ rw
          (stretches-next words (1 + number) (1 + (number + 1)) (groups + 1 - number) (groups + 1 - (number + 1)) some (omega arith), stretches-next words (5 + 2 * groups + number) (5 + 2 * groups + (number + 1)) (groups + 1 - number) (groups + 1 - (number + 1)) some (omega arith), ← read, ← tags-read)

      pub levels_fail : is_level members tags ≡ false → all_levels_hold groups words ≡ false
      levels_fail fails = at_level ∙ rw fails

      pub levels_go_on : is_level members tags ≡ true → LevelsSoFar groups words (number + 1)
      levels_go_on holds = record { within = omega arith; passed = at_level ∙ rw holds }

-- ---- all_delimiters_hold: the delimiters of the groups before `number` are members of their entry levels

pub record DelimitersSoFar (groups : ℕ) (words : List ℕ) (number : ℕ) : Type 0 where
  pub within : number ≤ groups
  pub passed : all_delimiters_hold groups words ≡ delimiters_hold (stretches words (2 + number) (groups - number)) (take (groups - number) (drop (7 + 4 * groups + number) words))

pub delimiters-begin : (groups : ℕ) (words : List ℕ) → DelimitersSoFar groups words 0
unfolding all_delimiters_hold
delimiters-begin groups words =
    let all : groups - 0 ≡ groups = omega arith in
    let first : 7 + 4 * groups + 0 ≡ 7 + 4 * groups = omega arith in
    record { within = omega arith; passed = rw (all, first) }

module _ (groups : ℕ) (words : List ℕ) (number : ℕ) (so_far : DelimitersSoFar groups words number) where
  pub delimiters-end : groups ≤ number → all_delimiters_hold groups words ≡ true
  unfolding stretches delimiters_hold
  delimiters-end over = let none : groups - number ≡ 0 = omega arith in so_far.passed ∙ rw none

  module _
      (inside : number < groups)
      (heads : first_member groups ≤ length words)
      (members : List ℕ)
      (read : members ≡ stretch words (2 + number))
      (delimiter : ℕ)
      (delimiter-read : delimiter ≡ get_or words (7 + 4 * groups + number) 0)
    where
      at-delimiter : all_delimiters_hold groups words
          ≡ (delimiter ∈ᵇ members) && delimiters_hold (stretches words (2 + (number + 1)) (groups - (number + 1))) (take (groups - (number + 1)) (drop (7 + 4 * groups + (number + 1)) words))
      unfolding delimiters_hold
      at-delimiter =
          let some : groups - number ≡ suc (groups - (number + 1)) = omega arith in
          let next : 7 + 4 * groups + number + 1 ≡ 7 + 4 * groups + (number + 1) = omega arith in
          let behind : drop (7 + 4 * groups + number) words ≡ delimiter ∷ drop (7 + 4 * groups + (number + 1)) words = drop-step words (7 + 4 * groups + number) (omega arith) ∙ rw (next, delimiter-read) in
          so_far.passed
          ∙ rw
          (stretches-next words (2 + number) (2 + (number + 1)) (groups - number) (groups - (number + 1)) some (omega arith), behind, some, ← read)

      pub delimiters-fail : delimiter ∈ᵇ members ≡ false → all_delimiters_hold groups words ≡ false
      delimiters-fail fails = at-delimiter ∙ rw fails

      pub delimiters-go_on : delimiter ∈ᵇ members ≡ true → DelimitersSoFar groups words (number + 1)
      delimiters-go_on holds = record { within = omega arith; passed = at-delimiter ∙ rw holds }

-- ---- the three rows of places

-- what a row of `count + 1` places says, from `column` on
pub record RunIn (words : List ℕ) (column count first : ℕ) : Type 0 where
  pub begins : get_or words column 0 ≡ first
  pub rises : (number : ℕ) → number < count → get_or words (column + number) 0 ≤ get_or words (column + number + 1) 0
  pub reaches : (number : ℕ) → number ≤ count → get_or words (column + number) 0 ≤ get_or words (column + count) 0

never_falls-reaches : (place : ℕ) (rest : List ℕ) → never_falls place rest ≡ true → (number : ℕ) → number ≤ length rest → get_or (place ∷ rest) number 0 ≤ get_or (place ∷ rest) (length rest) 0
unfolding never_falls
never_falls-reaches place [] holds zero inside = omega arith
never_falls-reaches place [] holds (suc number) inside = absurd (omega arith)
never_falls-reaches place (next ∷ rest) holds zero inside =
    omega (arith, leb-true place next (and_left (leb place next) _ holds), never_falls-reaches next rest (and_right (leb place next) _ holds) 0 (omega arith))
never_falls-reaches place (next ∷ rest) holds (suc number) inside = never_falls-reaches next rest (and_right (leb place next) _ holds) number (omega arith)

-- a word of a part
pub word_of_part : (words : List ℕ) (from count number : ℕ) → number < count → get_or (take count (drop from words)) number 0 ≡ get_or words (from + number) 0
word_of_part words from count number inside = get_or-take count (drop from words) number 0 inside ∙ get_or-drop from words number 0

pub length_part : (words : List ℕ) (from count : ℕ) → from + count ≤ length words → length (take count (drop from words)) ≡ count
length_part words from count inside = length-take-le count (drop from words) (omega (arith, length-drop from words))

pub run_in : (words : List ℕ) (column count size first : ℕ) → size ≡ count + 1 → column + size ≤ length words → is_run first (take size (drop column words)) ≡ true → RunIn words column count first
unfolding is_run
run_in words column count size first one_more inside run = go (take size (drop column words)) refl run
  where
    go : (places : List ℕ) → take size (drop column words) ≡ places → is_run first places ≡ true → RunIn words column count first
    go [] part holds = absurd (false≢true holds)
    go (place ∷ rest) part holds = record {
      begins = ap (λ (n : ℕ). get_or words n 0) (omega arith) ∙ sym (at 0 (omega arith)) ∙ eqb-true place first (and_left (eqb place first) _ holds);
      rises = λ number below.
          let this = at number (omega arith) in
          let next = at (suc number) (omega arith) in
          let same : get_or words (column + number + 1) 0 ≡ get_or words (column + suc number) 0 = ap (λ (n : ℕ). get_or words n 0) (omega arith) in
          omega (arith, this, next, same, never_falls-rises place rest never number (omega (arith, sized)));
      reaches = λ number below.
          let this = at number (omega arith) in
          let end = at count (omega arith) in
          let last : length rest ≡ count = omega (arith, sized) in
          let same : get_or (place ∷ rest) (length rest) 0 ≡ get_or (place ∷ rest) count 0 = rw last in
          omega (arith, this, end, same, never_falls-reaches place rest never number (omega (arith, sized)));
    }
      where
        never : never_falls place rest ≡ true
        never = and_right (eqb place first) _ holds

        sized : suc (length rest) ≡ size
        sized = sym (ap length part) ∙ length_part words column size inside

        at : (number : ℕ) → number < size → get_or (place ∷ rest) number 0 ≡ get_or words (column + number) 0
        at number below = sym (ap (λ (places : List ℕ). get_or places number 0) part) ∙ word_of_part words column size number below

module _ (limits : Limits) (groups : ℕ) (words : List ℕ) (heads : first_member groups ≤ length words) where
  at_same : (n m : ℕ) → n ≡ m → get_or words n 0 ≡ get_or words m 0
  at_same n m same = ap (λ (number : ℕ). get_or words number 0) same

  -- what the three tests of places say
  module _ (members_hold : member_places_hold limits groups words ≡ true) where
    pub member-places : RunIn words 1 (groups + 1) (first_member groups)
    unfolding member_places_hold
    member-places =
        run_in
        words
        1
        (groups + 1)
        (groups + 2)
        (first_member groups)
        (omega arith)
        (omega arith)
        (and_left _ (leb (get_or words (groups + 2) 0) (first_member groups + limits.members)) members_hold)

    pub members-few : get_or words (groups + 2) 0 ≤ first_member groups + limits.members
    unfolding member_places_hold
    members-few = leb-true _ _ (and_right (is_run (first_member groups) (take (groups + 2) (drop 1 words))) _ members_hold)

  module _ (required_hold : required_places_hold limits groups words ≡ true) where
    pub required-places : RunIn words (3 + groups) (groups + 1) (get_or words (groups + 2) 0)
    unfolding required_places_hold
    required-places =
        run_in
        words
        (3 + groups)
        (groups + 1)
        (groups + 2)
        (get_or words (groups + 2) 0)
        (omega arith)
        (omega arith)
        (and_left
        _
        (leb (get_or words (4 + 2 * groups) 0) (get_or words (groups + 2) 0 + limits.required))
        (and_left _ (leb (get_or words (4 + 2 * groups) 0) (length words)) required_hold))

    pub required-few : get_or words (4 + 2 * groups) 0 ≤ get_or words (groups + 2) 0 + limits.required
    unfolding required_places_hold
    required-few =
        leb-true _ _ (and_right (is_run (get_or words (groups + 2) 0) (take (groups + 2) (drop (3 + groups) words))) _ (and_left _ (leb (get_or words (4 + 2 * groups) 0) (length words)) required_hold))

    pub all-inside : get_or words (4 + 2 * groups) 0 ≤ length words
    unfolding required_places_hold
    all-inside =
        leb-true
        _
        _
        (and_right
        (is_run (get_or words (groups + 2) 0) (take (groups + 2) (drop (3 + groups) words)) && leb (get_or words (4 + 2 * groups) 0) (get_or words (groups + 2) 0 + limits.required))
        _
        required_hold)

  module _ (groups_hold_lem : group_places_hold groups words ≡ true) where
    pub group-places : RunIn words (5 + 2 * groups) (groups + 1) (first_count_tag groups)
    unfolding group_places_hold
    group-places =
        run_in
        words
        (5 + 2 * groups)
        (groups + 1)
        (groups + 2)
        (first_count_tag groups)
        (omega arith)
        (omega arith)
        (and_left
        _
        (eqb (get_or words (6 + 3 * groups) 0) (first_delimiter groups))
        (and_left _ (is_ahead (first_count_tag groups) (take groups (drop (6 + 2 * groups) words))) groups_hold_lem))

    pub groups-end : get_or words (6 + 3 * groups) 0 ≡ first_delimiter groups
    unfolding group_places_hold
    groups-end =
        eqb-true _ _ (and_right (is_run (first_count_tag groups) (take (groups + 2) (drop (5 + 2 * groups) words))) _ (and_left _ (is_ahead (first_count_tag groups) (take groups (drop (6 + 2 * groups) words))) groups_hold_lem))

    pub groups-ahead : is_ahead (first_count_tag groups) (take groups (drop (6 + 2 * groups) words)) ≡ true
    unfolding group_places_hold
    groups-ahead =
        and_right
        (is_run (first_count_tag groups) (take (groups + 2) (drop (5 + 2 * groups) words)) && eqb (get_or words (6 + 3 * groups) 0) (first_delimiter groups))
        _
        groups_hold_lem

  -- the stretches of every level lie in the words
  module _
      (members_hold : member_places_hold limits groups words ≡ true)
      (required_hold : required_places_hold limits groups words ≡ true)
      (groups_hold_lem : group_places_hold groups words ≡ true)
    where
      members-end_inside : get_or words (1 + (groups + 1)) 0 ≤ length words
      members-end_inside =
          let run = required-places required_hold in
          let first : get_or words (1 + (groups + 1)) 0 ≡ get_or words (groups + 2) 0 = at_same (1 + (groups + 1)) (groups + 2) (omega arith) in
          let second : get_or words (3 + groups + 0) 0 ≡ get_or words (3 + groups) 0 = at_same (3 + groups + 0) (3 + groups) (omega arith) in
          let end : get_or words (3 + groups + (groups + 1)) 0 ≡ get_or words (4 + 2 * groups) 0 = at_same (3 + groups + (groups + 1)) (4 + 2 * groups) (omega arith) in
          omega (arith, first, second, end, run.begins, run.reaches 0 (omega arith), all-inside required_hold)

      pub member-stretches : (number : ℕ) → number ≤ groups → StretchInside words (1 + number)
      member-stretches number inside =
          let run = member-places members_hold in
          let same : get_or words (1 + number + 1) 0 ≡ get_or words (1 + (number + 1)) 0 = at_same (1 + number + 1) (1 + (number + 1)) (omega arith) in
          record {
            places = omega arith;
            rises = run.rises number (omega arith);
            within = omega (arith, same, run.reaches (number + 1) (omega arith), members-end_inside);
          }

      pub required-stretches : (number : ℕ) → number ≤ groups → StretchInside words (3 + groups + number)
      required-stretches number inside =
          let run = required-places required_hold in
          let same : get_or words (3 + groups + number + 1) 0 ≡ get_or words (3 + groups + (number + 1)) 0 = at_same (3 + groups + number + 1) (3 + groups + (number + 1)) (omega arith) in
          let end : get_or words (3 + groups + (groups + 1)) 0 ≡ get_or words (4 + 2 * groups) 0 = at_same (3 + groups + (groups + 1)) (4 + 2 * groups) (omega arith) in
          record {
            places = omega arith;
            rises = run.rises number (omega arith);
            within = omega (arith, same, end, run.reaches (number + 1) (omega arith), all-inside required_hold);
          }

      pub count-tag_stretches : (number : ℕ) → number ≤ groups → StretchInside words (5 + 2 * groups + number)
      count-tag_stretches number inside =
          let run = group-places groups_hold_lem in
          let same : get_or words (5 + 2 * groups + number + 1) 0 ≡ get_or words (5 + 2 * groups + (number + 1)) 0 = at_same (5 + 2 * groups + number + 1) (5 + 2 * groups + (number + 1)) (omega arith) in
          let end : get_or words (5 + 2 * groups + (groups + 1)) 0 ≡ get_or words (6 + 3 * groups) 0 = at_same (5 + 2 * groups + (groups + 1)) (6 + 3 * groups) (omega arith) in
          record {
            places = omega arith;
            rises = run.rises number (omega arith);
            within = omega (arith, same, end, run.reaches (number + 1) (omega arith), groups-end groups_hold_lem);
          }

      pub places_inside : groups < 4294967296 → PlacesInside groups words
      places_inside few = record { few = few; heads = heads; members = member-stretches; count_tags = count-tag_stretches }
