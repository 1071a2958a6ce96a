-- Words that pass the check begin with the arrangement of a layout that meets the seven rules and the limits: of `layout_in words`. Read from
-- the last group to the first, the groups of an entry are among those behind, and in the order of levels the groups come as they are numbered.
-- Assumes nothing.
use Rattle.std.specs.Prelude.{◌≡◌, true, leb, eqb, if◌then◌else◌}
use Rattle.std.proofs.Math.Path.{refl, sym, ap, ap₂}
use Rattle.std.proofs.Common.{◌∙◌, take-append-drop, take-take, drop-drop, take-add, le-leb}
use Prim.Native.Nat.{ℕ, zero, suc, ◌+◌, ◌*◌, ◌-◌, ◌≤◌, ◌<◌}
use mathlib.Core.List.{List, [], ◌∷◌, ◌++◌, map, append_assoc}
use native.Mathlib.Omega.{arith}
use Rattle.std.proofs.Math.ListN.{length, get_or, take, drop}
use Rattle.ascii.specs.NotationLaws.{and_both}
use Rattle.ascii.specs.BytesLaws.{drop-step, first-and_rest}
use Rattle.layouts.specs.Limits.{Limits}
use Rattle.layouts.specs.Layout.{Level, Group, Layout, members_of, required_of, groups_of, count_tag, delimiter, count_tags_of, entry, level_order, all_groups, all_levels, joined}
use Rattle.layouts.specs.LayoutLaws.{listed-grouped, group_total, group_total-first, groups_below-total}
use Rattle.layouts.specs.LayoutRules.{meets_rules, meets_limits}
use Rattle.layouts.specs.LayoutWords.{member_places, required_places, group_places, first_member, first_count_tag, first_delimiter, first_flag, flag, places_from, arranged_parts, arranged, group_count, stretch, stretches, first_group, flag_at, group_at, groups_from, layout_in}
use Rattle.layouts.specs.LayoutWordsLaws.{StretchInside, stretches-next, stretches-places, stretches-joined}
use Rattle.layouts.specs.LayoutCheck.{levels_hold, delimiters_hold, all_levels_hold, all_delimiters_hold, is_layout}
use Rattle.layouts.specs.LayoutCheckLaws.{RunIn, member-places, members-few, required-places, required-few, all-inside, group-places, groups-end, length_part}
use Rattle.layouts.specs.LayoutCheckFacts.{Passed, is_layout-passed, members_inside, required_inside, count_tags-inside, flag_small, groups-place, first_group-first, first_group-rises, first_group-within, first_group-ahead, entry-behind}
use Rattle.layouts.specs.LayoutCheckRules.{meets_rules-levels}

-- the words begin with the arrangement of a layout that meets the rules and the limits
pub record ArrangedIn (limits : Limits) (words : List ℕ) : Type 0 where
  pub layout : Layout
  pub behind : List ℕ
  pub begins : arranged layout ++ behind ≡ words
  pub rules : meets_rules layout ≡ true
  pub within : meets_limits limits layout ≡ true

-- ---- lists

part-of_part : (from count size : ℕ) (list : List ℕ) → from + count ≤ size → take count (drop from (take size list)) ≡ take count (drop from list)
part-of_part zero count size list inside = take-take count size list (omega arith)
part-of_part (suc from) count zero list inside = absurd (omega arith)
part-of_part (suc from) count (suc size) [] inside = refl
part-of_part (suc from) count (suc size) (first ∷ rest) inside = part-of_part from count size rest (omega arith)

map-take : {A B : Type 0} (f : A → B) (count : ℕ) (list : List A) → map f (take count list) ≡ take count (map f list)
map-take f zero list = refl
map-take f (suc count) [] = refl
map-take {B = B} f (suc count) (first ∷ rest) = ap {B = List B} (λ tail. f first ∷ tail) (map-take f count rest)

map-drop : {A B : Type 0} (f : A → B) (count : ℕ) (list : List A) → map f (drop count list) ≡ drop count (map f list)
map-drop f zero list = refl
map-drop f (suc count) [] = refl
map-drop f (suc count) (first ∷ rest) = map-drop f count rest

-- the words from one place on: so many, and then those from the next
peel : (words : List ℕ) (from count next : ℕ) → next ≡ from + count → take count (drop from words) ++ drop next words ≡ drop from words
peel words from count next follows =
    ap (λ (rest : List ℕ). take count (drop from words) ++ rest) (ap (λ (place : ℕ). drop place words) follows ∙ sym (drop-drop count from words))
    ∙ take-append-drop count (drop from words)

assemble : (a b c d e f g h behind a' b' c' d' e' f' g' h' : List ℕ)
    → a ++ b' ≡ a'
    → b ++ c' ≡ b'
    → c ++ d' ≡ c'
    → d ++ e' ≡ d'
    → e ++ f' ≡ e'
    → f ++ g' ≡ f'
    → g ++ h' ≡ g'
    → h ++ behind ≡ h'
    → (a ++ (b ++ (c ++ (d ++ (e ++ (f ++ (g ++ h))))))) ++ behind ≡ a'
assemble a b c d e f g h behind a' b' c' d' e' f' g' h' ea eb ec ed ee ef eg eh = simp append_assoc (rw (eh, eg, ef, ee, ed, ec, eb, ea))

module _ (words : List ℕ) where
  length-groups_from : (count number : ℕ) → length (groups_from words number count) ≡ count
  unfolding groups_from
  length-groups_from zero number = refl
  length-groups_from (suc count) number = ap suc (length-groups_from count (number + 1))

  -- what stands in a column of the words for each group
  module _
      (read : Group → ℕ)
      (first : ℕ)
      (reads : (number : ℕ) (later : List Group) → number < group_count words → read (group_at words number later) ≡ get_or words (first + number) 0)
      (inside : first + group_count words ≤ length words)
    where
      column : (count number : ℕ) → number + count ≡ group_count words → map read (groups_from words number count) ≡ take count (drop (first + number) words)
      unfolding groups_from
      column zero number all = refl
      column (suc count) number all =
          let later = groups_from words (number + 1) count in
          let next : first + number + 1 ≡ first + (number + 1) = omega arith in
          ap₂ {C = List ℕ} (λ one rest. one ∷ rest) (reads number later (omega arith)) (column count (number + 1) (omega arith))
          ∙ sym (ap (λ (rest : List ℕ). take (suc count) rest) (drop-step words (first + number) (omega arith) ∙ ap (λ (place : ℕ). get_or words (first + number) 0 ∷ drop place words) next))

  -- what the words say of the entry level of each group
  module _
      (read : Level → List ℕ)
      (place : ℕ)
      (reads : (number count : ℕ) → number + suc count ≡ group_count words → read (entry (group_at words number (groups_from words (number + 1) count))) ≡ stretch words (place + number))
    where
      entries : (count number : ℕ) → number + count ≡ group_count words → map read (map entry (groups_from words number count)) ≡ stretches words (place + number) count
      unfolding groups_from stretches
      entries zero number all = refl
      entries (suc count) number all =
          let next : place + (number + 1) ≡ place + number + 1 = omega arith in
          ap₂ {C = List (List ℕ)} (λ one rest. one ∷ rest) (reads number count all) (entries count (number + 1) (omega arith) ∙ ap (λ (from : ℕ). stretches words from count) next)

module _ (limits : Limits) (words : List ℕ) (passed : Passed limits words) where
  -- ---- the order of levels

  same_first_group : (n m : ℕ) → n ≡ m → first_group words n ≡ first_group words m
  same_first_group n m same = ap (first_group words) same

  module _ (number count : ℕ) (all : number + suc count ≡ group_count words) where
    ahead : number < first_group words (1 + number)
    ahead = omega (arith, same_first_group (number + 1) (1 + number) (omega arith), first_group-ahead limits words passed number (omega arith))

    rises : first_group words (1 + number) ≤ first_group words (2 + number)
    rises =
        omega
        (arith, same_first_group (number + 1) (1 + number) (omega arith), same_first_group (number + 1 + 1) (2 + number) (omega arith), first_group-rises limits words passed (number + 1) (omega arith))

    waiting-first : take (first_group words (1 + number) - number) (groups_from words number (suc count))
        ≡ group_at words number (groups_from words (number + 1) count) ∷ take (first_group words (1 + number) - (1 + number)) (groups_from words (number + 1) count)
    unfolding groups_from
    waiting-first = let one : first_group words (1 + number) - number ≡ suc (first_group words (1 + number) - (1 + number)) = omega (arith, ahead) in rw one

    waiting-others : take (first_group words (1 + number) - (1 + number)) (groups_from words (number + 1) count)
        ++ groups_of (entry (group_at words number (groups_from words (number + 1) count)))
        ≡ take (first_group words (1 + (number + 1)) - (number + 1)) (groups_from words (number + 1) count)
    waiting-others =
        let later = groups_from words (number + 1) count in
        let off = first_group words (1 + number) - (1 + number) in
        let own = first_group words (2 + number) - first_group words (1 + number) in
        let sum : off + own ≡ first_group words (1 + (number + 1)) - (number + 1) = omega (arith, ahead, rises, same_first_group (1 + (number + 1)) (2 + number) (omega arith)) in
        ap (λ (nested : List Group). take off later ++ nested) (listed-grouped (take own (drop off later)))
        ∙ sym (take-add off own later)
        ∙ ap (λ (many : ℕ). take many later) sum

  in_order : (count number : ℕ) → number + count ≡ group_count words
      → level_order count (take (first_group words (1 + number) - number) (groups_from words number count)) ≡ groups_from words number count
  unfolding level_order groups_from
  in_order zero number all = refl
  in_order (suc count) number all =
      let first = group_at words number (groups_from words (number + 1) count) in
      ap (level_order (suc count)) (waiting-first number count all)
      ∙ ap {B = List Group} (λ rest. first ∷ level_order count rest) (waiting-others number count all)
      ∙ ap {B = List Group} (λ rest. first ∷ rest) (in_order count (number + 1) (omega arith))

  all-below : (count number : ℕ) → number + count ≡ group_count words → group_total (take (first_group words (1 + number) - number) (groups_from words number count)) ≡ count
  unfolding group_total groups_from
  all-below zero number all = none (first_group words (1 + number) - number)
    where
      none : (many : ℕ) → group_total (take many []) ≡ 0
      none zero = refl
      none (suc many) = refl
  all-below (suc count) number all =
      let first = group_at words number (groups_from words (number + 1) count) in
      ap group_total (waiting-first number count all)
      ∙ group_total-first first (take (first_group words (1 + number) - (1 + number)) (groups_from words (number + 1) count))
      ∙ ap (λ (rest : List Group). suc (group_total rest)) (waiting-others number count all)
      ∙ ap suc (all-below count (number + 1) (omega arith))

  top-groups : groups_of (layout_in words) ≡ take (first_group words (1 + 0) - 0) (groups_from words 0 (group_count words))
  unfolding layout_in
  top-groups =
      let same : first_group words 1 - 0 ≡ first_group words 1 = omega arith in
      listed-grouped (take (first_group words 1) (groups_from words 0 (group_count words))) ∙ rw same

  pub all_groups-in : all_groups (layout_in words) ≡ groups_from words 0 (group_count words)
  unfolding all_groups
  all_groups-in =
      let all = all-below (group_count words) 0 (omega arith) in
      ap₂ level_order (groups_below-total (layout_in words) ∙ ap group_total top-groups ∙ all) top-groups ∙ in_order (group_count words) 0 (omega arith)

  -- ---- levels and columns

  delimiters-in : map delimiter (groups_from words 0 (group_count words)) ≡ take (group_count words) (drop (first_delimiter (group_count words)) words)
  delimiters-in =
      let same : first_delimiter (group_count words) + 0 ≡ first_delimiter (group_count words) = omega arith in
      column words delimiter (first_delimiter (group_count words)) (λ number later group. refl) (omega (arith, passed.heads)) (group_count words) 0 (omega arith) ∙ rw same

  flags-in : map flag (groups_from words 0 (group_count words)) ≡ take (group_count words) (drop (first_flag (group_count words)) words)
  flags-in =
      let same : first_flag (group_count words) + 0 ≡ first_flag (group_count words) = omega arith in
      column words flag (first_flag (group_count words)) (λ number later group. small (flag_at words number) (flag_small limits words passed number group)) (omega (arith, passed.heads)) (group_count words) 0 (omega arith)
      ∙ rw same
    where
      small : (word : ℕ) → word ≤ 1 → (if eqb word 1 then 1 else 0) ≡ word
      small zero below = refl
      small (suc zero) below = refl
      small (suc (suc word)) below = absurd (omega arith)

  -- the count tags of a level's groups, taken from the groups from `from` on
  pub tags-in : (number from count : ℕ) → number ≤ group_count words → from + count ≡ group_count words → from ≤ first_group words number
      → map count_tag (take (first_group words (number + 1) - first_group words number) (drop (first_group words number - from) (groups_from words from count))) ≡ stretch words (group_places (group_count words) + number)
  unfolding stretch
  tags-in number from count level all below =
      let groups = group_count words in
      let many = first_group words (number + 1) - first_group words number in
      let off = first_group words number - from in
      let later = groups_from words from count in
      let tags : map count_tag later ≡ take count (drop (first_count_tag groups + from) words) = column words count_tag (first_count_tag groups) (λ number later group. refl) (omega (arith, passed.heads)) count from all in
      let rise = first_group-rises limits words passed number level in
      let cap = first_group-within limits words passed (number + 1) (omega arith) in
      let place = groups-place limits words passed number (omega arith) in
      let next = groups-place limits words passed (number + 1) (omega arith) in
      let same : get_or words (group_places groups + (number + 1)) 0 ≡ get_or words (group_places groups + number + 1) 0 = ap (λ (at : ℕ). get_or words at 0) (omega arith) in
      let start : first_count_tag groups + from + off ≡ get_or words (group_places groups + number) 0 = omega (arith, place, below) in
      let size : many ≡ get_or words (group_places groups + number + 1) 0 - get_or words (group_places groups + number) 0 = omega (arith, place, next, same, rise) in
      map-take count_tag many (drop off later)
      ∙ ap (take many) (map-drop count_tag off later ∙ ap (drop off) tags)
      ∙ part-of_part off many count (drop (first_count_tag groups + from) words) (omega (arith, rise, cap, below))
      ∙ ap (take many) (drop-drop off (first_count_tag groups + from) words ∙ ap (λ (at : ℕ). drop at words) start)
      ∙ ap (λ (count : ℕ). take count (drop (get_or words (group_places groups + number) 0) words)) size

  members-in : map members_of (layout_in words ∷ map entry (groups_from words 0 (group_count words))) ≡ stretches words member_places (group_count words + 1)
  unfolding layout_in
  members-in =
      ap {B = List (List ℕ)} (λ rest. stretch words 1 ∷ rest)
      (entries words members_of 2 (λ number count all. ap (stretch words) (omega arith)) (group_count words) 0 (omega arith))
      ∙ sym (stretches-next words 1 2 (group_count words + 1) (group_count words) (omega arith) (omega arith))

  required-in : map required_of (layout_in words ∷ map entry (groups_from words 0 (group_count words))) ≡ stretches words (required_places (group_count words)) (group_count words + 1)
  unfolding layout_in
  required-in =
      let none : 3 + group_count words + 0 ≡ 3 + group_count words = omega arith in
      let next : 4 + group_count words + 0 ≡ 4 + group_count words = omega arith in
      ap₂ {C = List (List ℕ)} (λ one rest. one ∷ rest)
      (ap (stretch words) none)
      (entries words required_of (4 + group_count words) (λ number count all. ap (stretch words) (omega arith)) (group_count words) 0 (omega arith)
      ∙ ap (λ (place : ℕ). stretches words place (group_count words)) next)
      ∙ sym (stretches-next words (3 + group_count words) (4 + group_count words) (group_count words + 1) (group_count words) (omega arith) (omega arith))

  top-tags : count_tags_of (layout_in words) ≡ stretch words (group_places (group_count words))
  top-tags =
      let none = first_group-first limits words passed in
      let many : first_group words (1 + 0) - 0 ≡ first_group words (0 + 1) - first_group words 0 = omega (arith, none) in
      let off : first_group words 0 - 0 ≡ 0 = omega (arith, none) in
      let place : group_places (group_count words) + 0 ≡ group_places (group_count words) = omega arith in
      ap (map count_tag) (top-groups ∙ ap (λ (count : ℕ). take count (groups_from words 0 (group_count words))) many)
      ∙ ap (λ (from : ℕ). map count_tag (take (first_group words (0 + 1) - first_group words 0) (drop from (groups_from words 0 (group_count words))))) (sym off)
      ∙ tags-in 0 0 (group_count words) (omega arith) (omega arith) (omega arith)
      ∙ ap (stretch words) place

  nested-tags : (number count : ℕ) → number + suc count ≡ group_count words
      → count_tags_of (entry (group_at words number (groups_from words (number + 1) count))) ≡ stretch words (6 + 2 * group_count words + number)
  nested-tags number count all =
      let later = groups_from words (number + 1) count in
      let number_same : 1 + number ≡ number + 1 = omega arith in
      let next-same : 2 + number ≡ number + 1 + 1 = omega arith in
      let place : group_places (group_count words) + (number + 1) ≡ 6 + 2 * group_count words + number = omega arith in
      ap (map count_tag) (listed-grouped (take (first_group words (2 + number) - first_group words (1 + number)) (drop (first_group words (1 + number) - (1 + number)) later)))
      ∙ ap₂ (λ (n m : ℕ). map count_tag (take (first_group words m - first_group words n) (drop (first_group words n - n) later))) number_same next-same
      ∙ tags-in (number + 1) (number + 1) count (omega arith) (omega arith) (entry-behind limits words passed (number + 1) (omega arith))
      ∙ ap (stretch words) place

  count_tags-in : map count_tags_of (layout_in words ∷ map entry (groups_from words 0 (group_count words))) ≡ stretches words (group_places (group_count words)) (group_count words + 1)
  count_tags-in =
      let next : 6 + 2 * group_count words + 0 ≡ 6 + 2 * group_count words = omega arith in
      ap₂ {C = List (List ℕ)} (λ one rest. one ∷ rest)
      top-tags
      (entries words count_tags_of (6 + 2 * group_count words) nested-tags (group_count words) 0 (omega arith) ∙ ap (λ (place : ℕ). stretches words place (group_count words)) next)
      ∙ sym (stretches-next words (group_places (group_count words)) (6 + 2 * group_count words) (group_count words + 1) (group_count words) (omega arith) (omega arith))

  -- ---- the words, stretch by stretch

  member-run : RunIn words 1 (group_count words + 1) (first_member (group_count words))
  member-run = member-places limits (group_count words) words passed.heads passed.members_hold

  required-run : RunIn words (3 + group_count words) (group_count words + 1) (get_or words (group_count words + 2) 0)
  required-run = required-places limits (group_count words) words passed.heads passed.required_hold

  count-tag_run : RunIn words (5 + 2 * group_count words) (group_count words + 1) (first_count_tag (group_count words))
  count-tag_run = group-places limits (group_count words) words passed.heads passed.groups_hold_lem

  -- where the members end, and where the required tags end
  members_end : ℕ
  members_end = get_or words (group_count words + 2) 0

  required_end : ℕ
  required_end = get_or words (4 + 2 * group_count words) 0

  members-joined : joined (stretches words 1 (group_count words + 1)) ≡ take (members_end - first_member (group_count words)) (drop (first_member (group_count words)) words)
  unfolding members_end
  members-joined =
      (stretches-joined words (group_count words + 1) 1 (group_count words + 2) (omega arith) (λ number below. members_inside limits words passed number (omega arith))).1
      ∙ ap (λ (first : ℕ). take (get_or words (group_count words + 2) 0 - first) (drop first words)) member-run.begins

  members-order : first_member (group_count words) ≤ members_end
  unfolding members_end
  members-order =
      omega (arith, member-run.begins, (stretches-joined words (group_count words + 1) 1 (group_count words + 2) (omega arith) (λ number below. members_inside limits words passed number (omega arith))).0)

  required-joined : joined (stretches words (3 + group_count words) (group_count words + 1)) ≡ take (required_end - members_end) (drop members_end words)
  unfolding members_end required_end
  required-joined =
      (stretches-joined words (group_count words + 1) (3 + group_count words) (4 + 2 * group_count words) (omega arith) (λ number below. required_inside limits words passed number (omega arith))).1
      ∙ ap (λ (first : ℕ). take (get_or words (4 + 2 * group_count words) 0 - first) (drop first words)) required-run.begins

  required-order : members_end ≤ required_end
  unfolding members_end required_end
  required-order =
      omega
      (arith, required-run.begins, (stretches-joined words (group_count words + 1) (3 + group_count words) (4 + 2 * group_count words) (omega arith) (λ number below. required_inside limits words passed number (omega arith))).0)

  required-within : required_end ≤ length words
  unfolding required_end
  required-within = all-inside limits (group_count words) words passed.heads passed.required_hold

  length-members : length (joined (stretches words 1 (group_count words + 1))) ≡ members_end - first_member (group_count words)
  length-members =
      ap length members-joined
      ∙ length_part words (first_member (group_count words)) (members_end - first_member (group_count words)) (omega (arith, members-order, required-order, required-within))

  length-required : length (joined (stretches words (3 + group_count words) (group_count words + 1))) ≡ required_end - members_end
  length-required = ap length required-joined ∙ length_part words members_end (required_end - members_end) (omega (arith, required-order, required-within))

  -- a row of places, and the words behind it
  places-part : (place next first : ℕ) → next ≡ place + suc (group_count words + 1) → next ≤ length words → get_or words place 0 ≡ first
      → ((number : ℕ) → number < group_count words + 1 → StretchInside words (place + number))
      → places_from first (stretches words place (group_count words + 1)) ++ drop next words ≡ drop place words
  places-part place next first follows within begins inside =
      ap
      (λ (row : List ℕ). row ++ drop next words)
      (ap (λ (from : ℕ). places_from from (stretches words place (group_count words + 1))) (sym begins) ∙ stretches-places words (group_count words + 1) place (omega arith) inside)
      ∙ peel words place (suc (group_count words + 1)) next follows

  member-places_part : places_from (first_member (group_count words)) (stretches words 1 (group_count words + 1)) ++ drop (3 + group_count words) words ≡ drop 1 words
  member-places_part =
      places-part 1 (3 + group_count words) (first_member (group_count words)) (omega arith) (omega (arith, passed.heads)) member-run.begins (λ number below. members_inside limits words passed number (omega arith))

  required-places_part : places_from (first_member (group_count words) + length (joined (stretches words 1 (group_count words + 1)))) (stretches words (3 + group_count words) (group_count words + 1)) ++ drop (5 + 2 * group_count words) words
      ≡ drop (3 + group_count words) words
  unfolding members_end
  required-places_part =
      places-part
      (3 + group_count words)
      (5 + 2 * group_count words)
      (first_member (group_count words) + length (joined (stretches words 1 (group_count words + 1))))
      (omega arith)
      (omega (arith, passed.heads))
      (omega (arith, required-run.begins, length-members, members-order))
      (λ number below. required_inside limits words passed number (omega arith))

  group-places_part : places_from (first_count_tag (group_count words)) (stretches words (5 + 2 * group_count words) (group_count words + 1)) ++ drop (first_count_tag (group_count words)) words ≡ drop (5 + 2 * group_count words) words
  group-places_part =
      places-part
      (5 + 2 * group_count words)
      (first_count_tag (group_count words))
      (first_count_tag (group_count words))
      (omega arith)
      (omega (arith, passed.heads))
      count-tag_run.begins
      (λ number below. count_tags-inside limits words passed number (omega arith))

  count-tags_part : joined (stretches words (5 + 2 * group_count words) (group_count words + 1)) ++ drop (first_delimiter (group_count words)) words ≡ drop (first_count_tag (group_count words)) words
  count-tags_part =
      let end = groups-end limits (group_count words) words passed.heads passed.groups_hold_lem in
      let size : get_or words (6 + 3 * group_count words) 0 - first_count_tag (group_count words) ≡ group_count words = omega (arith, end) in
      ap
      (λ (tags : List ℕ). tags ++ drop (first_delimiter (group_count words)) words)
      ((stretches-joined words (group_count words + 1) (5 + 2 * group_count words) (6 + 3 * group_count words) (omega arith) (λ number below. count_tags-inside limits words passed number (omega arith))).1
      ∙ ap (λ (first : ℕ). take (get_or words (6 + 3 * group_count words) 0 - first) (drop first words)) count-tag_run.begins
      ∙ ap (λ (count : ℕ). take count (drop (first_count_tag (group_count words)) words)) size)
      ∙ peel words (first_count_tag (group_count words)) (group_count words) (first_delimiter (group_count words)) (omega arith)

  members-part : joined (stretches words 1 (group_count words + 1)) ++ drop members_end words ≡ drop (first_member (group_count words)) words
  members-part =
      ap (λ (members : List ℕ). members ++ drop members_end words) members-joined
      ∙ peel words (first_member (group_count words)) (members_end - first_member (group_count words)) members_end (omega (arith, members-order))

  required-part : joined (stretches words (3 + group_count words) (group_count words + 1)) ++ drop required_end words ≡ drop members_end words
  required-part =
      ap (λ (required : List ℕ). required ++ drop required_end words) required-joined ∙ peel words members_end (required_end - members_end) required_end (omega (arith, required-order))

  some_word : (length words ≡ 0 → ⊥)
  some_word none = omega (arith, passed.heads)

  parts_in : arranged_parts
      (group_count words)
      (stretches words member_places (group_count words + 1))
      (stretches words (required_places (group_count words)) (group_count words + 1))
      (stretches words (group_places (group_count words)) (group_count words + 1))
      (take (group_count words) (drop (first_delimiter (group_count words)) words))
      (take (group_count words) (drop (first_flag (group_count words)) words))
      ++ drop required_end words
      ≡ words
  unfolding arranged_parts
  parts_in =
      ap {B = List ℕ} (λ rest. group_count words ∷ rest)
      (assemble
      (places_from (first_member (group_count words)) (stretches words 1 (group_count words + 1)))
      (places_from (first_member (group_count words) + length (joined (stretches words 1 (group_count words + 1)))) (stretches words (3 + group_count words) (group_count words + 1)))
      (places_from (first_count_tag (group_count words)) (stretches words (5 + 2 * group_count words) (group_count words + 1)))
      (joined (stretches words (5 + 2 * group_count words) (group_count words + 1)))
      (take (group_count words) (drop (first_delimiter (group_count words)) words))
      (take (group_count words) (drop (first_flag (group_count words)) words))
      (joined (stretches words 1 (group_count words + 1)))
      (joined (stretches words (3 + group_count words) (group_count words + 1)))
      (drop required_end words)
      (drop 1 words)
      (drop (3 + group_count words) words)
      (drop (5 + 2 * group_count words) words)
      (drop (first_count_tag (group_count words)) words)
      (drop (first_delimiter (group_count words)) words)
      (drop (first_flag (group_count words)) words)
      (drop (first_member (group_count words)) words)
      (drop members_end words)
      member-places_part
      required-places_part
      group-places_part
      count-tags_part
      (peel words (first_delimiter (group_count words)) (group_count words) (first_flag (group_count words)) (omega arith))
      (peel words (first_flag (group_count words)) (group_count words) (first_member (group_count words)) (omega arith))
      members-part
      required-part)
      ∙ sym (first-and_rest words some_word)

  -- ---- the layout in the words

  same_parts : (g g' : ℕ) (m m' r r' t t' : List (List ℕ)) (d d' f f' : List ℕ) → g ≡ g' → m ≡ m' → r ≡ r' → t ≡ t' → d ≡ d' → f ≡ f' → arranged_parts g m r t d f ≡ arranged_parts g' m' r' t' d' f'
  same_parts g g' m m' r r' t t' d d' f f' eg em er et ed ef = rw (eg, em, er, et, ed, ef)

  level-members_in : map members_of (all_levels (layout_in words)) ≡ stretches words member_places (group_count words + 1)
  level-members_in = ap (λ (groups : List Group). map members_of (layout_in words ∷ map entry groups)) all_groups-in ∙ members-in

  level-required_in : map required_of (all_levels (layout_in words)) ≡ stretches words (required_places (group_count words)) (group_count words + 1)
  level-required_in = ap (λ (groups : List Group). map required_of (layout_in words ∷ map entry groups)) all_groups-in ∙ required-in

  level-count_tags_in : map count_tags_of (all_levels (layout_in words)) ≡ stretches words (group_places (group_count words)) (group_count words + 1)
  level-count_tags_in = ap (λ (groups : List Group). map count_tags_of (layout_in words ∷ map entry groups)) all_groups-in ∙ count_tags-in

  arranged-in : arranged (layout_in words) ++ drop required_end words ≡ words
  unfolding arranged
  arranged-in =
      ap
      (λ (front : List ℕ). front ++ drop required_end words)
      (same_parts
      _
      (group_count words)
      _
      (stretches words member_places (group_count words + 1))
      _
      (stretches words (required_places (group_count words)) (group_count words + 1))
      _
      (stretches words (group_places (group_count words)) (group_count words + 1))
      _
      (take (group_count words) (drop (first_delimiter (group_count words)) words))
      _
      (take (group_count words) (drop (first_flag (group_count words)) words))
      (ap length all_groups-in ∙ length-groups_from words (group_count words) 0)
      level-members_in
      level-required_in
      level-count_tags_in
      (ap (map delimiter) all_groups-in ∙ delimiters-in)
      (ap (map flag) all_groups-in ∙ flags-in))
      ∙ parts_in

  rules-in : meets_rules (layout_in words) ≡ true
  unfolding all_levels_hold all_delimiters_hold
  rules-in =
      meets_rules-levels (layout_in words)
      ∙ and_both
      (levels_hold (map members_of (all_levels (layout_in words))) (map count_tags_of (all_levels (layout_in words))))
      (delimiters_hold (map members_of (map entry (all_groups (layout_in words)))) (map delimiter (all_groups (layout_in words))))
      (ap₂ levels_hold level-members_in level-count_tags_in ∙ passed.levels_hold_lem)
      (ap₂ delimiters_hold
      (ap (λ (groups : List Group). map members_of (map entry groups)) all_groups-in
      ∙ entries words members_of 2 (λ number count all. ap (stretch words) (omega arith)) (group_count words) 0 (omega arith))
      (ap (map delimiter) all_groups-in ∙ delimiters-in)
      ∙ passed.delimiters_hold_lem)

  limits_in : meets_limits limits (layout_in words) ≡ true
  unfolding members_end required_end
  limits_in =
      let members : length (joined (map members_of (all_levels (layout_in words)))) ≡ members_end - first_member (group_count words) = ap (λ (lists : List (List ℕ)). length (joined lists)) level-members_in ∙ length-members in
      let required : length (joined (map required_of (all_levels (layout_in words)))) ≡ required_end - members_end = ap (λ (lists : List (List ℕ)). length (joined lists)) level-required_in ∙ length-required in
      and_both
      (leb (length (joined (map members_of (all_levels (layout_in words))))) limits.members)
      (leb (length (joined (map required_of (all_levels (layout_in words))))) limits.required)
      (le-leb (length (joined (map members_of (all_levels (layout_in words))))) limits.members (omega (arith, members, members-few limits (group_count words) words passed.heads passed.members_hold)))
      (le-leb (length (joined (map required_of (all_levels (layout_in words))))) limits.required (omega (arith, required, required-few limits (group_count words) words passed.heads passed.required_hold)))

-- words that pass begin with the arrangement of the layout that they tell of
pub layout_in-begins : (limits : Limits) (words : List ℕ) → is_layout limits words ≡ true → (behind : List ℕ) × (arranged (layout_in words) ++ behind ≡ words)
layout_in-begins limits words holds =
    let passed = is_layout-passed limits words holds in
    (drop (required_end limits words passed) words, arranged-in limits words passed)

-- words that pass begin with the arrangement of a layout that meets the rules and the limits
pub is_layout-arranged : (limits : Limits) (words : List ℕ) → is_layout limits words ≡ true → ArrangedIn limits words
is_layout-arranged limits words holds =
    let passed = is_layout-passed limits words holds in
    record {
      layout = layout_in words;
      behind = drop (required_end limits words passed) words;
      begins = arranged-in limits words passed;
      rules = rules-in limits words passed;
      within = limits_in limits words passed;
    }
