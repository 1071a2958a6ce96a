-- The arrangement of a layout that meets the seven rules and the limits passes the check, whatever words stand behind it; and how many words
-- it has. Assumes nothing.
use Rattle.std.specs.Prelude.{◌≡◌, ℕ, zero, suc, ◌+◌, ◌*◌, ◌-◌, ◌≤◌, ◌↔◌, Bool, true, false, ◌&&◌, leb, if◌then◌else◌}
use Rattle.std.proofs.Math.Path.{refl, sym, ap, ap₂}
use Rattle.std.proofs.Common.{◌∙◌, drop_at, drop-drop, get_or-drop}
use mathlib.Core.List.{List, [], ◌∷◌, ◌++◌, map, append_assoc, append-nil}
use native.Mathlib.Omega.{arith}
use Rattle.std.proofs.Math.ListN.{length, get_or, take, drop, length-append, length-drop, length-map, get_or-append}
use Rattle.std.proofs.Math.Seq.{take_at, take-append-le, drop-append-le}
use borrow.Author.Tests.{le-leb, lt-ltb, eq-eqb, leb-true}
use Rattle.ascii.specs.NotationLaws.{and_left, and_right, and_both}
use Rattle.ascii.specs.Bytes.{every}
use Rattle.ascii.specs.BytesLaws.{non_empty-some}
use Rattle.layouts.specs.Limits.{Limits, gate_limits}
use Rattle.layouts.specs.Layout.{Level, Group, Layout, members_of, required_of, groups_of, count_tag, delimiter, is_required, count_tags_of, entry, groups_below, level_order, all_groups, all_levels, all_members, all_required, joined}
use Rattle.layouts.specs.LayoutLaws.{group_total, group_total-first, groups_below-total, length-level_order, level_order-count_tags}
use Rattle.layouts.specs.LayoutRules.{◌∈ᵇ◌, meets_rules, meets_limits}
use Rattle.layouts.specs.LayoutRulesLaws.{member-at}
use Rattle.layouts.specs.LayoutWords.{first_member, first_count_tag, first_delimiter, first_flag, flag, places_from, arranged_parts, arranged, group_count, stretch, stretches}
use Rattle.layouts.specs.LayoutWordsLaws.{stretches-next}
use Rattle.layouts.specs.LayoutCheck.{never_falls, is_run, is_ahead, member_places_hold, required_places_hold, group_places_hold, is_flag, levels_hold, delimiters_hold, all_levels_hold, all_delimiters_hold, is_layout}
use Rattle.layouts.specs.LayoutCheckFacts.{Passed, passed-is_layout}
use Rattle.layouts.specs.LayoutCheckRules.{meets_rules-levels}
use Rattle.layouts.specs.LayoutCheckSound.{ArrangedIn, is_layout-arranged}

-- ---- reading behind a list

-- the words from the next stretch on
behind : (words p q : List ℕ) (from count next : ℕ) → drop from words ≡ p ++ q → length p ≡ count → next ≡ from + count → drop next words ≡ q
behind words p q from count next here size follows =
    ap (λ (place : ℕ). drop place words) follows ∙ sym (drop-drop count from words) ∙ ap (drop count) here ∙ drop_at p q count size

word_at : (words : List ℕ) (place word : ℕ) (tail : List ℕ) → drop place words ≡ word ∷ tail → get_or words place 0 ≡ word
word_at words place word tail here =
    let same : place ≡ place + 0 = omega arith in
    ap (λ (at : ℕ). get_or words at 0) same ∙ sym (get_or-drop place words 0 0) ∙ ap (λ (list : List ℕ). get_or list 0 0) here

next_word : (words : List ℕ) (place word : ℕ) (tail : List ℕ) → drop place words ≡ word ∷ tail → drop (place + 1) words ≡ tail
next_word words place word tail here = sym (drop-drop 1 place words) ∙ ap (drop 1) here

-- ---- places_from

length-places_from : (first : ℕ) (lists : List (List ℕ)) → length (places_from first lists) ≡ suc (length lists)
unfolding places_from
length-places_from first [] = refl
length-places_from first (list ∷ lists) = ap suc (length-places_from (first + length list) lists)

places-first : (first : ℕ) (lists : List (List ℕ)) (tail : List ℕ) → places_from first lists ++ tail ≡ first ∷ drop 1 (places_from first lists ++ tail)
unfolding places_from
places-first first [] tail = refl
places-first first (list ∷ lists) tail = refl

never_falls-places : (place first : ℕ) (lists : List (List ℕ)) → place ≤ first → never_falls place (places_from first lists) ≡ true
unfolding never_falls places_from
never_falls-places place first [] above = rw (le-leb place first above)
never_falls-places place first (list ∷ lists) above = rw (le-leb place first above) (never_falls-places first (first + length list) lists (omega arith))

is_run-places : (first : ℕ) (lists : List (List ℕ)) → is_run first (places_from first lists) ≡ true
unfolding is_run never_falls places_from
is_run-places first [] = rw (eq-eqb first first refl)
is_run-places first (list ∷ lists) = rw (eq-eqb first first refl) (never_falls-places first (first + length list) lists (omega arith))

places-last : (first : ℕ) (lists : List (List ℕ)) → get_or (places_from first lists) (length lists) 0 ≡ first + length (joined lists)
unfolding places_from joined
places-last first [] = omega arith
places-last first (list ∷ lists) = omega (arith, places-last (first + length list) lists, length-append list (joined lists))

last_word : (words : List ℕ) (place first : ℕ) (lists : List (List ℕ)) (tail : List ℕ) → drop place words ≡ places_from first lists ++ tail → get_or words (place + length lists) 0 ≡ first + length (joined lists)
last_word words place first lists tail here =
    sym (get_or-drop place words (length lists) 0)
    ∙ ap (λ (list : List ℕ). get_or list (length lists) 0) here
    ∙ get_or-append (places_from first lists) tail 0 (length lists) (omega (arith, length-places_from first lists))
    ∙ places-last first lists

-- ---- stretches

stretches-there : (words : List ℕ) (lists : List (List ℕ)) (place first : ℕ) (tail rest : List ℕ) → drop place words ≡ places_from first lists ++ tail → drop first words ≡ joined lists ++ rest → stretches words place (length lists) ≡ lists
unfolding stretches stretch places_from joined
stretches-there words [] place first tail rest places stand = refl
stretches-there words (list ∷ lists) place first tail rest places stand =
    let here : get_or words place 0 ≡ first = word_at words place first (places_from (first + length list) lists ++ tail) places in
    let later : drop (place + 1) words ≡ places_from (first + length list) lists ++ tail = next_word words place first (places_from (first + length list) lists ++ tail) places in
    let next : get_or words (place + 1) 0 ≡ first + length list = word_at words (place + 1) (first + length list) (drop 1 (places_from (first + length list) lists ++ tail)) (later ∙ places-first (first + length list) lists tail) in
    let size : first + length list - first ≡ length list = omega arith in
    let stands : drop first words ≡ list ++ (joined lists ++ rest) = stand ∙ append_assoc list (joined lists) rest in
    ap₂ {C = List (List ℕ)} (λ one others. one ∷ others)
    (rw (next, here, size, stands) (take_at list (joined lists ++ rest) (length list) refl))
    (stretches-there words lists (place + 1) (first + length list) tail rest later (behind words list (joined lists ++ rest) first (length list) (first + length list) stands refl refl))

passed-from : (limits : Limits) (words : List ℕ) (groups : ℕ)
    → group_count words ≡ groups
    → first_member groups ≤ length words
    → member_places_hold limits groups words ≡ true
    → required_places_hold limits groups words ≡ true
    → group_places_hold groups words ≡ true
    → every is_flag (take groups (drop (first_flag groups) words)) ≡ true
    → all_levels_hold groups words ≡ true
    → all_delimiters_hold groups words ≡ true
    → Passed limits words
passed-from limits words groups count heads members required places flags levels delimiters = record {
  some_word = non_empty-some words (λ (none : length words ≡ 0). omega arith);
  heads = rw count heads;
  members_hold = rw count members;
  required_hold = rw count required;
  groups_hold_lem = rw count places;
  flags_hold = rw count flags;
  levels_hold_lem = rw count levels;
  delimiters_hold_lem = rw count delimiters;
}

-- what words say, row by row
pub record Columns (words : List ℕ) (groups : ℕ) (members required count_tags : List (List ℕ)) (delimiters flags : List ℕ) : Type 0 where
  pub count : group_count words ≡ groups
  pub members_are : stretches words 1 (groups + 1) ≡ members
  pub required_are : stretches words (3 + groups) (groups + 1) ≡ required
  pub count_tags_are : stretches words (5 + 2 * groups) (groups + 1) ≡ count_tags
  pub delimiters_are : take groups (drop (first_delimiter groups) words) ≡ delimiters
  pub flags_are : take groups (drop (first_flag groups) words) ≡ flags

-- ---- the words of an arrangement pass, test by test

module _
    (limits : Limits)
    (groups : ℕ)
    (top : List ℕ)
    (others required count_tags : List (List ℕ))
    (delimiters flags rest words : List ℕ)
    (whole : words
    ≡ groups
    ∷ (places_from (first_member groups) (top ∷ others)
    ++ (places_from (first_member groups + length (joined (top ∷ others))) required
    ++ (places_from (first_count_tag groups) count_tags
    ++ (joined count_tags
    ++ (delimiters
    ++ (flags
    ++ (joined (top ∷ others)
    ++ (joined required
    ++ rest)))))))))
    (members-size : length others ≡ groups)
    (required-size : length required ≡ groups + 1)
    (count_tags-size : length count_tags ≡ groups + 1)
    (all-count_tags : length (joined count_tags) ≡ groups)
    (delimiters-size : length delimiters ≡ groups)
    (flags-size : length flags ≡ groups)
  where
    members : List (List ℕ)
    members = top ∷ others

    end : ℕ
    unfolding members
    end = first_member groups + length (joined members)

    from-members : List ℕ
    unfolding members
    from-members = joined members ++ (joined required ++ rest)

    from-count_tags : List ℕ
    from-count_tags = joined count_tags ++ (delimiters ++ (flags ++ from-members))

    at-members : drop 1 words ≡ places_from (first_member groups) members ++ (places_from end required ++ (places_from (first_count_tag groups) count_tags ++ from-count_tags))
    unfolding members end from-members from-count_tags
    at-members = ap (drop 1) whole

    at-required : drop (3 + groups) words ≡ places_from end required ++ (places_from (first_count_tag groups) count_tags ++ from-count_tags)
    unfolding members
    at-required =
        behind
        words
        (places_from (first_member groups) members)
        (places_from end required ++ (places_from (first_count_tag groups) count_tags ++ from-count_tags))
        1
        (groups + 2)
        (3 + groups)
        at-members
        (omega (arith, length-places_from (first_member groups) members))
        (omega arith)

    at-groups : drop (5 + 2 * groups) words ≡ places_from (first_count_tag groups) count_tags ++ from-count_tags
    at-groups =
        behind
        words
        (places_from end required)
        (places_from (first_count_tag groups) count_tags ++ from-count_tags)
        (3 + groups)
        (groups + 2)
        (5 + 2 * groups)
        at-required
        (omega (arith, length-places_from end required))
        (omega arith)

    at-count_tags : drop (first_count_tag groups) words ≡ joined count_tags ++ (delimiters ++ (flags ++ from-members))
    unfolding from-count_tags
    at-count_tags =
        behind
        words
        (places_from (first_count_tag groups) count_tags)
        from-count_tags
        (5 + 2 * groups)
        (groups + 2)
        (first_count_tag groups)
        at-groups
        (omega (arith, length-places_from (first_count_tag groups) count_tags))
        (omega arith)

    at-delimiters : drop (first_delimiter groups) words ≡ delimiters ++ (flags ++ from-members)
    at-delimiters = behind words (joined count_tags) (delimiters ++ (flags ++ from-members)) (first_count_tag groups) groups (first_delimiter groups) at-count_tags all-count_tags (omega arith)

    at-flags : drop (first_flag groups) words ≡ flags ++ from-members
    at-flags = behind words delimiters (flags ++ from-members) (first_delimiter groups) groups (first_flag groups) at-delimiters delimiters-size (omega arith)

    at-all_members : drop (first_member groups) words ≡ joined members ++ (joined required ++ rest)
    unfolding from-members
    at-all_members = behind words flags from-members (first_flag groups) groups (first_member groups) at-flags flags-size (omega arith)

    members-end : get_or words (groups + 2) 0 ≡ end
    unfolding members end
    members-end =
        let same : groups + 2 ≡ 1 + length members = omega arith in
        ap (λ (at : ℕ). get_or words at 0) same
        ∙ last_word words 1 (first_member groups) members (places_from end required ++ (places_from (first_count_tag groups) count_tags ++ from-count_tags)) at-members

    required-end : get_or words (4 + 2 * groups) 0 ≡ end + length (joined required)
    required-end =
        let same : 4 + 2 * groups ≡ 3 + groups + length required = omega arith in
        ap (λ (at : ℕ). get_or words at 0) same ∙ last_word words (3 + groups) end required (places_from (first_count_tag groups) count_tags ++ from-count_tags) at-required

    groups-last : get_or words (6 + 3 * groups) 0 ≡ first_delimiter groups
    groups-last =
        let same : 6 + 3 * groups ≡ 5 + 2 * groups + length count_tags = omega arith in
        ap (λ (at : ℕ). get_or words at 0) same ∙ last_word words (5 + 2 * groups) (first_count_tag groups) count_tags from-count_tags at-groups ∙ omega arith

    length-words : length words ≡ end + length (joined required) + length rest
    unfolding members end
    length-words =
        let sum = simp length-append at (ap length whole) in
        omega
        (arith, sum, length-places_from (first_member groups) members, length-places_from end required, length-places_from (first_count_tag groups) count_tags)

    members-pass : length (joined members) ≤ limits.members → member_places_hold limits groups words ≡ true
    unfolding member_places_hold members end
    members-pass few =
        let row : take (groups + 2) (drop 1 words) ≡ places_from (first_member groups) members = ap (take (groups + 2)) at-members ∙ take_at (places_from (first_member groups) members) _ (groups + 2) (omega (arith, length-places_from (first_member groups) members)) in
        rw (row, is_run-places (first_member groups) members, members-end) (le-leb end (first_member groups + limits.members) (omega arith))

    required-pass : length (joined required) ≤ limits.required → required_places_hold limits groups words ≡ true
    unfolding required_places_hold
    required-pass few =
        let row : take (groups + 2) (drop (3 + groups) words) ≡ places_from end required = ap (take (groups + 2)) at-required ∙ take_at (places_from end required) _ (groups + 2) (omega (arith, length-places_from end required)) in
        rw
        (row, members-end, is_run-places end required, required-end, le-leb (end + length (joined required)) (end + limits.required) (omega arith))
        (le-leb (end + length (joined required)) (length words) (omega (arith, length-words)))

    groups-pass : is_ahead (first_count_tag groups) (take groups (drop 1 (places_from (first_count_tag groups) count_tags))) ≡ true → group_places_hold groups words ≡ true
    unfolding group_places_hold
    groups-pass ahead =
        let size = length-places_from (first_count_tag groups) count_tags in
        let row : take (groups + 2) (drop (5 + 2 * groups) words) ≡ places_from (first_count_tag groups) count_tags = ap (take (groups + 2)) at-groups ∙ take_at (places_from (first_count_tag groups) count_tags) _ (groups + 2) (omega (arith, size)) in
        let next : 6 + 2 * groups ≡ 5 + 2 * groups + 1 = omega arith in
        let later : take groups (drop (6 + 2 * groups) words) ≡ take groups (drop 1 (places_from (first_count_tag groups) count_tags)) =
        ap (take groups)
        (ap (λ (at : ℕ). drop at words) next
        ∙ sym (drop-drop 1 (5 + 2 * groups) words)
        ∙ ap (drop 1) at-groups
        ∙ drop-append-le 1 (places_from (first_count_tag groups) count_tags) from-count_tags (omega (arith, size)))
        ∙ take-append-le
        groups
        (drop 1 (places_from (first_count_tag groups) count_tags))
        from-count_tags
        (omega (arith, length-drop 1 (places_from (first_count_tag groups) count_tags), size)) in
        rw (row, is_run-places (first_count_tag groups) count_tags, groups-last, eq-eqb (first_delimiter groups) (first_delimiter groups) refl, later) ahead

    flags-pass : every is_flag flags ≡ true → every is_flag (take groups (drop (first_flag groups) words)) ≡ true
    flags-pass hold = ap (every is_flag) (ap (take groups) at-flags ∙ take_at flags from-members groups flags-size) ∙ hold

    members-there : stretches words 1 (groups + 1) ≡ members
    unfolding members
    members-there =
        let size : groups + 1 ≡ length members = omega arith in
        ap (stretches words 1) size
        ∙ stretches-there words members 1 (first_member groups) (places_from end required ++ (places_from (first_count_tag groups) count_tags ++ from-count_tags)) (joined required ++ rest) at-members at-all_members

    count_tags-there : stretches words (5 + 2 * groups) (groups + 1) ≡ count_tags
    count_tags-there =
        ap (stretches words (5 + 2 * groups)) (sym count_tags-size)
        ∙ stretches-there words count_tags (5 + 2 * groups) (first_count_tag groups) from-count_tags (delimiters ++ (flags ++ from-members)) at-groups at-count_tags

    count-pass : group_count words ≡ groups
    count-pass = ap (λ (list : List ℕ). get_or list 0 0) whole

    required-there : stretches words (3 + groups) (groups + 1) ≡ required
    unfolding end members
    required-there =
        let end-there : drop end words ≡ joined required ++ rest = behind words (joined members) (joined required ++ rest) (first_member groups) (length (joined members)) end at-all_members refl refl in
        ap (stretches words (3 + groups)) (sym required-size)
        ∙ stretches-there words required (3 + groups) end (places_from (first_count_tag groups) count_tags ++ from-count_tags) rest at-required end-there

    columns_there : Columns words groups (top ∷ others) required count_tags delimiters flags
    unfolding members
    columns_there = record {
      count = count-pass;
      members_are = members-there;
      required_are = required-there;
      count_tags_are = count_tags-there;
      delimiters_are = ap (take groups) at-delimiters ∙ take_at delimiters (flags ++ from-members) groups delimiters-size;
      flags_are = ap (take groups) at-flags ∙ take_at flags from-members groups flags-size;
    }

    levels_pass : levels_hold (top ∷ others) count_tags ≡ true → all_levels_hold groups words ≡ true
    unfolding all_levels_hold members
    levels_pass hold = ap₂ levels_hold members-there count_tags-there ∙ hold

    delimiters-pass : delimiters_hold others delimiters ≡ true → all_delimiters_hold groups words ≡ true
    unfolding all_delimiters_hold members
    delimiters-pass hold =
        let entry-members : stretches words 2 groups ≡ others = ap (drop 1) (sym (stretches-next words 1 2 (groups + 1) groups (omega arith) (omega arith)) ∙ members-there) in
        ap₂ delimiters_hold entry-members (ap (take groups) at-delimiters ∙ take_at delimiters (flags ++ from-members) groups delimiters-size) ∙ hold

    heads-pass : first_member groups ≤ length words
    unfolding end
    heads-pass = omega (arith, length-words)

    passes : length (joined (top ∷ others)) ≤ limits.members
        → length (joined required) ≤ limits.required
        → is_ahead (first_count_tag groups) (take groups (drop 1 (places_from (first_count_tag groups) count_tags))) ≡ true
        → every is_flag flags ≡ true
        → levels_hold (top ∷ others) count_tags ≡ true
        → delimiters_hold others delimiters ≡ true
        → Passed limits words
    unfolding members
    passes few_members_lem few-required ahead all-flags levels all-delimiters =
        passed-from
        limits
        words
        groups
        count-pass
        heads-pass
        (members-pass few_members_lem)
        (required-pass few-required)
        (groups-pass ahead)
        (flags-pass all-flags)
        (levels_pass levels)
        (delimiters-pass all-delimiters)

-- ---- the parts of a layout's arrangement

-- one place for each group of the levels before, and more to come: the groups that wait
ahead-order : (count base : ℕ) (waiting : List Group) → group_total waiting ≡ count
    → is_ahead base (take count (places_from (base + length waiting) (map count_tags_of (map entry (level_order count waiting))))) ≡ true
unfolding is_ahead places_from level_order group_total
ahead-order zero base waiting all = refl
ahead-order (suc count) base [] all = absurd (omega arith)
ahead-order (suc count) base (first ∷ waiting) all =
    let nested = groups_of (entry first) in
    let place : base + suc (length waiting) + length (map count_tag nested) ≡ base + 1 + length (waiting ++ nested) = omega (arith, length-map nested count_tag, length-append waiting nested) in
    rw
    (lt-ltb base (base + suc (length waiting)) (omega arith), place)
    (ahead-order count (base + 1) (waiting ++ nested) (omega (arith, group_total-first first waiting)))

flags_hold : (groups : List Group) → every is_flag (map flag groups) ≡ true
flags_hold [] = refl
flags_hold (first ∷ others) = and_both (leb (flag first) 1) _ (is-flag (is_required first)) (flags_hold others)
  where
    is-flag : (required : Bool) → leb (if required then 1 else 0) 1 ≡ true
    is-flag true = refl
    is-flag false = refl

module _ (layout : Layout) where
  length-all_groups : length (all_groups layout) ≡ groups_below layout
  unfolding all_groups
  length-all_groups = length-level_order (groups_below layout) (groups_of layout) (sym (groups_below-total layout))

  entries-size : (read : Level → List ℕ) → length (map read (map entry (all_groups layout))) ≡ length (all_groups layout)
  entries-size read = length-map (map entry (all_groups layout)) read ∙ length-map (all_groups layout) entry

  levels_size : (read : Level → List ℕ) → length (map read (all_levels layout)) ≡ length (all_groups layout) + 1
  levels_size read = omega (arith, entries-size read)

  count_tags-size : length (joined (map count_tags_of (all_levels layout))) ≡ length (all_groups layout)
  unfolding all_groups joined
  count_tags-size =
      ap length (sym (level_order-count_tags (groups_below layout) (groups_of layout) (sym (groups_below-total layout)))) ∙ length-map (level_order (groups_below layout) (groups_of layout)) count_tag

  places-ahead : is_ahead
      (first_count_tag (length (all_groups layout)))
      (take (length (all_groups layout)) (drop 1 (places_from (first_count_tag (length (all_groups layout))) (map count_tags_of (all_levels layout)))))
      ≡ true
  unfolding places_from all_groups
  places-ahead =
      let first = first_count_tag (length (all_groups layout)) in
      let size : length (level_order (groups_below layout) (groups_of layout)) ≡ groups_below layout = length-all_groups in
      let place : first + length (map count_tag (groups_of layout)) ≡ first + length (groups_of layout) = omega (arith, length-map (groups_of layout) count_tag) in
      ap₂ (λ (count from : ℕ). is_ahead first (take count (places_from from (map count_tags_of (map entry (all_groups layout)))))) size place
      ∙ ahead-order (groups_below layout) first (groups_of layout) (sym (groups_below-total layout))

  module _ (rest : List ℕ) where
    whole : arranged layout ++ rest
        ≡ length (all_groups layout)
        ∷ (places_from (first_member (length (all_groups layout))) (map members_of (all_levels layout))
        ++ (places_from (first_member (length (all_groups layout)) + length (all_members layout)) (map required_of (all_levels layout))
        ++ (places_from (first_count_tag (length (all_groups layout))) (map count_tags_of (all_levels layout))
        ++ (joined (map count_tags_of (all_levels layout))
        ++ (map delimiter (all_groups layout)
        ++ (map flag (all_groups layout)
        ++ (all_members layout
        ++ (all_required layout
        ++ rest))))))))
    unfolding arranged arranged_parts
    whole = simp append_assoc

    -- how many words
    all_words : length (arranged layout ++ rest) ≡ 7 + 6 * length (all_groups layout) + length (all_members layout) + length (all_required layout) + length rest
    unfolding end members
    all_words =
        length-words
        gate_limits
        (length (all_groups layout))
        (members_of layout)
        (map members_of (map entry (all_groups layout)))
        (map required_of (all_levels layout))
        (map count_tags_of (all_levels layout))
        (map delimiter (all_groups layout))
        (map flag (all_groups layout))
        rest
        (arranged layout ++ rest)
        whole
        (entries-size members_of)
        (levels_size required_of)
        (levels_size count_tags_of)
        count_tags-size
        (length-map (all_groups layout) delimiter)
        (length-map (all_groups layout) flag)

    pub arranged-columns : Columns
        (arranged layout ++ rest)
        (length (all_groups layout))
        (map members_of (all_levels layout))
        (map required_of (all_levels layout))
        (map count_tags_of (all_levels layout))
        (map delimiter (all_groups layout))
        (map flag (all_groups layout))
    arranged-columns =
        columns_there
        gate_limits
        (length (all_groups layout))
        (members_of layout)
        (map members_of (map entry (all_groups layout)))
        (map required_of (all_levels layout))
        (map count_tags_of (all_levels layout))
        (map delimiter (all_groups layout))
        (map flag (all_groups layout))
        rest
        (arranged layout ++ rest)
        whole
        (entries-size members_of)
        (levels_size required_of)
        (levels_size count_tags_of)
        count_tags-size
        (length-map (all_groups layout) delimiter)
        (length-map (all_groups layout) flag)

    arranged-passes : (limits : Limits) → meets_rules layout ≡ true → meets_limits limits layout ≡ true → Passed limits (arranged layout ++ rest)
    arranged-passes limits rules within =
        let levels = levels_hold (map members_of (all_levels layout)) (map count_tags_of (all_levels layout)) in
        let delimiters = delimiters_hold (map members_of (map entry (all_groups layout))) (map delimiter (all_groups layout)) in
        let hold : levels && delimiters ≡ true = sym (meets_rules-levels layout) ∙ rules in
        passes
        limits
        (length (all_groups layout))
        (members_of layout)
        (map members_of (map entry (all_groups layout)))
        (map required_of (all_levels layout))
        (map count_tags_of (all_levels layout))
        (map delimiter (all_groups layout))
        (map flag (all_groups layout))
        rest
        (arranged layout ++ rest)
        whole
        (entries-size members_of)
        (levels_size required_of)
        (levels_size count_tags_of)
        count_tags-size
        (length-map (all_groups layout) delimiter)
        (length-map (all_groups layout) flag)
        (leb-true (length (all_members layout)) limits.members (and_left _ (leb (length (all_required layout)) limits.required) within))
        (leb-true (length (all_required layout)) limits.required (and_right (leb (length (all_members layout)) limits.members) _ within))
        places-ahead
        (flags_hold (all_groups layout))
        (and_left levels delimiters hold)
        (and_right levels delimiters hold)

-- the arrangement of a layout that meets the rules and the limits passes, whatever stands behind it
pub arranged-is_layout : (limits : Limits) (layout : Layout) (rest : List ℕ) → meets_rules layout ≡ true → meets_limits limits layout ≡ true → is_layout limits (arranged layout ++ rest) ≡ true
arranged-is_layout limits layout rest rules within = passed-is_layout limits (arranged layout ++ rest) (arranged-passes layout rest limits rules within)

-- the check, said in full
pub is_layout-exact : (limits : Limits) (words : List ℕ) → (is_layout limits words ≡ true) ↔ ArrangedIn limits words
is_layout-exact limits words =
    (is_layout-arranged limits words, λ found. rw (← found.begins) (arranged-is_layout limits found.layout found.behind found.rules found.within))

-- ---- how many words

pub length-arranged : (layout : Layout) → length (arranged layout) ≡ 7 + 6 * length (all_groups layout) + length (all_members layout) + length (all_required layout)
length-arranged layout = omega (arith, ap length (append-nil (arranged layout)), all_words layout [])

-- each group has its delimiter among the members of its entry
delimiters-among : (groups : List Group) → delimiters_hold (map members_of (map entry groups)) (map delimiter groups) ≡ true → length groups ≤ length (joined (map members_of (map entry groups)))
unfolding delimiters_hold joined
delimiters-among [] hold = omega arith
delimiters-among (first ∷ others) hold =
    let list = members_of (entry first) in
    let one : 1 ≤ length list = some-member (delimiter first) list (and_left (delimiter first ∈ᵇ list) _ hold) in
    omega (arith, one, length-append list (joined (map members_of (map entry others))), delimiters-among others (and_right (delimiter first ∈ᵇ list) _ hold))
  where
    some-member : (tag : ℕ) (members : List ℕ) → tag ∈ᵇ members ≡ true → 1 ≤ length members
    some-member tag members holds = let found = member-at tag members holds in omega (arith, found.inside)

-- "no layout takes more than 262,144 words": each group has a member of its own, so there are at most 8,192 groups
pub arranged-few : (layout : Layout) → meets_rules layout ≡ true → meets_limits gate_limits layout ≡ true → length (arranged layout) ≤ 59399
unfolding joined
arranged-few layout rules within =
    let levels = levels_hold (map members_of (all_levels layout)) (map count_tags_of (all_levels layout)) in
    let delimiters = delimiters_hold (map members_of (map entry (all_groups layout))) (map delimiter (all_groups layout)) in
    let hold : levels && delimiters ≡ true = sym (meets_rules-levels layout) ∙ rules in
    let groups = delimiters-among (all_groups layout) (and_right levels delimiters hold) in
    let members = leb-true (length (all_members layout)) 8192 (and_left _ (leb (length (all_required layout)) 2048) within) in
    let required = leb-true (length (all_required layout)) 2048 (and_right (leb (length (all_members layout)) 8192) _ within) in
    omega (arith, groups, members, required, length-arranged layout, length-append (members_of layout) (joined (map members_of (map entry (all_groups layout)))))
