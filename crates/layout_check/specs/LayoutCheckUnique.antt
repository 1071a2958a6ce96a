-- The words tell one layout: two layouts whose arrangements begin the same words are equal. So what is read from words that hold the
-- arrangement of a layout is read from that layout. Assumes nothing.
use Rattle.std.specs.Prelude.{◌≡◌, refl, ℕ, zero, suc, Bool, true, false, List, [], ◌∷◌, ◌++◌, map, length, take, drop, if◌then◌else◌}
use Rattle.std.proofs.Common.{sym, ap, ap₂, ◌∙◌, arith, length-append}
use Rattle.std.proofs.lemmas.List.{length-map}
use Rattle.std.proofs.Math.Seq.{take-append_seam, drop-append_seam}
use Rattle.layouts.specs.Limits.{Limits}
use Rattle.layouts.specs.Layout.{Level, Groups, Group, Layout, level_of_lem, no_groups, group_and, group_of_lem, listed, grouped, members_of, required_of, groups_of, count_tag, delimiter, count_tags_of, entry, groups_below, level_order, all_groups, all_levels, joined}
use Rattle.layouts.specs.LayoutLaws.{group_total, group_total-first, groups_below-total, length-level_order, level_order-count_tags}
use Rattle.layouts.specs.LayoutRules.{meets_rules, meets_limits}
use Rattle.layouts.specs.LayoutWords.{flag, arranged, layout_in}
use Rattle.layouts.specs.LayoutCheckSound.{layout_in-begins}
use Rattle.layouts.specs.LayoutCheckComplete.{Columns, arranged-columns, arranged-is_layout}

-- two lists of groups with the same rows
record SameRows (these those : List Group) : Type 0 where
  members : map members_of (map entry these) ≡ map members_of (map entry those)
  required : map required_of (map entry these) ≡ map required_of (map entry those)
  count_tags : map count_tags_of (map entry these) ≡ map count_tags_of (map entry those)
  tags : map count_tag these ≡ map count_tag those
  delimiters : map delimiter these ≡ map delimiter those
  flags : map flag these ≡ map flag those

head_same : {A : Type 0} {one other : A} {rest rest' : List A} → one ∷ rest ≡ other ∷ rest' → one ≡ other
head_same same = cc

tail-same : {A : Type 0} {one other : A} {rest rest' : List A} → one ∷ rest ≡ other ∷ rest' → rest ≡ rest'
tail-same same = cc

grouped-listed : (groups : Groups) → grouped (listed groups) ≡ groups
grouped-listed no_groups = refl
grouped-listed (group_and first others) = ap (group_and first) (grouped-listed others)

same-level : (this that : Level) → members_of this ≡ members_of that → required_of this ≡ required_of that → groups_of this ≡ groups_of that → this ≡ that
same-level (level_of_lem members required groups) (level_of_lem members' required' groups') em er eg =
    let same : groups ≡ groups' = sym (grouped-listed groups) ∙ ap grouped eg ∙ grouped-listed groups' in
    rw (em, er, same)

same_flag : (this that : Bool) → ◌≡◌ {A = ℕ} (if this then 1 else 0) (if that then 1 else 0) → this ≡ that
same_flag true true same = refl
same_flag true false same = let never : ◌≡◌ {A = ℕ} 1 0 = same in absurd (omega arith)
same_flag false true same = let never : ◌≡◌ {A = ℕ} 0 1 = same in absurd (omega arith)
same_flag false false same = refl

same-group : (this that : Group) → count_tag this ≡ count_tag that → delimiter this ≡ delimiter that → flag this ≡ flag that → entry this ≡ entry that → this ≡ that
same-group (group_of_lem tag first needed inner) (group_of_lem tag' first' needed' inner') et ed ef ee = rw (et, ed, same_flag needed needed' ef, ee)

-- a list that is followed by another, cut at its length
split-left : (a b c d : List Group) → length a ≡ length c → a ++ b ≡ c ++ d → a ≡ c
split-left a b c d size same = sym (take-append_seam a b) ∙ ap₂ take size same ∙ take-append_seam c d

split-right : (a b c d : List Group) → length a ≡ length c → a ++ b ≡ c ++ d → b ≡ d
split-right a b c d size same = sym (drop-append_seam a b) ∙ ap₂ drop size same ∙ drop-append_seam c d

nothing-waits : (first : Group) (others : List Group) → group_total (first ∷ others) ≡ 0 → ⊥
nothing-waits first others all = omega (arith, group_total-first first others)

-- groups that give the same rows in the order of levels are the same
same-waiting : (count : ℕ) (these those : List Group) → group_total these ≡ count → group_total those ≡ count → length these ≡ length those → SameRows (level_order count these) (level_order count those) → these ≡ those
unfolding level_order
same-waiting zero [] [] all all' size rows = refl
same-waiting zero [] (first' ∷ others') all all' size rows = absurd (omega arith)
same-waiting zero (first ∷ others) [] all all' size rows = absurd (omega arith)
same-waiting zero (first ∷ others) (first' ∷ others') all all' size rows = absurd (nothing-waits first others all)
same-waiting (suc count) [] [] all all' size rows = refl
same-waiting (suc count) [] (first' ∷ others') all all' size rows = absurd (omega arith)
same-waiting (suc count) (first ∷ others) [] all all' size rows = absurd (omega arith)
same-waiting (suc count) (first ∷ others) (first' ∷ others') all all' size rows =
    let nested = groups_of (entry first) in
    let nested' = groups_of (entry first') in
    let em : members_of (entry first) ≡ members_of (entry first') = head_same rows.members in
    let er : required_of (entry first) ≡ required_of (entry first') = head_same rows.required in
    let ec : count_tags_of (entry first) ≡ count_tags_of (entry first') = head_same rows.count_tags in
    let count_same : length nested ≡ length nested' = sym (length-map nested count_tag) ∙ ap length ec ∙ length-map nested' count_tag in
    let later =
    same-waiting
    count
    (others ++ nested)
    (others' ++ nested')
    (omega (arith, group_total-first first others))
    (omega (arith, group_total-first first' others'))
    (omega (arith, length-append others nested, length-append others' nested', count_same))
    (record {
      members = tail-same rows.members;
      required = tail-same rows.required;
      count_tags = tail-same rows.count_tags;
      tags = tail-same rows.tags;
      delimiters = tail-same rows.delimiters;
      flags = tail-same rows.flags;
    }) in
    let others_same : others ≡ others' = split-left others nested others' nested' (omega arith) later in
    let nested_same : nested ≡ nested' = split-right others nested others' nested' (omega arith) later in
    ap₂ {C = List Group} (λ one rest. one ∷ rest)
    (same-group first first' (head_same rows.tags) (head_same rows.delimiters) (head_same rows.flags) (same-level (entry first) (entry first') em er nested_same))
    others_same

-- the rows of a layout's arrangement are its own
same-columns : (this that : Layout) (words : List ℕ) (n n' : ℕ) (m r t m' r' t' : List (List ℕ)) (d f d' f' : List ℕ) → Columns words n m r t d f → Columns words n' m' r' t' d' f'
    → (n ≡ n') × (m ≡ m') × (r ≡ r') × (t ≡ t') × (d ≡ d') × (f ≡ f')
same-columns this that words n n' m r t m' r' t' d f d' f' here there =
    let same : n ≡ n' = sym here.count ∙ there.count in
    (same, sym here.members_are ∙ rw same there.members_are, sym here.required_are ∙ rw same there.required_are, sym here.count_tags_are ∙ rw same there.count_tags_are, sym here.delimiters_are ∙ rw same there.delimiters_are, sym here.flags_are ∙ rw same there.flags_are)

tags-of : (layout : Layout) → map count_tag (all_groups layout) ≡ joined (map count_tags_of (all_levels layout))
unfolding all_groups joined
tags-of layout = level_order-count_tags (groups_below layout) (groups_of layout) (sym (groups_below-total layout))

-- a row of the groups of one layout, in as many steps as the other has groups
at_count : {A : Type 0} (this that : Layout) → groups_below this ≡ groups_below that → (row : List Group → List A) → row (all_groups this) ≡ row (all_groups that)
    → row (level_order (groups_below that) (groups_of this)) ≡ row (level_order (groups_below that) (groups_of that))
unfolding all_groups
at_count this that count row same = ap (λ (steps : ℕ). row (level_order steps (groups_of this))) (sym count) ∙ same

pub arranged-unique : (this that : Layout) (behind behind' : List ℕ) → arranged this ++ behind ≡ arranged that ++ behind' → this ≡ that
unfolding all_groups
arranged-unique this that behind behind' same =
    let rows =
    same-columns
    this
    that
    (arranged that ++ behind')
    (length (all_groups this))
    (length (all_groups that))
    (map members_of (all_levels this))
    (map required_of (all_levels this))
    (map count_tags_of (all_levels this))
    (map members_of (all_levels that))
    (map required_of (all_levels that))
    (map count_tags_of (all_levels that))
    (map delimiter (all_groups this))
    (map flag (all_groups this))
    (map delimiter (all_groups that))
    (map flag (all_groups that))
    (rw same at (arranged-columns this behind))
    (arranged-columns that behind') in
    let count : groups_below this ≡ groups_below that = sym (length-level_order (groups_below this) (groups_of this) (sym (groups_below-total this))) ∙ rows.0 ∙ length-level_order (groups_below that) (groups_of that) (sym (groups_below-total that)) in
    let top-tags : count_tags_of this ≡ count_tags_of that = head_same rows.3 in
    let size : length (groups_of this) ≡ length (groups_of that) = sym (length-map (groups_of this) count_tag) ∙ ap length top-tags ∙ length-map (groups_of that) count_tag in
    let tags : map count_tag (all_groups this) ≡ map count_tag (all_groups that) = tags-of this ∙ ap joined rows.3 ∙ sym (tags-of that) in
    let groups =
    same-waiting
    (groups_below that)
    (groups_of this)
    (groups_of that)
    (sym (groups_below-total this) ∙ count)
    (sym (groups_below-total that))
    size
    (record {
      members = at_count this that count (λ list. map members_of (map entry list)) (tail-same rows.1);
      required = at_count this that count (λ list. map required_of (map entry list)) (tail-same rows.2);
      count_tags = at_count this that count (λ list. map count_tags_of (map entry list)) (tail-same rows.3);
      tags = at_count this that count (map count_tag) tags;
      delimiters = at_count this that count (map delimiter) rows.4;
      flags = at_count this that count (map flag) rows.5;
    }) in
    same-level this that (head_same rows.1) (head_same rows.2) groups

-- what is read from the words of a layout is the layout
pub layout_in-arranged : (limits : Limits) (layout : Layout) (rest : List ℕ) → meets_rules layout ≡ true → meets_limits limits layout ≡ true → layout_in (arranged layout ++ rest) ≡ layout
layout_in-arranged limits layout rest rules within =
    let found = layout_in-begins limits (arranged layout ++ rest) (arranged-is_layout limits layout rest rules within) in
    arranged-unique (layout_in (arranged layout ++ rest)) layout found.0 rest found.1
