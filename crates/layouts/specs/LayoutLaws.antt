-- Laws of `Layout.antt`, in its order: lists of groups, how many groups there are below them, and the order of levels. Assumes nothing.
--
--   group_total groups        how many groups there are in the list and below its groups
--   every_listed test groups  each group of the list passes the test
--   every_below test groups   each group of the list and each below them passes the test
use Rattle.std.specs.Prelude.{◌≡◌, Bool, ◌&&◌, length}
use Rattle.std.proofs.Math.Path.{refl, ap}
use Rattle.std.proofs.Common.{sym, ◌∙◌, arith}
use Prim.Native.Nat.{ℕ, zero, suc, ◌+◌}
use Rattle.std.proofs.Math.Bool.{true, false}
use mathlib.Core.List.{List, [], ◌∷◌, ◌++◌, map, append_assoc}
use Rattle.layouts.specs.Layout.{Level, Groups, Group, level_of_lem, no_groups, group_and, group_of_lem, listed, grouped, groups_of, count_tag, count_tags_of, entry, groups_below, groups_among, groups_with, level_order, joined}
use Rattle.layouts.specs.LayoutRules.{every_group, every_among, every_with}

-- ---- listed, grouped

pub listed-grouped : (groups : List Group) → listed (grouped groups) ≡ groups
listed-grouped [] = refl
listed-grouped (first ∷ others) = ap {B = List Group} (λ rest. first ∷ rest) (listed-grouped others)

-- ---- groups_below

unfoldable pub group_total : List Group → ℕ
group_total [] = 0
group_total (first ∷ others) = groups_with first + group_total others

pub group_total-append : (these those : List Group) → group_total (these ++ those) ≡ group_total these + group_total those
unfolding group_total
group_total-append [] those = omega arith
group_total-append (first ∷ others) those = omega (arith, group_total-append others those)

pub groups_among-total : (groups : Groups) → groups_among groups ≡ group_total (listed groups)
unfolding groups_below group_total
groups_among-total no_groups = refl
groups_among-total (group_and first others) = ap (λ (total : ℕ). groups_with first + total) (groups_among-total others)

pub groups_below-total : (top : Level) → groups_below top ≡ group_total (groups_of top)
unfolding groups_below
groups_below-total (level_of_lem members required groups) = groups_among-total groups

pub groups_with-total : (one : Group) → groups_with one ≡ suc (group_total (groups_of (entry one)))
unfolding groups_below
groups_with-total (group_of_lem tag first needed inner) = ap suc (groups_below-total inner)

-- ---- level_order

pub group_total-first : (first : Group) (waiting : List Group) → group_total (first ∷ waiting) ≡ suc (group_total (waiting ++ groups_of (entry first)))
unfolding group_total
group_total-first first waiting = omega (arith, group_total-append waiting (groups_of (entry first)), groups_with-total first)

-- one group that waits is passed
waiting-next : (count : ℕ) (first : Group) (waiting : List Group) → group_total (first ∷ waiting) ≡ suc count → group_total (waiting ++ groups_of (entry first)) ≡ count
unfolding group_total
waiting-next count first waiting all = omega (arith, group_total-append waiting (groups_of (entry first)), groups_with-total first)

waiting-some : (first : Group) (waiting : List Group) → group_total (first ∷ waiting) ≡ 0 → ⊥
unfolding group_total
waiting-some first waiting none = omega (arith, groups_with-total first)

none-waiting : (count : ℕ) → group_total [] ≡ suc count → ⊥
unfolding group_total
none-waiting count some = omega arith

pub length-level_order : (count : ℕ) (waiting : List Group) → group_total waiting ≡ count → length (level_order count waiting) ≡ count
unfolding level_order
length-level_order zero waiting all = refl
length-level_order (suc count) [] all = absurd (none-waiting count all)
length-level_order (suc count) (first ∷ waiting) all = ap suc (length-level_order count (waiting ++ groups_of (entry first)) (waiting-next count first waiting all))

pub map-append : {A B : Type 0} (f : A → B) (these those : List A) → map f (these ++ those) ≡ map f these ++ map f those
map-append f [] those = refl
map-append {B = B} f (first ∷ others) those = ap {B = List B} (λ rest. f first ∷ rest) (map-append f others those)

-- behind the groups that wait stand the groups in their entries, level by level
pub level_order-count_tags : (count : ℕ) (waiting : List Group) → group_total waiting ≡ count
    → map count_tag (level_order count waiting) ≡ map count_tag waiting ++ joined (map count_tags_of (map entry (level_order count waiting)))
unfolding level_order joined
level_order-count_tags zero [] all = refl
level_order-count_tags zero (first ∷ waiting) all = absurd (waiting-some first waiting all)
level_order-count_tags (suc count) [] all = absurd (none-waiting count all)
level_order-count_tags (suc count) (first ∷ waiting) all =
    let rest = level_order count (waiting ++ groups_of (entry first)) in
    ap {B = List ℕ} (λ tags. count_tag first ∷ tags)
    (level_order-count_tags count (waiting ++ groups_of (entry first)) (waiting-next count first waiting all)
    ∙ ap (λ (tags : List ℕ). tags ++ joined (map count_tags_of (map entry rest))) (map-append count_tag waiting (groups_of (entry first)))
    ∙ append_assoc (map count_tag waiting) (map count_tag (groups_of (entry first))) (joined (map count_tags_of (map entry rest))))

-- ---- tests of all groups

unfoldable pub every_listed : (Group → Bool) → List Group → Bool
every_listed test [] = true
every_listed test (first ∷ others) = test first && every_listed test others

unfoldable pub every_below : (Group → Bool) → List Group → Bool
every_below test [] = true
every_below test (first ∷ others) = every_with test first && every_below test others

module _ (test : Group → Bool) where
  pub every_below-append : (these those : List Group) → every_below test (these ++ those) ≡ every_below test these && every_below test those
  unfolding every_below
  every_below-append [] those = refl
  every_below-append (first ∷ others) those =
      ap (λ (rest : Bool). every_with test first && rest) (every_below-append others those) ∙ regroup (every_with test first) (every_below test others) (every_below test those)
    where
      regroup : (a b c : Bool) → a && (b && c) ≡ a && b && c
      regroup true b c = refl
      regroup false b c = refl

  pub every_among-listed : (groups : Groups) → every_among test groups ≡ every_below test (listed groups)
  unfolding every_group every_below
  every_among-listed no_groups = refl
  every_among-listed (group_and first others) = ap (λ (rest : Bool). every_with test first && rest) (every_among-listed others)

  pub every_group-below : (top : Level) → every_group test top ≡ every_below test (groups_of top)
  unfolding every_group
  every_group-below (level_of_lem members required groups) = every_among-listed groups

  every_with-below : (one : Group) → every_with test one ≡ test one && every_below test (groups_of (entry one))
  unfolding every_group
  every_with-below (group_of_lem tag first needed inner) = ap (λ (rest : Bool). test (group_of_lem tag first needed inner) && rest) (every_group-below inner)

  -- the order of levels leaves out no group
  pub level_order-every : (count : ℕ) (waiting : List Group) → group_total waiting ≡ count → every_listed test (level_order count waiting) ≡ every_below test waiting
  unfolding level_order every_listed every_below
  level_order-every zero [] all = refl
  level_order-every zero (first ∷ waiting) all = absurd (waiting-some first waiting all)
  level_order-every (suc count) [] all = absurd (none-waiting count all)
  level_order-every (suc count) (first ∷ waiting) all =
      ap
      (λ (rest : Bool). test first && rest)
      (level_order-every count (waiting ++ groups_of (entry first)) (waiting-next count first waiting all) ∙ every_below-append waiting (groups_of (entry first)))
      ∙ swap (test first) (every_below test waiting) (every_below test (groups_of (entry first)))
      ∙ ap (λ (one : Bool). one && every_below test waiting) (sym (every_with-below first))
    where
      swap : (a b c : Bool) → a && (b && c) ≡ a && c && b
      swap true true true = refl
      swap true true false = refl
      swap true false true = refl
      swap true false false = refl
      swap false b c = refl
