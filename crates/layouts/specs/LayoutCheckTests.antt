-- Laws of `LayoutCheck.antt`, test by test: what each test of the check answers from the parts of the words that it looks at. `answer` is
-- what a part of the check has found, and `read` says what a word is. Assumes nothing.
use Rattle.std.proofs.Math.Path.{◌≡◌, refl, sym, ap}
use Rattle.std.proofs.Common.{◌∙◌}
use Rattle.std.proofs.Math.Numerals.{add-one}
use Rattle.std.proofs.lemmas.List.Folds.{list_any_at}
use Prim.Native.Nat.{ℕ, zero, suc, ◌+◌, ◌*◌, ◌-◌, ◌≤◌, ◌<◌}
use Rattle.std.specs.Prelude.{Bool, true, take}
use Rattle.std.proofs.Math.Bool.{false}
use mathlib.Core.List.{List, [], ◌∷◌}
use native.Mathlib.Omega.{arith}
use Rattle.std.proofs.Math.ListN.{length, get_or, drop}
use Rattle.std.proofs.Math.Dec.{eqb, leb}
use borrow.Author.Tests.{le-leb, lt-leb, eq-eqb, ne_eqb}
use Rattle.ascii.specs.NotationLaws.{and-false}
use Rattle.ascii.specs.Bytes.{every}
use Rattle.ascii.specs.BytesLaws.{non_empty-none, non_empty-some}
use Rattle.layouts.specs.Limits.{Limits}
use Rattle.ascending.specs.Sort.{is_in}
use Rattle.layouts.specs.LayoutRules.{◌∈ᵇ◌}
use Rattle.layouts.specs.LayoutRulesLaws.{member-later}
use Rattle.layouts.specs.LayoutCheck.{never_falls, is_run, is_ahead, member_places_hold, required_places_hold, group_places_hold, is_flag, all_levels_hold, all_delimiters_hold, is_layout_of, is_layout}
use Rattle.layouts.specs.LayoutCheckLaws.{is_in-any}

-- ---- is_run: a place that is less than the one before it

never_falls-falls : (place : ℕ) (rest : List ℕ) (index : ℕ) → index < length rest → get_or rest index 0 < get_or (place ∷ rest) index 0 → never_falls place rest ≡ false
unfolding never_falls
never_falls-falls place [] index inside below = absurd (omega arith)
never_falls-falls place (next ∷ rest) zero inside below = rw (lt-leb place next below)
never_falls-falls place (next ∷ rest) (suc index) inside below = rw (never_falls-falls next rest index (omega arith) below, and-false (leb place next))

pub run-falls : (first : ℕ) (places : List ℕ) (index : ℕ) → index + 1 < length places → get_or places (index + 1) 0 < get_or places index 0 → is_run first places ≡ false
unfolding is_run
run-falls first [] index inside below = refl
run-falls first (place ∷ rest) index inside below =
    rw (never_falls-falls place rest index (omega arith) (rw add-one at below), and-false (eqb place first))

-- ---- _∈ᵇ_: a member at any place, or at none

pub member-found : (tag : ℕ) (members : List ℕ) (index : ℕ) → index < length members → get_or members index 0 ≡ tag → tag ∈ᵇ members ≡ true
member-found tag members index inside same =
    sym (is_in-any tag members) ∙ list_any_at (λ member. eqb member tag) members index 0 inside (eq-eqb (get_or members index 0) tag same)

pub member-ends : (tag : ℕ) (members : List ℕ) → ((index : ℕ) → index < length members → get_or members index 0 ≡ tag → ⊥) → tag ∈ᵇ members ≡ false
unfolding is_in
member-ends tag [] nowhere = refl
member-ends tag (member ∷ rest) nowhere =
    member-later tag member rest (nowhere 0 (omega arith)) ∙ member-ends tag rest (λ index inside. nowhere (suc index) (omega arith))

-- ---- the three rows of places

-- the part of the words from `from` on, with so many words
pub part_count : (words : List ℕ) (from past count : ℕ) → past ≡ from + count → take (past - from) (drop from words) ≡ take count (drop from words)
part_count words from past count ends = let same : past - from ≡ count = omega arith in rw same

module _ (limits : Limits) (groups : ℕ) (words : List ℕ) (answer : Bool) where
  module _ (run : answer ≡ is_run (7 + 6 * groups) (take (groups + 3 - 1) (drop 1 words))) where
    member-run : is_run (7 + 6 * groups) (take (groups + 2) (drop 1 words)) ≡ answer
    member-run = sym (run ∙ ap (is_run (7 + 6 * groups)) (part_count words 1 (groups + 3) (groups + 2) (omega arith)))

    pub member_places_hold-no_run : answer ≡ false → member_places_hold limits groups words ≡ false
    unfolding member_places_hold
    member_places_hold-no_run fails = rw (member-run, fails)

    pub member_places_hold-run : answer ≡ true → (end : ℕ) → end ≡ get_or words (groups + 2) 0 → leb end (7 + 6 * groups + limits.members) ≡ member_places_hold limits groups words
    unfolding member_places_hold
    member_places_hold-run holds end read = rw (member-run, holds, read)

  module _ (first : ℕ) (read : first ≡ get_or words (groups + 2) 0) (run : answer ≡ is_run first (take (5 + 2 * groups - (3 + groups)) (drop (3 + groups) words))) where
    required-run : is_run (get_or words (groups + 2) 0) (take (groups + 2) (drop (3 + groups) words)) ≡ answer
    required-run = sym (run ∙ rw (read, part_count words (3 + groups) (5 + 2 * groups) (groups + 2) (omega arith)))

    pub required_places_hold-no_run : answer ≡ false → required_places_hold limits groups words ≡ false
    unfolding required_places_hold
    required_places_hold-no_run fails = rw (required-run, fails)

    module _ (holds : answer ≡ true) (end : ℕ) (End-read : end ≡ get_or words (4 + 2 * groups) 0) where
      pub required_places_hold-over : first + limits.required < end → required_places_hold limits groups words ≡ false
      unfolding required_places_hold
      required_places_hold-over over = rw (required-run, holds, ← End-read, ← read, lt-leb end (first + limits.required) over)

      pub required_places_hold-run : end ≤ first + limits.required → leb end (length words) ≡ required_places_hold limits groups words
      unfolding required_places_hold
      required_places_hold-run within = rw (required-run, holds, ← End-read, ← read, le-leb end (first + limits.required) within)

module _ (groups : ℕ) (words : List ℕ) (answer : Bool) (run : answer ≡ is_run (7 + 3 * groups) (take (7 + 3 * groups - (5 + 2 * groups)) (drop (5 + 2 * groups) words))) where
  group-run : is_run (7 + 3 * groups) (take (groups + 2) (drop (5 + 2 * groups) words)) ≡ answer
  group-run = sym (run ∙ ap (is_run (7 + 3 * groups)) (part_count words (5 + 2 * groups) (7 + 3 * groups) (groups + 2) (omega arith)))

  pub group_places_hold-no_run : answer ≡ false → group_places_hold groups words ≡ false
  unfolding group_places_hold
  group_places_hold-no_run fails = rw (group-run, fails)

  module _ (holds : answer ≡ true) (end : ℕ) (End-read : end ≡ get_or words (6 + 3 * groups) 0) where
    pub group_places_hold-other_end : (end ≡ 7 + 4 * groups → ⊥) → group_places_hold groups words ≡ false
    unfolding group_places_hold
    group_places_hold-other_end other = rw (group-run, holds, ← End-read, ne_eqb end (7 + 4 * groups) other)

    pub group_places_hold-run : end ≡ 7 + 4 * groups
        → is_ahead (7 + 3 * groups) (take (6 + 3 * groups - (6 + 2 * groups)) (drop (6 + 2 * groups) words)) ≡ group_places_hold groups words
    unfolding group_places_hold
    group_places_hold-run same = rw (group-run, holds, ← End-read, eq-eqb end (7 + 4 * groups) same, part_count words (6 + 2 * groups) (6 + 3 * groups) groups (omega arith))

-- ---- is_layout, test by test

pub is_layout-empty : (limits : Limits) (words : List ℕ) → length words ≡ 0 → is_layout limits words ≡ false
unfolding is_layout
is_layout-empty limits words none = rw (non_empty-none words none)

module _ (limits : Limits) (words : List ℕ) (some_word : length words ≡ 0 → ⊥) (groups : ℕ) (read : groups ≡ get_or words 0 0) where
  is_layout-some : is_layout limits words ≡ is_layout_of limits groups words
  unfolding is_layout
  is_layout-some = rw (non_empty-some words some_word, read)

  pub is_layout-short : length words < 7 + 6 * groups → is_layout limits words ≡ false
  unfolding is_layout_of
  is_layout-short short = is_layout-some ∙ rw (lt-leb (7 + 6 * groups) (length words) short)

  module _ (heads : 7 + 6 * groups ≤ length words) where
    pub is_layout-members : member_places_hold limits groups words ≡ false → is_layout limits words ≡ false
    unfolding is_layout_of
    is_layout-members fails = is_layout-some ∙ rw (le-leb (7 + 6 * groups) (length words) heads, fails)

    module _ (members_hold : member_places_hold limits groups words ≡ true) where
      pub is_layout-required : required_places_hold limits groups words ≡ false → is_layout limits words ≡ false
      unfolding is_layout_of
      is_layout-required fails = is_layout-some ∙ rw (le-leb (7 + 6 * groups) (length words) heads, members_hold, fails)

      module _ (required_hold : required_places_hold limits groups words ≡ true) where
        pub is_layout-groups : group_places_hold groups words ≡ false → is_layout limits words ≡ false
        unfolding is_layout_of
        is_layout-groups fails = is_layout-some ∙ rw (le-leb (7 + 6 * groups) (length words) heads, members_hold, required_hold, fails)

        module _
            (groups_hold_lem : group_places_hold groups words ≡ true)
            (answer : Bool)
            (flags-read : answer ≡ every is_flag (take (7 + 6 * groups - (7 + 5 * groups)) (drop (7 + 5 * groups) words)))
          where
            flags_are : every is_flag (take groups (drop (7 + 5 * groups) words)) ≡ answer
            flags_are = sym (flags-read ∙ ap (every is_flag) (part_count words (7 + 5 * groups) (7 + 6 * groups) groups (omega arith)))

            pub is_layout-flags : answer ≡ false → is_layout limits words ≡ false
            unfolding is_layout_of
            is_layout-flags fails = is_layout-some ∙ rw (le-leb (7 + 6 * groups) (length words) heads, members_hold, required_hold, groups_hold_lem, flags_are, fails)

            module _ (flags_hold : answer ≡ true) where
              pub is_layout-levels : all_levels_hold groups words ≡ false → is_layout limits words ≡ false
              unfolding is_layout_of
              is_layout-levels fails =
                  is_layout-some ∙ rw (le-leb (7 + 6 * groups) (length words) heads, members_hold, required_hold, groups_hold_lem, flags_are, flags_hold, fails)

              pub is_layout-delimiters : all_levels_hold groups words ≡ true → is_layout limits words ≡ all_delimiters_hold groups words
              unfolding is_layout_of
              is_layout-delimiters levels_hold_lem =
                  is_layout-some ∙ rw (le-leb (7 + 6 * groups) (length words) heads, members_hold, required_hold, groups_hold_lem, flags_are, flags_hold, levels_hold_lem)
