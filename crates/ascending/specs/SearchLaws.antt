-- Laws of `Search.antt`, in its order, the answer of `is_strictly_ascending`, and the loop of `binary_search`, turn by turn. Assumes nothing.
use Rattle.std.specs.Prelude.{◌≡◌, refl, ℕ, zero, suc, ◌+◌, ◌-◌, ◌*◌, ◌≤◌, ◌<◌, Bool, true, false, cond, ◌||◌, List, [], ◌∷◌, ltb, eqb, length, get_or, Option, Some, None}
use Rattle.std.proofs.Common.{sym, ◌∙◌, add-one}
use Rattle.std.proofs.Math.Path.{ap}
use native.Mathlib.Omega.{arith}
use borrow.Author.Tests.{ltb-true, ltb-false, lt-ltb, eqb-true, eqb-false, eq-eqb, ne_eqb}
use Rattle.std.specs.List.{IsAllAdjacentAnswer}
use Rattle.ascii.specs.NotationLaws.{and_left, and_right, and_both}
use Rattle.ascending.specs.Sort.{is_in}
use Rattle.ascending.specs.Search.{StrictlyAbove, StrictlyAscending, is_strictly_above, is_strictly_ascending, rank_from, rank_in, is_found, Holds}

-- ---- StrictlyAscending, place by place

above-each : (low : ℕ) (words : List ℕ) → StrictlyAbove low words → (place : ℕ) → place < length words → low < get_or words place 0
above-each low [] ascends place inside = absurd (omega arith)
above-each low (word ∷ rest) ascends zero inside = ascends.0
above-each low (word ∷ rest) ascends (suc place) inside = omega (arith, ascends.0, above-each word rest ascends.1 place (omega arith))

above-places : (low : ℕ) (words : List ℕ) → StrictlyAbove low words → (place later : ℕ)
    → place < later
    → later < length words
    → get_or words place 0 < get_or words later 0
above-places low [] ascends place later order inside = absurd (omega arith)
above-places low (word ∷ rest) ascends place zero order inside = absurd (omega arith)
above-places low (word ∷ rest) ascends zero (suc later) order inside = above-each word rest ascends.1 later (omega arith)
above-places low (word ∷ rest) ascends (suc place) (suc later) order inside = above-places word rest ascends.1 place later (omega arith) (omega arith)

pub strictly_places : (words : List ℕ) → StrictlyAscending words → (place later : ℕ)
    → place < later
    → later < length words
    → get_or words place 0 < get_or words later 0
strictly_places [] ascends place later order inside = absurd (omega arith)
strictly_places (word ∷ rest) ascends place zero order inside = absurd (omega arith)
strictly_places (word ∷ rest) ascends zero (suc later) order inside = above-each word rest ascends later (omega arith)
strictly_places (word ∷ rest) ascends (suc place) (suc later) order inside = above-places word rest ascends place later (omega arith) (omega arith)

-- ---- is_strictly_ascending is the test of StrictlyAscending

is_strictly_above-true : (low : ℕ) (words : List ℕ) → is_strictly_above low words ≡ true → StrictlyAbove low words
unfolding is_strictly_above
is_strictly_above-true low [] holds = tt
is_strictly_above-true low (word ∷ rest) holds = (
  ltb-true low word (and_left (ltb low word) (is_strictly_above word rest) holds),
  is_strictly_above-true word rest (and_right (ltb low word) (is_strictly_above word rest) holds),
)

above-is_strictly_above : (low : ℕ) (words : List ℕ) → StrictlyAbove low words → is_strictly_above low words ≡ true
unfolding is_strictly_above
above-is_strictly_above low [] ascends = refl
above-is_strictly_above low (word ∷ rest) ascends =
    and_both (ltb low word) (is_strictly_above word rest) (lt-ltb low word ascends.0) (above-is_strictly_above word rest ascends.1)

pub is_strictly_ascending-true : (words : List ℕ) → is_strictly_ascending words ≡ true → StrictlyAscending words
unfolding is_strictly_ascending
is_strictly_ascending-true [] holds = tt
is_strictly_ascending-true (word ∷ rest) holds = is_strictly_above-true word rest holds

pub strictly_is_strictly_ascending : (words : List ℕ) → StrictlyAscending words → is_strictly_ascending words ≡ true
unfolding is_strictly_ascending
strictly_is_strictly_ascending [] ascends = refl
strictly_is_strictly_ascending (word ∷ rest) ascends = above-is_strictly_above word rest ascends

-- ---- the answer of `is_sorted_by` at words and `<`

above_by_places : (low : ℕ) (words : List ℕ) → (0 < length words → low < get_or words 0 0)
    → ((place : ℕ) → suc place < length words → get_or words place 0 < get_or words (suc place) 0)
    → StrictlyAbove low words
above_by_places low [] first next = tt
above_by_places low (word ∷ rest) first next =
    (first (omega arith), above_by_places word rest (λ some_word. next 0 (omega arith)) (λ place inside. next (suc place) (omega arith)))

strictly_by_places : (words : List ℕ) → ((place : ℕ) → suc place < length words → get_or words place 0 < get_or words (suc place) 0) → StrictlyAscending words
strictly_by_places [] next = tt
strictly_by_places (word ∷ rest) next = above_by_places word rest (λ some_word. next 0 (omega arith)) (λ place inside. next (suc place) (omega arith))

pub ascending-answer : (words : List ℕ) (answer : Bool) → IsAllAdjacentAnswer (λ before word above. above ≡ ltb before word) words answer → answer ≡ is_strictly_ascending words
ascending-answer words true each =
    sym (strictly_is_strictly_ascending words (strictly_by_places words (λ place inside. ltb-true (get_or words place 0) (get_or words (suc place) 0) (sym (rw add-one at (each place 0 (omega arith)))))))
ascending-answer words false some_place = go (is_strictly_ascending words) refl
  where
    go : (ascends : Bool) → is_strictly_ascending words ≡ ascends → false ≡ ascends
    go true ascends =
        let above = strictly_places words (is_strictly_ascending-true words ascends) some_place.0 (some_place.0 + 1) (omega arith) some_place.1 in
        let not_above = ltb-false (get_or words some_place.0 0) (get_or words (some_place.0 + 1) 0) (sym (some_place.2 0)) in
        absurd (omega (arith, above, not_above))
    go false ascends = refl

pub ascends-empty : (words : List ℕ) → length words ≡ 0 → is_strictly_ascending words ≡ true
unfolding is_strictly_ascending
ascends-empty [] empty = refl
ascends-empty (word ∷ rest) empty = absurd (omega arith)

-- each word is above the one before it
pub ascends-ends : (words : List ℕ) → ((place : ℕ) → suc place < length words → get_or words place 0 < get_or words (suc place) 0) → is_strictly_ascending words ≡ true
ascends-ends words each = strictly_is_strictly_ascending words (strictly_by_places words each)

-- a word at any place that is not above the one before it
pub ascends-stops : (words : List ℕ) (index : ℕ) → 0 < index → index < length words → get_or words index 0 ≤ get_or words (index - 1) 0
    → is_strictly_ascending words ≡ false
ascends-stops words index some_word inside not-above = go (is_strictly_ascending words) refl
  where
    go : (ascends : Bool) → is_strictly_ascending words ≡ ascends → is_strictly_ascending words ≡ false
    go true ascends = absurd (omega (arith, strictly_places words (is_strictly_ascending-true words ascends) (index - 1) index (omega arith) inside))
    go false ascends = ascends

-- ---- rank_in

rank_from-at : (index : ℕ) (words : List ℕ) (tag place : ℕ)
    → place < length words
    → get_or words place 0 ≡ tag
    → ((before : ℕ) → before < place → get_or words before 0 ≡ tag → ⊥)
    → rank_from index words tag ≡ Some (index + place)
unfolding rank_from
rank_from-at index [] tag place inside there first = absurd (omega arith)
rank_from-at index (word ∷ rest) tag zero inside there first = rw (eq-eqb word tag there) (ap Some (omega arith))
rank_from-at index (word ∷ rest) tag (suc place) inside there first =
    let next : index + 1 + place ≡ index + suc place = omega arith in
    rw (ne_eqb word tag (first 0 (omega arith)))
    (rank_from-at (index + 1) rest tag place (omega arith) there (λ before order. first (suc before) (omega arith)) ∙ ap Some next)

rank_from-nothing : (index : ℕ) (words : List ℕ) (tag : ℕ)
    → ((place : ℕ) → place < length words → get_or words place 0 ≡ tag → ⊥)
    → rank_from index words tag ≡ None
unfolding rank_from
rank_from-nothing index [] tag nowhere = refl
rank_from-nothing index (word ∷ rest) tag nowhere =
    rw (ne_eqb word tag (nowhere 0 (omega arith))) (rank_from-nothing (index + 1) rest tag (λ place inside. nowhere (suc place) (omega arith)))

module _ (words : List ℕ) (tag : ℕ) where
  pub rank_in-at : (place : ℕ)
      → place < length words
      → get_or words place 0 ≡ tag
      → ((before : ℕ) → before < place → get_or words before 0 ≡ tag → ⊥)
      → rank_in words tag ≡ Some place
  unfolding rank_in
  rank_in-at place inside there first =
      let same : 0 + place ≡ place = omega arith in
      rank_from-at 0 words tag place inside there first ∙ ap Some same

  pub rank_in-nothing : ((place : ℕ) → place < length words → get_or words place 0 ≡ tag → ⊥) → rank_in words tag ≡ None
  unfolding rank_in
  rank_in-nothing = rank_from-nothing 0 words tag

is_found-by : (test : Bool) (index : ℕ) (rest : List ℕ) (tag : ℕ) → is_found (rank_from (index + 1) rest tag) ≡ is_in tag rest
    → is_found (cond test (Some index) (rank_from (index + 1) rest tag)) ≡ test || is_in tag rest
unfolding is_found
is_found-by true index rest tag deeper = refl
is_found-by false index rest tag deeper = deeper

is_found-from : (index : ℕ) (words : List ℕ) (tag : ℕ) → is_found (rank_from index words tag) ≡ is_in tag words
unfolding rank_from is_found is_in
is_found-from index [] tag = refl
is_found-from index (word ∷ rest) tag = is_found-by (eqb word tag) index rest tag (is_found-from (index + 1) rest tag)

-- a tag has a rank where it is among the words
pub is_found-rank : (words : List ℕ) (tag : ℕ) → is_found (rank_in words tag) ≡ is_in tag words
unfolding rank_in
is_found-rank words tag = is_found-from 0 words tag

-- a rank that was found is a place
rank_from-inside : (index : ℕ) (words : List ℕ) (tag rank : ℕ) → rank_from index words tag ≡ Some rank → rank < index + length words
unfolding rank_from
rank_from-inside index [] tag rank found = let never : ◌≡◌ {A = ℕ} 0 1 = cc in absurd (omega arith)
rank_from-inside index (word ∷ rest) tag rank found = go (eqb word tag) found (rank_from-inside (index + 1) rest tag rank)
  where
    go : (test : Bool) → cond test (Some index) (rank_from (index + 1) rest tag) ≡ Some rank → (rank_from (index + 1) rest tag ≡ Some rank → rank < index + 1 + length rest) → rank < index + suc (length rest)
    go true here later = let same : index ≡ rank = cc in omega arith
    go false there later = omega (arith, later there)

pub rank_in-inside : (words : List ℕ) (tag rank : ℕ) → rank_in words tag ≡ Some rank → rank < length words
unfolding rank_in
rank_in-inside words tag rank found = omega (arith, rank_from-inside 0 words tag rank found)

-- ---- Holds

pub holds_at : (words : List ℕ) (tag place : ℕ) (found : Option ℕ)
    → found ≡ Some place
    → Holds words tag found
    → (place < length words) × (get_or words place 0 ≡ tag)
holds_at words tag place found there holds = rw there at holds

-- ---- the loop of `binary_search`

-- where the words ascend, those before `base` are below the tag and those behind the `size` words from `base` on above it; `last` is the word at `base`
pub record SearchSoFar (words : List ℕ) (tag base last size : ℕ) : Type 0 where
  pub some_word : 0 < size
  pub within : base + size ≤ length words
  pub last_is : last ≡ get_or words base 0
  pub below : StrictlyAscending words → (place : ℕ) → place < base → get_or words place 0 < tag
  pub above : StrictlyAscending words → (place : ℕ) → base + size ≤ place → place < length words → tag < get_or words place 0

pub search_empty : (words : List ℕ) (tag : ℕ) → length words ≡ 0 → StrictlyAscending words → None ≡ rank_in words tag
search_empty words tag empty ascends = sym (rank_in-nothing words tag (λ place inside there. omega (arith, empty, inside)))

pub search_begins : (words : List ℕ) (tag : ℕ) → (length words ≡ 0 → ⊥) → SearchSoFar words tag 0 (get_or words 0 0) (length words)
search_begins words tag some_word = record {
  some_word = omega (arith, some_word);
  within = omega arith;
  last_is = refl;
  below = λ ascends place before. absurd (omega arith);
  above = λ ascends place from inside. absurd (omega arith);
}

module _ (words : List ℕ) (tag base last size : ℕ) (so_far : SearchSoFar words tag base last size) where
  -- one word is left
  module _ (one : size ≤ 1) where
    pub search_finds : last ≡ tag → StrictlyAscending words → Some base ≡ rank_in words tag
    search_finds there ascends =
        let inside : base < length words = omega (arith, so_far.some_word, so_far.within) in
        sym (rank_in-at words tag base inside (sym so_far.last_is ∙ there) (λ place earlier same. omega (arith, so_far.below ascends place earlier)))

    pub search_holds : last ≡ tag → (base < length words) × (get_or words base 0 ≡ tag)
    search_holds there = (omega (arith, so_far.some_word, so_far.within), sym so_far.last_is ∙ there)

    pub search_misses : (last ≡ tag → ⊥) → StrictlyAscending words → None ≡ rank_in words tag
    search_misses differs ascends = sym (rank_in-nothing words tag (λ place inside there. by_side place inside there (ltb place base) refl (eqb place base) refl))
      where
        by_side : (place : ℕ) → place < length words → get_or words place 0 ≡ tag → (before : Bool) → ltb place base ≡ before → (here : Bool) → eqb place base ≡ here → ⊥
        by_side place inside there true before here same = omega (arith, there, so_far.below ascends place (ltb-true place base before))
        by_side place inside there false before true same = differs (so_far.last_is ∙ ap (λ (at : ℕ). get_or words at 0) (sym (eqb-true place base same)) ∙ there)
        by_side place inside there false before false same =
            omega (arith, there, so_far.above ascends place (omega (arith, one, ltb-false place base before, eqb-false place base same)) inside)

  -- a word in the second half
  module _ (half : ℕ) (some-half : 0 < half) (not_more : 2 * half ≤ size) where
    pub search_goes_up : get_or words (base + half) 0 ≤ tag → SearchSoFar words tag (base + half) (get_or words (base + half) 0) (size - half)
    search_goes_up under = record {
      some_word = omega arith;
      within = omega (arith, so_far.within);
      last_is = refl;
      below = λ ascends place earlier. omega (arith, under, strictly_places words ascends place (base + half) earlier (omega (arith, so_far.within)));
      above = λ ascends place later inside. so_far.above ascends place (omega (arith, later)) inside;
    }

    pub search_goes_down : tag < get_or words (base + half) 0 → SearchSoFar words tag base last (size - half)
    search_goes_down over = record {
      some_word = omega arith;
      within = omega (arith, so_far.within);
      last_is = so_far.last_is;
      below = so_far.below;
      above = λ ascends place later inside. by_first ascends place (eqb place (base + half)) refl later inside;
    }
      where
        by_first : StrictlyAscending words → (place : ℕ) (test : Bool) → eqb place (base + half) ≡ test → base + (size - half) ≤ place → place < length words
            → tag < get_or words place 0
        by_first ascends place true test later inside = rw (eqb-true place (base + half) test) over
        by_first ascends place false test later inside =
            omega (arith, over, strictly_places words ascends (base + half) place (omega (arith, later, eqb-false place (base + half) test)) inside)
