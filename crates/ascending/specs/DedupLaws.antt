-- Laws of `Dedup.antt`, and the loop of `dedup`, turn by turn. `members_ascend`: words that are sorted and then deduped ascend strictly.
-- Assumes nothing.
use Rattle.std.specs.Prelude.{◌≡◌, refl, ℕ, suc, ◌+◌, ◌-◌, ◌≤◌, ◌<◌, Bool, true, cond, ◌||◌}
use Rattle.std.proofs.Math.Path.{sym, ap}
use Rattle.std.proofs.Common.{◌∙◌, take-append-drop, drop_of_length-le, take-suc-set, get_or-set_same, get_or-drop, take_at}
use Rattle.std.proofs.Math.Bool.{false}
use mathlib.Core.List.{List, [], ◌∷◌, ◌++◌, append-nil}
use native.Mathlib.Omega.{arith}
use Rattle.std.proofs.Math.Numerals.{add-one}
use Rattle.std.proofs.Math.Dec.{eqb}
use Rattle.std.proofs.Math.ListN.{length, get_or, take, drop, set, length-set}
use Rattle.std.proofs.Math.Seq.{length-take-le, drop-set-lt, drop-drop, append_snoc}
use borrow.Author.Tests.{eqb-true, eqb-false, eq-eqb, ne_eqb}
use Rattle.ascii.specs.BytesLaws.{drop-step}
use Rattle.ascending.specs.Sort.{sorted, AscendingFrom, Ascending, is_in}
use Rattle.ascending.specs.SortLaws.{sorted-ascending, is_in-sorted}
use Rattle.ascending.specs.Search.{StrictlyAbove, StrictlyAscending}
use Rattle.ascending.specs.Dedup.{deduped_after, deduped, deduped_in}

-- ---- how many they are, and where they stand

length-by : (test : Bool) (last word : ℕ) (rest : List ℕ)
    → length (deduped_after last rest) ≤ length rest
    → length (deduped_after word rest) ≤ length rest
    → length (cond test (deduped_after last rest) (word ∷ deduped_after word rest)) ≤ suc (length rest)
length-by true last word rest repeats differs = omega arith
length-by false last word rest repeats differs = omega arith

deduped_after-length : (last : ℕ) (words : List ℕ) → length (deduped_after last words) ≤ length words
unfolding deduped_after
deduped_after-length last [] = omega arith
deduped_after-length last (word ∷ rest) = length-by (eqb word last) last word rest (deduped_after-length last rest) (deduped_after-length word rest)

pub deduped-length : (words : List ℕ) → length (deduped words) ≤ length words
unfolding deduped
deduped-length [] = omega arith
deduped-length (word ∷ rest) = omega (arith, deduped_after-length word rest)

-- the part that `&words[..kept]` lends
pub deduped_in-front : (words : List ℕ) (kept : ℕ) → kept ≡ length (deduped words) → take kept (deduped_in words) ≡ deduped words
unfolding deduped_in
deduped_in-front words kept many = take_at (deduped words) (drop (length (deduped words)) words) kept (sym many)

-- ---- ascending words ascend strictly once deduped

deduped_by : (test : Bool) (last word : ℕ) (rest : List ℕ)
    → eqb word last ≡ test
    → last ≤ word
    → (word ≡ last → StrictlyAbove last (deduped_after last rest))
    → StrictlyAbove word (deduped_after word rest)
    → StrictlyAbove last (cond test (deduped_after last rest) (word ∷ deduped_after word rest))
deduped_by true last word rest test from repeats differs = repeats (eqb-true word last test)
deduped_by false last word rest test from repeats differs = (omega (arith, eqb-false word last test), differs)

deduped_after-strictly : (last : ℕ) (words : List ℕ) → AscendingFrom last words → StrictlyAbove last (deduped_after last words)
unfolding deduped_after
deduped_after-strictly last [] ascends = tt
deduped_after-strictly last (word ∷ rest) ascends =
    deduped_by (eqb word last) last word rest refl ascends.0
    (λ same. deduped_after-strictly last rest (rw same at ascends.1))
    (deduped_after-strictly word rest ascends.1)

pub deduped-strictly : (words : List ℕ) → Ascending words → StrictlyAscending (deduped words)
unfolding deduped
deduped-strictly [] ascends = tt
deduped-strictly (word ∷ rest) ascends = deduped_after-strictly word rest ascends.1

-- ---- the same words are there

either-twice : (test other : Bool) → test || other ≡ test || (test || other)
either-twice true other = refl
either-twice false other = refl

is_in-by : (test : Bool) (each last word : ℕ) (rest : List ℕ)
    → eqb word last ≡ test
    → is_in each (last ∷ deduped_after last rest) ≡ is_in each (last ∷ rest)
    → is_in each (word ∷ deduped_after word rest) ≡ is_in each (word ∷ rest)
    → is_in each (last ∷ cond test (deduped_after last rest) (word ∷ deduped_after word rest)) ≡ is_in each (last ∷ word ∷ rest)
unfolding is_in
is_in-by true each last word rest test repeats differs = rw (eqb-true word last test) (repeats ∙ either-twice (eqb last each) (is_in each rest))
is_in-by false each last word rest test repeats differs = rw differs

is_in-after : (each last : ℕ) (words : List ℕ) → is_in each (last ∷ deduped_after last words) ≡ is_in each (last ∷ words)
unfolding deduped_after
is_in-after each last [] = refl
is_in-after each last (word ∷ rest) = is_in-by (eqb word last) each last word rest refl (is_in-after each last rest) (is_in-after each word rest)

pub is_in-deduped : (word : ℕ) (words : List ℕ) → is_in word (deduped words) ≡ is_in word words
unfolding deduped
is_in-deduped each [] = refl
is_in-deduped each (word ∷ rest) = is_in-after each word rest

-- ---- a level's members: sorted, then deduped

pub members_ascend : (words : List ℕ) → StrictlyAscending (deduped (sorted words))
members_ascend words = deduped-strictly (sorted words) (sorted-ascending words)

pub is_in-members : (word : ℕ) (words : List ℕ) → is_in word (deduped (sorted words)) ≡ is_in word words
is_in-members word words = is_in-deduped word (sorted words) ∙ is_in-sorted word words

-- ---- the loop of `dedup`

-- the words before `kept` are those that stay of the words before `index`; the words from `kept` on are as they were
pub record DedupSoFar (start words : List ℕ) (kept index : ℕ) : Type 0 where
  pub some_word : 0 < kept
  pub order : kept ≤ index
  pub within : index ≤ length start
  pub size : length words ≡ length start
  pub front : deduped start ≡ take kept words ++ deduped_after (get_or words (kept - 1) 0) (drop index start)
  pub behind : drop kept words ≡ drop kept start

pub dedup_empty : (words : List ℕ) → length words ≡ 0 → (0 ≡ length (deduped words)) × (words ≡ deduped_in words)
unfolding deduped deduped_in
dedup_empty [] empty = (refl, refl)
dedup_empty (word ∷ rest) empty = absurd (omega arith)

pub dedup_begins : (words : List ℕ) → (length words ≡ 0 → ⊥) → DedupSoFar words words 1 1
unfolding deduped
dedup_begins [] some_word = absurd (some_word refl)
dedup_begins (word ∷ rest) some_word = record {
  some_word = omega arith;
  order = omega arith;
  within = omega arith;
  size = refl;
  front = refl;
  behind = refl;
}

module _ (start words : List ℕ) (kept index : ℕ) (so_far : DedupSoFar start words kept index) where
  pub dedup_ends : length words ≤ index → (kept ≡ length (deduped start)) × (words ≡ deduped_in start)
  unfolding deduped_after deduped_in
  dedup_ends over =
      let front : deduped start ≡ take kept words =
      so_far.front ∙ rw (drop_of_length-le start {i = index} (omega (arith, so_far.size)), append-nil) in
      let many : kept ≡ length (deduped start) = sym (ap length front ∙ length-take-le kept words (omega (arith, so_far.order, so_far.within, so_far.size))) in
      (many, sym (take-append-drop kept words) ∙ rw (← many, front, so_far.behind))

  module _ (inside : index < length words) where
    -- the word at `index` is not yet changed
    same_word : get_or words index 0 ≡ get_or start index 0
    same_word =
        let there : kept + (index - kept) ≡ index = omega (arith, so_far.order) in
        ap (λ (place : ℕ). get_or words place 0) (sym there)
        ∙ sym (get_or-drop kept words (index - kept) 0)
        ∙ ap (λ (rest : List ℕ). get_or rest (index - kept) 0) so_far.behind
        ∙ get_or-drop kept start (index - kept) 0
        ∙ ap (λ (place : ℕ). get_or start place 0) there

    in_start : index < length start
    in_start = omega (arith, so_far.size)

    pub dedup_drops : get_or words index 0 ≡ get_or words (kept - 1) 0 → DedupSoFar start words kept (index + 1)
    unfolding deduped_after
    dedup_drops repeats = record {
      some_word = so_far.some_word;
      order = omega (arith, so_far.order);
      within = omega (arith, in_start);
      size = so_far.size;
      front = so_far.front ∙ rw (drop-step start index in_start, eq-eqb (get_or start index 0) (get_or words (kept - 1) 0) (sym same_word ∙ repeats));
      behind = so_far.behind;
    }

    module _ (differs : get_or words index 0 ≡ get_or words (kept - 1) 0 → ⊥) where
      kept-inside : kept < length words
      kept-inside = omega (arith, so_far.order)

      pub dedup_keeps : DedupSoFar start (set words kept (get_or words index 0)) (kept + 1) (index + 1)
      unfolding deduped_after
      dedup_keeps =
          let word = get_or words index 0 in
          let after = set words kept word in
          let place : kept + 1 - 1 ≡ kept = omega arith in
          let last : get_or after (kept + 1 - 1) 0 ≡ word = rw place (get_or-set_same words kept word 0 kept-inside) in
          let taken : take (kept + 1) after ≡ take kept words ++ (word ∷ []) = rw add-one (take-suc-set words kept word kept-inside) in
          let other : eqb (get_or start index 0) (get_or words (kept - 1) 0) ≡ false =
          ne_eqb (get_or start index 0) (get_or words (kept - 1) 0) (λ same. differs (same_word ∙ same)) in
          record {
            some_word = omega arith;
            order = omega (arith, so_far.order);
            within = omega (arith, in_start);
            size = length-set words kept word ∙ so_far.size;
            front = so_far.front ∙ rw (drop-step start index in_start, other, taken, last, append_snoc, same_word);
            behind =
                drop-set-lt (kept + 1) words kept word (omega arith)
                ∙ sym (drop-drop 1 kept words)
                ∙ ap (λ (rest : List ℕ). drop 1 rest) so_far.behind
                ∙ drop-drop 1 kept start;
          }
