-- Laws of `Retained.antt`, and the loop of `retain`, turn by turn. Assumes nothing.
use Rattle.std.specs.Prelude.{◌≡◌, refl, ℕ, ◌+◌, ◌-◌, ◌≤◌, ◌<◌, Bool, cond, ◌||◌, set}
use Rattle.std.proofs.Math.Path.{sym, ap}
use Rattle.std.proofs.Common.{◌∙◌, arith, take-append-drop, drop_of_length-le, take-suc-set, get_or-drop, eq-eqb, ne_eqb}
use Rattle.std.proofs.Math.Bool.{true, false}
use mathlib.Core.List.{List, [], ◌∷◌, ◌++◌, append-nil}
use Rattle.std.proofs.Math.Numerals.{add-one}
use Rattle.std.proofs.Math.Dec.{eqb}
use Rattle.std.proofs.Math.ListN.{length, get_or, take, drop, length-set}
use Rattle.std.proofs.Math.Seq.{length-take-le, drop-set-lt, drop-drop, append_snoc}
use Rattle.ascii.specs.BytesLaws.{drop-step}
use Rattle.ascending.specs.Sort.{is_in}
use Rattle.expansion.specs.Expansion.{retained}
use Rattle.expansion.specs.ExpansionRules.{is_in-append}
use Rattle.expansion.specs.Retained.{is_dropped, retained_in}

-- ---- is_dropped

pub dropped_delimiter : (delimiter : ℕ) (seen : List ℕ) (tag : ℕ) → tag ≡ delimiter → is_dropped delimiter seen tag ≡ true
unfolding is_dropped
dropped_delimiter delimiter seen tag same = rw (eq-eqb tag delimiter same)

pub dropped_seen : (delimiter : ℕ) (seen : List ℕ) (tag : ℕ) → (tag ≡ delimiter → ⊥) → is_dropped delimiter seen tag ≡ is_in tag seen
unfolding is_dropped
dropped_seen delimiter seen tag differs = rw (ne_eqb tag delimiter differs)

-- ---- what was seen counts, not in which order

same_by : (test other : Bool) (tag : ℕ) (these those rest others : List ℕ)
    → test ≡ other
    → these ≡ those
    → rest ≡ others
    → cond test these (tag ∷ rest) ≡ cond other those (tag ∷ others)
same_by test other tag these those rest others equal first second = cc

seen_more : (tag each : ℕ) (seen others : List ℕ) → is_in each seen ≡ is_in each others → is_in each (tag ∷ seen) ≡ is_in each (tag ∷ others)
unfolding is_in
seen_more tag each seen others same = ap (λ (deeper : Bool). eqb tag each || deeper) same

pub retained-same : (delimiter : ℕ) (seen others tags : List ℕ)
    → ((tag : ℕ) → is_in tag seen ≡ is_in tag others)
    → retained delimiter seen tags ≡ retained delimiter others tags
unfolding retained
retained-same delimiter seen others [] same = refl
retained-same delimiter seen others (tag ∷ rest) same =
    same_by (eqb tag delimiter || is_in tag seen) (eqb tag delimiter || is_in tag others) tag (retained delimiter seen rest) (retained delimiter others rest)
    (retained delimiter (tag ∷ seen) rest) (retained delimiter (tag ∷ others) rest)
    (ap (λ (known : Bool). eqb tag delimiter || known) (same tag))
    (retained-same delimiter seen others rest same)
    (retained-same delimiter (tag ∷ seen) (tag ∷ others) rest (λ each. seen_more tag each seen others (same each)))

or_swap : (a b : Bool) → a || (b || false) ≡ b || a
or_swap true true = refl
or_swap true false = refl
or_swap false true = refl
or_swap false false = refl

seen_last : (tag each : ℕ) (seen : List ℕ) → is_in each (tag ∷ seen) ≡ is_in each (seen ++ (tag ∷ []))
unfolding is_in
seen_last tag each seen = sym (is_in-append each seen (tag ∷ []) ∙ or_swap (is_in each seen) (eqb tag each))

-- ---- the loop of `retain`

-- the words before `kept` are those that stay of the words before `index`; the words from `kept` on are as they were
pub record RetainSoFar (delimiter : ℕ) (start words : List ℕ) (kept index : ℕ) : Type 0 where
  pub order : kept ≤ index
  pub within : index ≤ length start
  pub size : length words ≡ length start
  pub front : retained delimiter [] start ≡ take kept words ++ retained delimiter (take kept words) (drop index start)
  pub behind : drop kept words ≡ drop kept start

pub retain_begins : (delimiter : ℕ) (start : List ℕ) → RetainSoFar delimiter start start 0 0
retain_begins delimiter start = record { order = omega arith; within = omega arith; size = refl; front = refl; behind = refl }

module _ (delimiter : ℕ) (start words : List ℕ) (kept index : ℕ) (so_far : RetainSoFar delimiter start words kept index) where
  pub retain_ends : length words ≤ index → (kept ≡ length (retained delimiter [] start)) × (words ≡ retained_in delimiter start)
  unfolding retained retained_in
  retain_ends over =
      let front : retained delimiter [] start ≡ take kept words =
      so_far.front ∙ rw (drop_of_length-le start {i = index} (omega (arith, so_far.size)), append-nil) in
      let many : kept ≡ length (retained delimiter [] start) =
      sym (ap length front ∙ length-take-le kept words (omega (arith, so_far.order, so_far.within, so_far.size))) in
      (many, sym (take-append-drop kept words) ∙ rw (← many, front, so_far.behind))

  module _ (inside : index < length words) where
    -- the word at `index` is not yet changed
    same_word : get_or words index 0 ≡ get_or start index 0
    same_word =
        let there : kept + (index - kept) ≡ index = omega (arith, so_far.order) in
        ap (λ (place : ℕ). get_or words place 0) (sym there)
        ∙ sym (get_or-drop kept words (index - kept) 0)
        ∙ ap (λ (rest : List ℕ). get_or rest (index - kept) 0) so_far.behind
        ∙ get_or-drop kept start (index - kept) 0
        ∙ ap (λ (place : ℕ). get_or start place 0) there

    in_start : index < length start
    in_start = omega (arith, so_far.size)

    pub retain_drops : is_dropped delimiter (take kept words) (get_or words index 0) ≡ true → RetainSoFar delimiter start words kept (index + 1)
    unfolding retained is_dropped
    retain_drops dropped =
        let here : eqb (get_or start index 0) delimiter || is_in (get_or start index 0) (take kept words) ≡ true =
        rw same_word at dropped in
        record {
          order = omega (arith, so_far.order);
          within = omega (arith, in_start);
          size = so_far.size;
          front = so_far.front ∙ rw (drop-step start index in_start, here);
          behind = so_far.behind;
        }

    pub retain_keeps : is_dropped delimiter (take kept words) (get_or words index 0) ≡ false
        → RetainSoFar delimiter start (set words kept (get_or words index 0)) (kept + 1) (index + 1)
    unfolding retained is_dropped
    retain_keeps stays =
        let word = get_or words index 0 in
        let kept-inside : kept < length words = omega (arith, so_far.order) in
        let here : eqb (get_or start index 0) delimiter || is_in (get_or start index 0) (take kept words) ≡ false =
        rw same_word at stays in
        let taken : take (kept + 1) (set words kept word) ≡ take kept words ++ (word ∷ []) = rw add-one (take-suc-set words kept word kept-inside) in
        let order : retained delimiter (get_or start index 0 ∷ take kept words) (drop (index + 1) start) ≡ retained delimiter (take kept words ++ (word ∷ [])) (drop (index + 1) start) =
        rw (← same_word)
        (retained-same delimiter (word ∷ take kept words) (take kept words ++ (word ∷ [])) (drop (index + 1) start)
        (λ each. seen_last word each (take kept words))) in
        record {
          order = omega (arith, so_far.order);
          within = omega (arith, in_start);
          size = length-set words kept word ∙ so_far.size;
          front = so_far.front ∙ rw (drop-step start index in_start, here, taken, append_snoc, order, same_word);
          behind =
              drop-set-lt (kept + 1) words kept word (omega arith)
              ∙ sym (drop-drop 1 kept words)
              ∙ ap (λ (rest : List ℕ). drop 1 rest) so_far.behind
              ∙ drop-drop 1 kept start;
        }
