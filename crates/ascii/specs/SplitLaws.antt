-- Laws of `Split.antt`, in its order, for any separator. The last section is for code that searches a separator from `from` on and finds
-- it, or the end, at `found`. Assumes nothing.
use Rattle.std.specs.Prelude.{◌≡◌, ℕ, suc, ◌+◌, ◌-◌, ◌≤◌, ◌<◌, Bool, not, cond, eqb, ltb, length, get_or, take, drop}
use Rattle.std.proofs.Math.Path.{refl, ap, sym}
use Rattle.std.proofs.Common.{◌∙◌, arith, drop_of_length-le, length-drop, drop-drop}
use Rattle.std.proofs.Math.Bool.{true, false}
use mathlib.Core.List.{List, [], ◌∷◌, ◌++◌}
use borrow.Author.Tests.{eqb-true, not-true, eq-eqb, ne_eqb}
use Rattle.std.specs.List.{position_or_len, position}
use Rattle.std.specs.Option.{unwrap_or}
use Rattle.std.proofs.Common.{Some, None, rules}
use Rattle.std.proofs.lemmas.List.Recursion.{is_position_or_len}
use Rattle.ascii.specs.NotationLaws.{and_left, and_right}
use Rattle.ascii.specs.BytesLaws.{drop-step}
use Rattle.ascii.specs.Split.{index_of, Parts, last, part, with_first, split, every_part, without, join}

-- ---- index_of

module _ (separator : ℕ) (value : List ℕ) (index : ℕ) where
  pub index_of_here : index < length value → get_or value index 0 ≡ separator → index_of separator (drop index value) ≡ 0
  unfolding index_of
  index_of_here inside same = rw (drop-step value index inside, eq-eqb _ _ same)

  pub index_of_further : index < length value → (get_or value index 0 ≡ separator → ⊥)
      → index_of separator (drop index value) ≡ suc (index_of separator (drop (index + 1) value))
  unfolding index_of
  index_of_further inside other = rw (drop-step value index inside, ne_eqb _ _ other)

  pub index_of_end : length value ≤ index → index_of separator (drop index value) ≡ 0
  unfolding index_of
  index_of_end over = rw (drop_of_length-le value over)

index_of_within_by : (test : Bool) (m n : ℕ) → m ≤ n → cond test 0 (suc m) ≤ suc n
index_of_within_by true m n less = omega arith
index_of_within_by false m n less = omega arith

pub index_of_within : (separator : ℕ) (value : List ℕ) → index_of separator value ≤ length value
unfolding index_of
index_of_within separator [] = omega arith
index_of_within separator (byte ∷ rest) = index_of_within_by (eqb byte separator) _ _ (index_of_within separator rest)

-- `value.iter().position(|byte| *byte == separator)` and `unwrap_or(value.len())` of it
index_of_first : (separator byte : ℕ) (rest : List ℕ) → index_of separator (byte ∷ rest) ≡ cond (eqb byte separator) 0 (1 + index_of separator rest)
unfolding index_of
index_of_first separator byte rest = ap (cond (eqb byte separator) 0) (omega arith)

pub index_of_is : (separator : ℕ) (value : List ℕ) → index_of separator value ≡ position_or_len (λ byte. eqb byte separator) value
unfolding index_of
index_of_is separator value = is_position_or_len (index_of separator) (λ byte. eqb byte separator) refl (index_of_first separator) value

index_of_or_len : (first len : ℕ) → first ≤ len → unwrap_or (cond (ltb first len) (Some first) None) len ≡ first
index_of_or_len first len within = search rules

pub index_of_position : (separator : ℕ) (value : List ℕ) → unwrap_or (position (λ byte. eqb byte separator) value) (length value) ≡ index_of separator value
index_of_position separator value =
    let within : position_or_len (λ byte. eqb byte separator) value ≤ length value = rw (sym (index_of_is separator value)) (index_of_within separator value) in
    index_of_or_len _ _ within ∙ sym (index_of_is separator value)

-- ---- split

module _ (separator : ℕ) where
  split-found_by : (test : Bool) (byte : ℕ) (rest : List ℕ)
      → cond test 0 (suc (index_of separator rest)) < suc (length rest)
      → (index_of separator rest < length rest
      → split separator rest ≡ part (take (index_of separator rest) rest) (split separator (drop (suc (index_of separator rest)) rest)))
      → cond test (part [] (split separator rest)) (with_first byte (split separator rest))
      ≡ part
      (take (cond test 0 (suc (index_of separator rest))) (byte ∷ rest))
      (split separator (drop (suc (cond test 0 (suc (index_of separator rest)))) (byte ∷ rest)))
  unfolding with_first
  split-found_by true byte rest inside of-rest = refl
  split-found_by false byte rest inside of-rest = ap (with_first byte) (of-rest (omega arith))

  pub split-found : (value : List ℕ) → index_of separator value < length value
      → split separator value ≡ part (take (index_of separator value) value) (split separator (drop (suc (index_of separator value)) value))
  unfolding index_of split
  split-found [] inside = absurd (omega arith)
  split-found (byte ∷ rest) inside = split-found_by (eqb byte separator) byte rest inside (split-found rest)

  split-none_by : (test : Bool) (byte : ℕ) (rest : List ℕ)
      → suc (length rest) ≤ cond test 0 (suc (index_of separator rest))
      → (length rest ≤ index_of separator rest → split separator rest ≡ last rest)
      → cond test (part [] (split separator rest)) (with_first byte (split separator rest)) ≡ last (byte ∷ rest)
  unfolding with_first
  split-none_by true byte rest over of-rest = absurd (omega arith)
  split-none_by false byte rest over of-rest = ap (with_first byte) (of-rest (omega arith))

  pub split-none : (value : List ℕ) → length value ≤ index_of separator value → split separator value ≡ last value
  unfolding index_of split
  split-none [] over = refl
  split-none (byte ∷ rest) over = split-none_by (eqb byte separator) byte rest over (split-none rest)

-- ---- without

module _ (separator : ℕ) where
  without-cons : (byte : ℕ) (rest : List ℕ) → without separator (byte ∷ rest) ≡ true → eqb byte separator ≡ false
  without-cons byte rest holds = not-true (eqb byte separator) (and_left _ _ holds)

  without-rest : (byte : ℕ) (rest : List ℕ) → without separator (byte ∷ rest) ≡ true → without separator rest ≡ true
  without-rest byte rest holds = and_right (not (eqb byte separator)) _ holds

  pub split-last : (bytes : List ℕ) → without separator bytes ≡ true → split separator bytes ≡ last bytes
  unfolding split with_first
  split-last [] holds = refl
  split-last (byte ∷ rest) holds = rw (without-cons byte rest holds) (ap (with_first byte) (split-last rest (without-rest byte rest holds)))

  pub split-part : (bytes others : List ℕ) → without separator bytes ≡ true
      → split separator (bytes ++ (separator ∷ others)) ≡ part bytes (split separator others)
  unfolding split with_first
  split-part [] others holds = rw (eq-eqb separator separator refl)
  split-part (byte ∷ rest) others holds =
      rw (without-cons byte rest holds) (ap (with_first byte) (split-part rest others (without-rest byte rest holds)))

  -- no part has a separator
  without-with_first : (byte : ℕ) (parts : Parts) → eqb byte separator ≡ false
      → every_part (without separator) (with_first byte parts) ≡ every_part (without separator) parts
  unfolding every_part with_first
  without-with_first byte (last bytes) other = rw other
  without-with_first byte (part bytes others) other = rw other

  split-without_by : (byte : ℕ) (parts : Parts) (test : Bool) → eqb byte separator ≡ test → every_part (without separator) parts ≡ true
      → every_part (without separator) (cond test (part [] parts) (with_first byte parts)) ≡ true
  unfolding every_part
  split-without_by byte parts true same of_parts = of_parts
  split-without_by byte parts false other of_parts = without-with_first byte parts other ∙ of_parts

  pub split-without : (value : List ℕ) → every_part (without separator) (split separator value) ≡ true
  unfolding split every_part
  split-without [] = refl
  split-without (byte ∷ rest) = split-without_by byte (split separator rest) (eqb byte separator) refl (split-without rest)

  -- ---- join

  join-with_first : (byte : ℕ) (parts : Parts) → join separator (with_first byte parts) ≡ byte ∷ join separator parts
  unfolding join with_first
  join-with_first byte (last bytes) = refl
  join-with_first byte (part bytes others) = refl

  join-split_by : (byte : ℕ) (parts : Parts) (rest : List ℕ) (test : Bool) → eqb byte separator ≡ test → join separator parts ≡ rest
      → join separator (cond test (part [] parts) (with_first byte parts)) ≡ byte ∷ rest
  unfolding join
  join-split_by byte parts rest true same of_parts = rw (eqb-true byte separator same, of_parts)
  join-split_by byte parts rest false other of_parts = join-with_first byte parts ∙ ap (λ (bytes : List ℕ). byte ∷ bytes) of_parts

  -- the parts of a value, joined, are the value; parts without separators are those of what they join to
  pub join-split : (value : List ℕ) → join separator (split separator value) ≡ value
  unfolding split join
  join-split [] = refl
  join-split (byte ∷ rest) = join-split_by byte (split separator rest) rest (eqb byte separator) refl (join-split rest)

  pub split-join : (parts : Parts) → every_part (without separator) parts ≡ true → split separator (join separator parts) ≡ parts
  unfolding every_part join
  split-join (last bytes) holds = split-last bytes holds
  split-join (part bytes others) holds =
      split-part bytes (join separator others) (and_left _ _ holds)
      ∙ ap (part bytes) (split-join others (and_right (without separator bytes) _ holds))

-- ---- a search from `from` on

module _ (separator : ℕ) (value : List ℕ) (from found : ℕ) (starts : from ≤ length value)
    (place : found ≡ from + index_of separator (drop from value)) where
  pub found_within : (from ≤ found) × (found ≤ length value)
  found_within = (omega arith, omega (arith, index_of_within separator (drop from value), length-drop from value))

  pub split-at_found : (found ≡ length value → ⊥)
      → split separator (drop from value) ≡ part (take (found - from) (drop from value)) (split separator (drop (found + 1) value))
  split-at_found inside =
      let here : index_of separator (drop from value) ≡ found - from = omega arith in
      let behind : from + suc (found - from) ≡ found + 1 = omega (arith, found_within) in
      let before-end : found < length value = omega (arith, found_within) in
      split-found separator (drop from value) (omega (arith, length-drop from value, before-end)) ∙ rw (drop-drop, here, behind)

  pub split-at_end : found ≡ length value → split separator (drop from value) ≡ last (drop from value)
  split-at_end end = split-none separator (drop from value) (omega (arith, length-drop from value))

  -- ---- every_part

  module _ (test : List ℕ → Bool) where
    pub every_part-last : found ≡ length value → every_part test (split separator (drop from value)) ≡ test (drop from value)
    unfolding every_part
    every_part-last end = rw (split-at_end end)

    module _ (inside : found ≡ length value → ⊥) where
      pub every_part-goes_on : test (take (found - from) (drop from value)) ≡ true
          → every_part test (split separator (drop from value)) ≡ every_part test (split separator (drop (found + 1) value))
      unfolding every_part
      every_part-goes_on passes = rw (split-at_found inside, passes)

      pub every_part-fails : test (take (found - from) (drop from value)) ≡ false → every_part test (split separator (drop from value)) ≡ false
      unfolding every_part
      every_part-fails fails = rw (split-at_found inside, fails)
