-- Laws of `Count.antt`: what `count_of` gives in each case, of digits that are too many, and of digits alone. Assumes nothing.
use Rattle.std.specs.Prelude.{◌≡◌, refl, ℕ, ◌^◌, ◌≤◌, ◌<◌, true, false, List, [], ◌∷◌, length, get_or, take, Some, None}
use Rattle.std.proofs.Common.{arith}
use borrow.Author.Tests.{lt-ltb, le-ltb}
use Rattle.std.proofs.lemmas.List.Folds.{list_all_at}
use Rattle.ascii.specs.NotationLaws.{and-false}
use Rattle.ascii.specs.Bytes.{non_empty, every}
use Rattle.ascii.specs.Digits.{is_digit, is_digits, decimal}
use Rattle.ascii.specs.DigitsLaws.{decimal_begins}
use Rattle.counts.specs.Count.{count_of}

pub count_of-empty : (value : List ℕ) → length value ≡ 0 → count_of value ≡ None
unfolding count_of non_empty
count_of-empty [] empty = refl
count_of-empty (byte ∷ rest) empty = absurd (omega arith)

module _ (value : List ℕ) where
  pub count_of_not_digits : is_digits value ≡ false → count_of value ≡ None
  count_of_not_digits other = rw other

  pub count_of_too_large : 2 ^ 64 ≤ decimal value → count_of value ≡ None
  count_of_too_large large = rw (le-ltb (decimal value) (2 ^ 64) large, and-false (is_digits value))

  pub count_of_number : (count : ℕ) → is_digits value ≡ true → decimal value ≡ count → count < 2 ^ 64 → count_of value ≡ Some count
  count_of_number count digits makes fits = rw (digits, makes, lt-ltb count (2 ^ 64) fits)

  -- a byte at any place that is no digit
  pub count-stops : (index : ℕ) → index < length value → is_digit (get_or value index 0) ≡ false → count_of value ≡ None
  count-stops index inside other = count_of_not_digits (rw (list_all_at is_digit value index 0 inside other, and-false (non_empty value)))

-- digits that make 2^64 or more decide, whatever stands after them
pub count_of-begins : (value : List ℕ) (index : ℕ) → 2 ^ 64 ≤ decimal (take index value) → count_of value ≡ None
unfolding count_of
count_of-begins value index large =
    let larger : 2 ^ 64 ≤ decimal value = omega (arith, decimal_begins value index) in
    rw (le-ltb (decimal value) (2 ^ 64) larger, and-false (is_digits value))

pub count_of-whole : (value : List ℕ) → (length value ≡ 0 → ⊥) → every is_digit value ≡ true → decimal value < 2 ^ 64 → count_of value ≡ Some (decimal value)
unfolding count_of non_empty
count_of-whole [] some_byte digits fits = absurd (some_byte refl)
count_of-whole (byte ∷ rest) some_byte digits fits = rw (digits, lt-ltb (decimal (byte ∷ rest)) (2 ^ 64) fits)
