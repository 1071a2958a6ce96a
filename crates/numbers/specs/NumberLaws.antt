-- Laws of `Number.antt`, in its order. Assumes nothing.
use Rattle.std.specs.Prelude.{◌≡◌, refl, ℕ, ◌≤◌, ◌<◌, Bool, true, false, ◌&&◌, List, [], ◌∷◌, leb, eqb, ltb, length, get_or, take, drop}
use Rattle.std.proofs.Common.{◌∙◌, rules, arith, ne_eqb, le-leb}
use Rattle.std.proofs.lemmas.Bool.{false≢true, lt-leb}
use Rattle.std.proofs.lemmas.List.Folds.{list_all_at}
use Rattle.ascii.specs.Bytes.{non_empty, every, how_many}
use Rattle.ascii.specs.Notation.{is_between}
use Rattle.ascii.specs.NotationLaws.{and-false, and-true}
use Rattle.ascii.specs.Digits.{is_digit, is_digits, decimal}
use Rattle.ascii.specs.DigitsLaws.{is_digit-range, is_digits-empty, decimal_begins}
use Rattle.numbers.specs.Number.{is_signed, without_sign, is_integer, is_point, is_digit_or_point, is_decimal_body, is_decimal, is_day_of_month}

-- ---- is_signed

-- as a test of the first byte answers it
pub is_signed_is : (value : List ℕ) → is_signed value ≡ (ltb 0 (length value) && eqb (get_or value 0 0) 45)
is_signed_is [] = refl
is_signed_is (byte ∷ rest) = search rules

pub is_signed_empty : (value : List ℕ) → length value ≡ 0 → is_signed value ≡ false
is_signed_empty [] empty = refl
is_signed_empty (byte ∷ rest) empty = absurd (omega arith)

pub is_signed_first : (value : List ℕ) → (length value ≡ 0 → ⊥) → is_signed value ≡ eqb (get_or value 0 0) 45
is_signed_first [] some_byte = absurd (some_byte refl)
is_signed_first (byte ∷ rest) some_byte = refl

-- the sign is a byte of the value
pub is_signed_length : (value : List ℕ) → is_signed value ≡ true → 1 ≤ length value
is_signed_length [] signed = absurd (false≢true signed)
is_signed_length (byte ∷ rest) signed = omega arith

module _ (value : List ℕ) where
  -- ---- without_sign

  pub without_sign-signed : is_signed value ≡ true → without_sign value ≡ drop 1 value
  without_sign-signed signed = rw signed

  pub without_sign-unsigned : is_signed value ≡ false → without_sign value ≡ value
  without_sign-unsigned unsigned = rw unsigned

  -- ---- is_integer

  pub is_integer-no_sign : (allow_sign : Bool) → allow_sign ≡ false → is_integer allow_sign value ≡ is_digits value
  is_integer-no_sign allow_sign refused = rw refused

  pub is_integer-signed : (allow_sign : Bool) → allow_sign ≡ true → is_signed value ≡ true → is_integer allow_sign value ≡ is_digits (drop 1 value)
  is_integer-signed allow_sign allowed signed = rw (allowed, without_sign-signed signed)

  pub is_integer-unsigned : (allow_sign : Bool) → allow_sign ≡ true → is_signed value ≡ false → is_integer allow_sign value ≡ is_digits value
  is_integer-unsigned allow_sign allowed unsigned = rw (allowed, without_sign-unsigned unsigned)

  -- ---- is_decimal

  pub is_decimal-signed : is_signed value ≡ true → is_decimal value ≡ is_decimal_body (drop 1 value)
  is_decimal-signed signed = rw (without_sign-signed signed)

  pub is_decimal-unsigned : is_signed value ≡ false → is_decimal value ≡ is_decimal_body value
  is_decimal-unsigned unsigned = rw (without_sign-unsigned unsigned)

-- ---- is_digit_or_point

module _ (byte : ℕ) where
  pub digit-is_no_point : is_digit byte ≡ true → is_point byte ≡ false
  digit-is_no_point digit = ne_eqb byte 46 (λ point. omega (arith, is_digit-range byte digit))

  pub is_digit_or_point-digit : is_digit byte ≡ true → is_digit_or_point byte ≡ true
  is_digit_or_point-digit digit = rw digit

  pub is_digit_or_point-other : is_digit byte ≡ false → is_digit_or_point byte ≡ is_point byte
  is_digit_or_point-other other = rw other

-- ---- is_decimal_body

module _ (body : List ℕ) where
  -- a byte at any place that is neither a digit nor a point
  pub body-fails : (index : ℕ) → index < length body → is_digit (get_or body index 0) ≡ false → is_point (get_or body index 0) ≡ false
      → is_decimal_body body ≡ false
  body-fails index inside no_digit no_point =
      rw (list_all_at is_digit_or_point body index 0 inside (is_digit_or_point-other (get_or body index 0) no_digit ∙ no_point))

  module _ (passed : every is_digit_or_point body ≡ true) where
    pub body-ends : is_decimal_body body ≡ leb 1 (how_many is_digit body) && leb (how_many is_point body) 1
    body-ends = rw passed

    pub body-ends_with_digits : 1 ≤ how_many is_digit body → is_decimal_body body ≡ leb (how_many is_point body) 1
    body-ends_with_digits some = body-ends ∙ rw (le-leb 1 (how_many is_digit body) some)

    pub body-ends_without : how_many is_digit body < 1 → is_decimal_body body ≡ false
    body-ends_without none = body-ends ∙ rw (lt-leb 1 (how_many is_digit body) none)

-- ---- is_day_of_month

-- what the upper bound decides where it is tested first
is_between-above : (low high n : ℕ) → high < n → is_between low high n ≡ false
unfolding is_between
is_between-above low high n above = rw (lt-leb n high above, and-false (leb low n))

is_between-to : (low high n : ℕ) → n ≤ high → is_between low high n ≡ leb low n
unfolding is_between
is_between-to low high n to = rw (le-leb n high to, and-true (leb low n))

module _ (value : List ℕ) where
  pub is_day_of_month-not_digits : is_digits value ≡ false → is_day_of_month value ≡ false
  is_day_of_month-not_digits other = rw other

  pub is_day_of_month-empty : length value ≡ 0 → is_day_of_month value ≡ false
  is_day_of_month-empty empty = is_day_of_month-not_digits (is_digits-empty value empty)

  pub is_day_of_month-too_large : 31 < decimal value → is_day_of_month value ≡ false
  is_day_of_month-too_large large = rw (is_between-above 1 31 _ large, and-false (is_digits value))

  pub is_day_of_month-number : (day : ℕ) → is_digits value ≡ true → decimal value ≡ day → day ≤ 31 → is_day_of_month value ≡ leb 1 day
  is_day_of_month-number day digits makes small = rw (digits, makes, is_between-to 1 31 day small)

  -- a byte at any place that is no digit
  pub day-stops : (index : ℕ) → index < length value → is_digit (get_or value index 0) ≡ false → is_day_of_month value ≡ false
  day-stops index inside other = is_day_of_month-not_digits (rw (list_all_at is_digit value index 0 inside other, and-false (non_empty value)))

-- digits that make more than 31 decide, whatever stands after them
pub is_day_of_month-begins : (value : List ℕ) (index : ℕ) → 31 < decimal (take index value) → is_day_of_month value ≡ false
unfolding is_between
is_day_of_month-begins value index large =
    let larger : 31 < decimal value = omega (arith, decimal_begins value index) in
    rw (lt-leb (decimal value) 31 larger, and-false (leb 1 (decimal value)), and-false (is_digits value))

pub is_day_of_month-whole : (value : List ℕ) → every is_digit value ≡ true → decimal value ≤ 31 → is_day_of_month value ≡ leb 1 (decimal value)
unfolding non_empty is_between
is_day_of_month-whole [] digits small = refl
is_day_of_month-whole (byte ∷ rest) digits small = rw (digits, le-leb (decimal (byte ∷ rest)) 31 small, and-true (leb 1 (decimal (byte ∷ rest))))
