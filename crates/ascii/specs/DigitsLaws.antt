-- Laws of `Digits.antt`, in its order. Assumes nothing.
use Rattle.std.specs.Prelude.{◌≡◌, ℕ, zero, suc, ◌+◌, ◌*◌, ◌-◌, ◌≤◌, ◌<◌, true, false, List, [], ◌∷◌, length, get_or, take, drop}
use Rattle.std.proofs.Common.{arith, drop_of_length-le, eq-eqb, ne_eqb}
use Rattle.ascii.specs.NotationLaws.{is_between-range}
use Rattle.ascii.specs.Bytes.{every}
use Rattle.ascii.specs.BytesLaws.{drop-step, non_empty-none, non_empty-some}
use Rattle.ascii.specs.Digits.{is_digit, is_digits, is_digits_of_len, decimal_from, decimal}

-- ---- is_digit

pub is_digit-range : (byte : ℕ) → is_digit byte ≡ true → (48 ≤ byte) × (byte ≤ 57)
is_digit-range byte holds = is_between-range 48 57 byte holds

module _ (value : List ℕ) where
  -- ---- is_digits

  pub is_digits-empty : length value ≡ 0 → is_digits value ≡ false
  is_digits-empty empty = rw (non_empty-none value empty)

  pub is_digits-some : (length value ≡ 0 → ⊥) → is_digits value ≡ every is_digit value
  is_digits-some some_byte = rw (non_empty-some value some_byte)

  -- ---- is_digits_of_len

  pub is_digits_of_len-other_length : (len : ℕ) → (length value ≡ len → ⊥) → is_digits_of_len len value ≡ false
  is_digits_of_len-other_length len other = rw (ne_eqb (length value) len other)

  pub is_digits_of_len-length : (len : ℕ) → length value ≡ len → is_digits_of_len len value ≡ every is_digit value
  is_digits_of_len-length len same = rw (eq-eqb (length value) len same)

-- ---- decimal_from

module _ (value : List ℕ) (index high : ℕ) where
  pub decimal_from-step : index < length value → decimal_from high (drop index value) ≡ decimal_from (high * 10 + (get_or value index 0 - 48)) (drop (index + 1) value)
  decimal_from-step inside = rw (drop-step value index inside)

  pub decimal_from-end : length value ≤ index → decimal_from high (drop index value) ≡ high
  decimal_from-end over = rw (drop_of_length-le value over)

-- digits written after a number make no smaller number
pub decimal_from-grows : (value : List ℕ) (high : ℕ) → high ≤ decimal_from high value
decimal_from-grows [] high = omega arith
decimal_from-grows (byte ∷ rest) high = omega (arith, decimal_from-grows rest (high * 10 + (byte - 48)))

-- the first digits of a value make no larger number than all
decimal_from-begins : (value : List ℕ) (index high : ℕ) → decimal_from high (take index value) ≤ decimal_from high value
decimal_from-begins value zero high = decimal_from-grows value high
decimal_from-begins [] (suc index) high = omega arith
decimal_from-begins (byte ∷ rest) (suc index) high = decimal_from-begins rest index (high * 10 + (byte - 48))

pub decimal_begins : (value : List ℕ) (index : ℕ) → decimal (take index value) ≤ decimal value
decimal_begins value index = decimal_from-begins value index 0
