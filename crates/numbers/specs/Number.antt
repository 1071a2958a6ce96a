-- Whole and decimal numbers (FIX's data types int, float and day-of-month with those that go back to them): schema.rs, `is_integer`,
-- `is_decimal` and the arm `DayOfMonth` of `is_valid_value`. No plus sign and no exponent; any number of leading zeros. Assumes nothing.
--
--   is_signed value              the value begins with a minus sign
--   without_sign value           what stands behind the minus sign; the value itself where it begins with none
--   is_integer allow_sign value   "a non-empty run of ASCII digits, optionally signed": a leading minus sign only where a sign is allowed
--   is_point byte                the byte is a decimal point
--   is_decimal_body body          the body has digits and points alone, at least one digit and at most one point
--   is_decimal value             "a FIX decimal: optional sign, digits, at most one point"
--   is_day_of_month value          a run of digits that makes a number from 1 to 31
use Rattle.std.specs.Prelude.{ℕ, Bool, false, ◌&&◌, ◌||◌, List, [], ◌∷◌, drop, if◌then◌else◌}
use Prim.Native.Char.{code}
use Rattle.ascii.specs.Notation.{◌≤ᵇ◌, ◌≡ᵇ◌, is_between}
use Rattle.ascii.specs.Bytes.{every, how_many}
use Rattle.ascii.specs.Digits.{is_digit, is_digits, decimal}

abbrev pub is_signed : List ℕ → Bool
is_signed [] = false
is_signed (byte ∷ rest) = byte ≡ᵇ code "-"

abbrev pub without_sign : List ℕ → List ℕ
without_sign value = if is_signed value then drop 1 value else value

abbrev pub is_integer : Bool → List ℕ → Bool
is_integer allow_sign value = is_digits (if allow_sign then without_sign value else value)

abbrev pub is_point : ℕ → Bool
is_point byte = byte ≡ᵇ code "."

abbrev pub is_digit_or_point : ℕ → Bool
is_digit_or_point byte = is_digit byte || is_point byte

abbrev pub is_decimal_body : List ℕ → Bool
is_decimal_body body =
    every is_digit_or_point body
    && 1 ≤ᵇ how_many is_digit body
    && how_many is_point body ≤ᵇ 1

abbrev pub is_decimal : List ℕ → Bool
is_decimal value = is_decimal_body (without_sign value)

abbrev pub is_day_of_month : List ℕ → Bool
is_day_of_month value = is_digits value && is_between 1 31 (decimal value)
