-- Cases of `Number.antt`, by computation: document 01's (The verdict on a value), and the bounds beside them. Assumes nothing.
use Rattle.std.specs.Prelude.{◌≡◌, refl, true, false}
use Rattle.ascii.specs.Notation.{is_between}
use Rattle.ascii.specs.Bytes.{ascii, non_empty}
use Rattle.numbers.specs.Number.{is_integer, is_decimal, is_day_of_month}

pub record Integers : Type 0 where
  pub minus_zero : is_integer true (ascii "-0") ≡ true
  pub sign_alone : is_integer true (ascii "-") ≡ false
  pub sign_not_allowed : is_integer false (ascii "-1") ≡ false
  pub two_signs : is_integer true (ascii "--1") ≡ false
  pub plus_sign : is_integer true (ascii "+1") ≡ false
  pub empty : is_integer true (ascii "") ≡ false
  pub leading_zeros : is_integer false (ascii "007") ≡ true

pub integers : Integers
unfolding non_empty is_between
integers = record {
  minus_zero = refl;
  sign_alone = refl;
  sign_not_allowed = refl;
  two_signs = refl;
  plus_sign = refl;
  empty = refl;
  leading_zeros = refl;
}

pub record Decimals : Type 0 where
  pub point_behind : is_decimal (ascii "5.") ≡ true
  pub point_before : is_decimal (ascii "-.5") ≡ true
  pub point_alone : is_decimal (ascii ".") ≡ false
  pub two_points : is_decimal (ascii "1.2.3") ≡ false
  pub sign_and_point : is_decimal (ascii "-.") ≡ false
  pub exponent : is_decimal (ascii "1e5") ≡ false
  pub empty : is_decimal (ascii "") ≡ false

pub decimals : Decimals
unfolding is_between
decimals = record {
  point_behind = refl;
  point_before = refl;
  point_alone = refl;
  two_points = refl;
  sign_and_point = refl;
  exponent = refl;
  empty = refl;
}

pub record DaysOfMonth : Type 0 where
  pub leading_zeros : is_day_of_month (ascii "0031") ≡ true
  pub first : is_day_of_month (ascii "1") ≡ true
  pub thirty_two : is_day_of_month (ascii "32") ≡ false
  pub zero_day : is_day_of_month (ascii "00") ≡ false
  pub past_32_bits : is_day_of_month (ascii "4294967297") ≡ false
  pub sign : is_day_of_month (ascii "-1") ≡ false
  pub empty : is_day_of_month (ascii "") ≡ false

pub days_of_month : DaysOfMonth
unfolding non_empty is_between
days_of_month = record {
  leading_zeros = refl;
  first = refl;
  thirty_two = refl;
  zero_day = refl;
  past_32_bits = refl;
  sign = refl;
  empty = refl;
}
