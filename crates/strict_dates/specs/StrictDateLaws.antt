-- Laws of `StrictDate.antt`, in its order. Assumes nothing.
use Rattle.std.specs.Prelude.{◌≡◌, refl, ℕ, ◌+◌, ◌*◌, ◌-◌, ◌≤◌, ◌<◌, Bool, true, false, ◌&&◌, leb, List, [], ◌∷◌, length, get_or, take, drop}
use Rattle.std.proofs.Common.{ap, ◌∙◌, arith, le-leb, take_all}
use Rattle.std.proofs.Math.ListN.{length-drop}
use Rattle.std.proofs.lemmas.Bool.{lt-leb}
use Rattle.ascii.specs.Notation.{is_between}
use Rattle.ascii.specs.NotationLaws.{and-false, and-true}
use Rattle.ascii.specs.BytesLaws.{drop-step}
use Rattle.ascii.specs.Digits.{is_digit, is_digits_of_len, decimal}
use Rattle.strict_dates.specs.StrictDate.{pair_at, is_in_range, is_strict_date, is_strict_month_year, is_strict_time_of_day, is_strict_utc_timestamp}

-- ---- pair_at

module _ (value : List ℕ) (place : ℕ) where
  pub pair_at_inside : place + 2 ≤ length value → pair_at place value ≡ get_or value place 0 ∷ get_or value (place + 1) 0 ∷ []
  pair_at_inside inside = rw (drop-step value place (omega arith), drop-step value (place + 1) (omega arith))

  pub pair_at_outside : length value < place + 2 → length (pair_at place value) ≡ 2 → ⊥
  pair_at_outside outside two =
      let rest = length-drop place value in
      let whole = ap length (take_all 2 (drop place value) (omega arith)) in
      omega (arith, rest, whole)

-- ---- is_in_range

-- the two bytes at the beginning of the rest, as code reads them
abbrev pub begins_in_range : ℕ → ℕ → List ℕ → Bool
begins_in_range low high rest =
    leb 2 (length rest)
    && is_digit (get_or rest 0 0)
    && is_digit (get_or rest 1 0)
    && is_between low high ((get_or rest 0 0 - 48) * 10 + (get_or rest 1 0 - 48))

is_in_range_rest : (low high : ℕ) (rest : List ℕ)
    → is_digits_of_len 2 (take 2 rest) && is_between low high (decimal (take 2 rest)) ≡ begins_in_range low high rest
is_in_range_rest low high [] = refl
is_in_range_rest low high (tens ∷ []) = refl
is_in_range_rest low high (tens ∷ ones ∷ rest) =
    let first : 0 + (tens - 48) ≡ tens - 48 = omega arith in
    let long : leb 2 (length (tens ∷ ones ∷ rest)) ≡ true = le-leb _ _ (omega arith) in
    rw (first, long, and-true (is_digit ones))

pub is_in_range_begins : (low high : ℕ) (rest : List ℕ) → is_in_range low high 0 rest ≡ begins_in_range low high rest
unfolding is_in_range
is_in_range_begins low high rest = is_in_range_rest low high rest

pub is_in_range_outside : (low high place : ℕ) (value : List ℕ) → length value < place + 2 → is_in_range low high place value ≡ false
unfolding is_in_range
is_in_range_outside low high place value outside =
    is_in_range_begins low high (drop place value)
    ∙ rw (lt-leb 2 (length (drop place value)) (omega (arith, length-drop place value)))

module _ (low high : ℕ) (value : List ℕ) (place : ℕ) where
  module _ (inside : place + 2 ≤ length value) where
    pub is_in_range-no_tens : is_digit (get_or value place 0) ≡ false → is_in_range low high place value ≡ false
    unfolding is_in_range
    is_in_range-no_tens other = rw (pair_at_inside value place inside, other)

    pub is_in_range-no_ones : is_digit (get_or value place 0) ≡ true → is_digit (get_or value (place + 1) 0) ≡ false → is_in_range low high place value ≡ false
    unfolding is_in_range
    is_in_range-no_ones tens other = rw (pair_at_inside value place inside, tens, other)

    pub is_in_range-digits
        : is_digit (get_or value place 0) ≡ true
        → is_digit (get_or value (place + 1) 0) ≡ true
        → is_in_range low high place value ≡ is_between low high ((get_or value place 0 - 48) * 10 + (get_or value (place + 1) 0 - 48))
    unfolding is_in_range
    is_in_range-digits tens ones = rw (pair_at_inside value place inside, tens, ones) (ap (is_between low high) (omega arith))

module _ (value : List ℕ) where
  -- ---- is_strict_date

  pub is_strict_date-month : is_in_range 1 12 4 value ≡ false → is_strict_date value ≡ false
  is_strict_date-month out = rw out

  pub is_strict_date-day : is_in_range 1 12 4 value ≡ true → is_strict_date value ≡ is_in_range 1 31 6 value
  is_strict_date-day month = rw month

  -- ---- is_strict_month_year

  pub is_strict_month_year-date : is_digits_of_len 8 value ≡ true → is_strict_month_year value ≡ is_strict_date value
  is_strict_month_year-date date = rw date

  pub is_strict_month_year-month : is_digits_of_len 8 value ≡ false → is_strict_month_year value ≡ is_in_range 1 12 4 value
  is_strict_month_year-month other = rw other

  -- ---- is_strict_time_of_day

  pub is_strict_time_of_day-hour : is_in_range 0 23 0 value ≡ false → is_strict_time_of_day value ≡ false
  is_strict_time_of_day-hour out = rw out

  pub is_strict_time_of_day-minute : is_in_range 0 23 0 value ≡ true → is_in_range 0 59 3 value ≡ false → is_strict_time_of_day value ≡ false
  is_strict_time_of_day-minute hour out = rw (hour, out)

  pub is_strict_time_of_day-second : is_in_range 0 23 0 value ≡ true → is_in_range 0 59 3 value ≡ true → is_strict_time_of_day value ≡ is_in_range 0 60 6 value
  is_strict_time_of_day-second hour minute = rw (hour, minute)

  pub is_strict_time_of_day-short : length value < 2 → is_strict_time_of_day value ≡ false
  is_strict_time_of_day-short short = is_strict_time_of_day-hour (is_in_range_outside 0 23 0 value (omega arith))

-- ---- is_strict_utc_timestamp

pub is_strict_utc_timestamp_short : (value : List ℕ) → length value < 9 → is_strict_utc_timestamp value ≡ false
is_strict_utc_timestamp_short value short =
    let none : is_in_range 0 23 0 (drop 9 value) ≡ false = is_in_range_outside 0 23 0 (drop 9 value) (omega (arith, length-drop 9 value)) in
    rw (none, and-false (is_strict_date (take 8 value)))

module _ (value : List ℕ) where
  pub is_strict_utc_timestamp-date : is_strict_date (take 8 value) ≡ false → is_strict_utc_timestamp value ≡ false
  is_strict_utc_timestamp-date out = rw out

  pub is_strict_utc_timestamp-time : is_strict_date (take 8 value) ≡ true → is_strict_utc_timestamp value ≡ is_strict_time_of_day (drop 9 value)
  is_strict_utc_timestamp-time date = rw date
