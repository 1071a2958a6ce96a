-- Strict mode (document 01, 'The verdict on a value'): "after the Rust's format test .. MonthYear, UtcDateOnly, LocalMktDate, UtcTimeOnly and
-- UtcTimestamp also need month 01-12, day 01-31, hour 00-23, minute 00-59, second 00-60". Each test of this file is asked of a value that has
-- its format (`Date.antt`), and says nothing of the format: a fraction is free, and so are the week of a MonthYear and the year.
-- Second 60 is good at every minute, day 31 in every month. Assumes nothing.
--
--   pair_at place value               the two bytes at a place
--   is_in_range low high place value   the two bytes at the place are digits and make a number from low to high
--   is_strict_date value               month and day of YYYYMMDD are in range
--   is_strict_month_year value          month and day of YYYYMMDD are in range, the month of YYYYMM and YYYYMMwN
--   is_strict_time_of_day value          hour, minute and second of HH:MM:SS are in range
--   is_strict_utc_timestamp value       both parts of YYYYMMDD-HH:MM:SS are in range
use Rattle.std.specs.Prelude.{ℕ, Bool, ◌&&◌, List, take, drop, if◌then◌else◌}
use Rattle.ascii.specs.Notation.{is_between}
use Rattle.ascii.specs.Digits.{is_digits_of_len, decimal}

abbrev pub pair_at : ℕ → List ℕ → List ℕ
pair_at place value = take 2 (drop place value)

unfoldable pub is_in_range : ℕ → ℕ → ℕ → List ℕ → Bool
is_in_range low high place value = is_digits_of_len 2 (pair_at place value) && is_between low high (decimal (pair_at place value))

abbrev pub is_strict_date : List ℕ → Bool
is_strict_date value = is_in_range 1 12 4 value && is_in_range 1 31 6 value

abbrev pub is_strict_month_year : List ℕ → Bool
is_strict_month_year value =
    if is_digits_of_len 8 value
    then is_strict_date value
    else is_in_range 1 12 4 value

abbrev pub is_strict_time_of_day : List ℕ → Bool
is_strict_time_of_day value =
    is_in_range 0 23 0 value
    && is_in_range 0 59 3 value
    && is_in_range 0 60 6 value

abbrev pub is_strict_utc_timestamp : List ℕ → Bool
is_strict_utc_timestamp value = is_strict_date (take 8 value) && is_strict_time_of_day (drop 9 value)
