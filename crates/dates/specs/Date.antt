-- Dates and times by pictures (FIX's data types MonthYear, UTCDateOnly, LocalMktDate, UTCTimeOnly and UTCTimestamp): schema.rs, `is_month_year`,
-- `is_time_of_day` and the arms of `is_valid_value`. The format alone: month 13 and hour 99 are good here; `StrictDate.antt` has the ranges.
-- Assumes nothing.
--
--   stands_for letter byte      an upper-case letter of a picture stands for every digit, another byte for itself
--   has_picture picture value   the value is as long as the picture, and each of its bytes is one that the picture's byte stands for
--   is_month_year value          MonthYear: "`YYYYMM`, `YYYYMMDD`, or `YYYYMMww` (week 1-5)"; a week is written w1 to w5
--   is_date value               UTCDateOnly and LocalMktDate: YYYYMMDD
--   is_fraction rest            what may stand after the seconds: nothing, or a point and 1 to 12 digits
--   is_time_of_day value          UTCTimeOnly: "`HH:MM:SS` with an optional fractional second"
--   is_utc_timestamp value       UTCTimestamp: a date, a hyphen and a time of day
--
-- The Rust cuts a value at its separators, these definitions at fixed places. They accept the same values (`DateSplits.antt` has the proof):
-- `split_once('-')` cuts at the first hyphen. Before it the Rust asks for eight digits, so that the hyphen stands at place 8. And a hyphen at
-- place 8 after eight digits is the first one.
-- `split_once('.')` cuts at the first point, and `split(':')` what stands before it at every colon. The Rust asks for three parts of two digits,
-- which are with their two colons the eight bytes of HH:MM:SS. So the first point stands at place 8, or there is none and the value ends there.
-- And none of the eight bytes of HH:MM:SS is a point, so that a point at place 8 is the first one.
use Rattle.std.specs.Prelude.{ℕ, Bool, true, false, ◌&&◌, ◌||◌, List, [], ◌∷◌, length, get_or, take, drop, if◌then◌else◌}
use Prim.Native.Char.{code}
use Rattle.ascii.specs.Notation.{◌≡ᵇ◌, is_between}
use Rattle.ascii.specs.Bytes.{ascii, every}
use Rattle.ascii.specs.Digits.{is_digit, is_digits_of_len}

abbrev pub stands_for : ℕ → ℕ → Bool
stands_for letter byte =
    if is_between (code "A") (code "Z") letter
    then is_digit byte
    else byte ≡ᵇ letter

unfoldable pub has_picture : List ℕ → List ℕ → Bool
has_picture [] [] = true
has_picture [] (byte ∷ rest) = false
has_picture (letter ∷ letters) [] = false
has_picture (letter ∷ letters) (byte ∷ rest) = stands_for letter byte && has_picture letters rest

abbrev pub is_month_year : List ℕ → Bool
is_month_year value =
    is_digits_of_len 6 value
    || is_digits_of_len 8 value
    || has_picture (ascii "YYYYMMwN") value && is_between (code "1") (code "5") (get_or value 7 0)

abbrev pub is_date : List ℕ → Bool
is_date value = is_digits_of_len 8 value

abbrev pub is_fraction : List ℕ → Bool
is_fraction [] = true
is_fraction (byte ∷ digits) = byte ≡ᵇ code "." && is_between 1 12 (length digits) && every is_digit digits

abbrev pub is_time_of_day : List ℕ → Bool
is_time_of_day value = has_picture (ascii "HH:MM:SS") (take 8 value) && is_fraction (drop 8 value)

abbrev pub is_utc_timestamp : List ℕ → Bool
is_utc_timestamp value = has_picture (ascii "YYYYMMDD-") (take 9 value) && is_time_of_day (drop 9 value)
