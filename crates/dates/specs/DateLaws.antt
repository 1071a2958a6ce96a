-- Laws of `Date.antt`, in its order. Assumes nothing.
use Rattle.std.specs.Prelude.{◌≡◌, refl, ℕ, zero, suc, ◌-◌, ◌≤◌, ◌<◌, true, false, ◌&&◌, List, [], ◌∷◌, eqb, length, get_or, take, drop}
use Rattle.std.proofs.Math.Path.{ap}
use Rattle.std.proofs.Common.{◌∙◌, arith, take_all, length-drop}
use Rattle.std.proofs.lemmas.Bool.{false≢true}
use borrow.Author.Tests.{eq-eqb, ne_eqb, le-leb, lt-leb}
use Rattle.std.specs.List.{list_all, zip}
use Rattle.ascii.specs.Notation.{is_between}
use Rattle.ascii.specs.NotationLaws.{and_right, and-false, is_between-below, is_between-from}
use Rattle.ascii.specs.Bytes.{ascii, every}
use Rattle.ascii.specs.BytesLaws.{first-and_rest}
use Rattle.ascii.specs.Digits.{is_digit, is_digits_of_len}
use Rattle.dates.specs.Date.{stands_for, has_picture, is_month_year, is_fraction, is_time_of_day, is_utc_timestamp}

-- ---- stands_for

module _ (letter byte : ℕ) where
  pub stands_for_below : letter < 65 → stands_for letter byte ≡ eqb byte letter
  stands_for_below below = rw (is_between-below 65 90 letter below)

  pub stands_for_above : 65 ≤ letter → 90 < letter → stands_for letter byte ≡ eqb byte letter
  stands_for_above from above = rw (is_between-from 65 90 letter from, lt-leb letter 90 above)

  pub stands_for_digit : 65 ≤ letter → letter ≤ 90 → stands_for letter byte ≡ is_digit byte
  stands_for_digit from to = rw (is_between-from 65 90 letter from, le-leb letter 90 to)

-- ---- has_picture

pub has_picture_other_length : (picture value : List ℕ) → (length value ≡ length picture → ⊥) → has_picture picture value ≡ false
unfolding has_picture
has_picture_other_length [] [] other = absurd (other refl)
has_picture_other_length [] (byte ∷ rest) other = refl
has_picture_other_length (letter ∷ letters) [] other = refl
has_picture_other_length (letter ∷ letters) (byte ∷ rest) other =
    rw (has_picture_other_length letters rest (λ same. other (omega arith)), and-false (stands_for letter byte))

pub has_picture_length : (picture value : List ℕ) → has_picture picture value ≡ true → length value ≡ length picture
unfolding has_picture
has_picture_length [] [] holds = refl
has_picture_length [] (byte ∷ rest) holds = absurd (false≢true holds)
has_picture_length (letter ∷ letters) [] holds = absurd (false≢true holds)
has_picture_length (letter ∷ letters) (byte ∷ rest) holds = ap suc (has_picture_length letters rest (and_right (stands_for letter byte) _ holds))

-- a value shorter than the picture, cut off at any place after its end
pub has_picture_short : (picture value : List ℕ) (len : ℕ) → length picture ≡ len → length value < len → has_picture picture (take len value) ≡ false
has_picture_short picture value len long short =
    rw (take_all len value (omega arith), has_picture_other_length picture value (λ same. omega arith))

-- a byte at any place that the picture's letter does not stand for
pub picture_fails : (picture value : List ℕ) (index : ℕ) → index < length value → stands_for (get_or picture index 0) (get_or value index 0) ≡ false
    → has_picture picture value ≡ false
unfolding has_picture
picture_fails [] [] index inside other = absurd (omega arith)
picture_fails [] (byte ∷ rest) index inside other = refl
picture_fails (letter ∷ letters) [] index inside other = refl
picture_fails (letter ∷ letters) (byte ∷ rest) zero inside other = rw other
picture_fails (letter ∷ letters) (byte ∷ rest) (suc index) inside other =
    rw (picture_fails letters rest index (omega arith) other, and-false (stands_for letter byte))

pub picture_holds : (picture value : List ℕ) → length value ≡ length picture
    → ((index : ℕ) → index < length value → stands_for (get_or picture index 0) (get_or value index 0) ≡ true)
    → has_picture picture value ≡ true
unfolding has_picture
picture_holds [] [] same stands = refl
picture_holds [] (byte ∷ rest) same stands = absurd (omega arith)
picture_holds (letter ∷ letters) [] same stands = absurd (omega arith)
picture_holds (letter ∷ letters) (byte ∷ rest) same stands =
    rw (stands 0 (omega arith)) (picture_holds letters rest (omega arith) (λ index inside. stands (suc index) (omega arith)))

-- the picture and the value, byte by byte
pub has_picture_zip : (picture value : List ℕ) → length value ≡ length picture
    → list_all (λ pair. stands_for pair.0 pair.1) (zip picture value) ≡ has_picture picture value
unfolding has_picture
has_picture_zip [] [] same = refl
has_picture_zip [] (byte ∷ rest) same = absurd (omega arith)
has_picture_zip (letter ∷ letters) [] same = absurd (omega arith)
has_picture_zip (letter ∷ letters) (byte ∷ rest) same = ap (λ others. stands_for letter byte && others) (has_picture_zip letters rest (omega arith))

module _ (value : List ℕ) where
  -- ---- is_month_year

  pub is_month_year-month : is_digits_of_len 6 value ≡ true → is_month_year value ≡ true
  is_month_year-month month = rw month

  pub is_month_year-day : is_digits_of_len 6 value ≡ false → is_digits_of_len 8 value ≡ true → is_month_year value ≡ true
  is_month_year-day no-month day = rw (no-month, day)

  module _ (no-month : is_digits_of_len 6 value ≡ false) (no-day : is_digits_of_len 8 value ≡ false) where
    pub is_month_year-other : has_picture (ascii "YYYYMMwN") value ≡ false → is_month_year value ≡ false
    is_month_year-other other = rw (no-month, no-day, other)

    pub is_month_year-week : has_picture (ascii "YYYYMMwN") value ≡ true → is_month_year value ≡ is_between 49 53 (get_or value 7 0)
    is_month_year-week week = rw (no-month, no-day, week)

-- ---- is_fraction

pub is_fraction-none : (rest : List ℕ) → length rest ≡ 0 → is_fraction rest ≡ true
is_fraction-none [] none = refl
is_fraction-none (byte ∷ digits) none = absurd (omega arith)

module _ (rest : List ℕ) (some_byte : length rest ≡ 0 → ⊥) where
  pub is_fraction-no_point : (get_or rest 0 0 ≡ 46 → ⊥) → is_fraction rest ≡ false
  is_fraction-no_point other = ap is_fraction (first-and_rest rest some_byte) ∙ rw (ne_eqb (get_or rest 0 0) 46 other)

  pub is_fraction-point : get_or rest 0 0 ≡ 46 → is_fraction rest ≡ is_between 1 12 (length rest - 1) && every is_digit (drop 1 rest)
  is_fraction-point point = ap is_fraction (first-and_rest rest some_byte) ∙ rw (eq-eqb (get_or rest 0 0) 46 point, length-drop 1 rest)

  module _ (point : get_or rest 0 0 ≡ 46) where
    pub is_fraction-no_digit : length rest - 1 < 1 → is_fraction rest ≡ false
    is_fraction-no_digit short = is_fraction-point point ∙ rw (is_between-below 1 12 (length rest - 1) short)

    pub is_fraction-too_long : 1 ≤ length rest - 1 → 12 < length rest - 1 → is_fraction rest ≡ false
    is_fraction-too_long digit long =
        is_fraction-point point ∙ rw (is_between-from 1 12 (length rest - 1) digit, lt-leb (length rest - 1) 12 long)

    pub is_fraction-digits : 1 ≤ length rest - 1 → length rest - 1 ≤ 12 → is_fraction rest ≡ every is_digit (drop 1 rest)
    is_fraction-digits digit few =
        is_fraction-point point ∙ rw (is_between-from 1 12 (length rest - 1) digit, le-leb (length rest - 1) 12 few)

module _ (value : List ℕ) where
  -- ---- is_time_of_day

  pub is_time_of_day-other : has_picture (ascii "HH:MM:SS") (take 8 value) ≡ false → is_time_of_day value ≡ false
  is_time_of_day-other other = rw other

  pub is_time_of_day_short : length value < 8 → is_time_of_day value ≡ false
  is_time_of_day_short short = is_time_of_day-other (has_picture_short (ascii "HH:MM:SS") value 8 refl short)

  pub is_time_of_day-clock : has_picture (ascii "HH:MM:SS") (take 8 value) ≡ true → is_time_of_day value ≡ is_fraction (drop 8 value)
  is_time_of_day-clock clock = rw clock

  -- ---- is_utc_timestamp

  pub is_utc_timestamp-other : has_picture (ascii "YYYYMMDD-") (take 9 value) ≡ false → is_utc_timestamp value ≡ false
  is_utc_timestamp-other other = rw other

  pub is_utc_timestamp_short : length value < 9 → is_utc_timestamp value ≡ false
  is_utc_timestamp_short short = is_utc_timestamp-other (has_picture_short (ascii "YYYYMMDD-") value 9 refl short)

  pub is_utc_timestamp-date : has_picture (ascii "YYYYMMDD-") (take 9 value) ≡ true → is_utc_timestamp value ≡ is_time_of_day (drop 9 value)
  is_utc_timestamp-date date = rw date
