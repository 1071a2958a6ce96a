-- The Rust cuts a date or a time at its separators (`split_once`, `split`), `Date.antt` at fixed places. Both accept the same values: here is
-- what `is_utc_timestamp` and `is_time_of_day` say of a value written as the parts into which the Rust cuts it, and of one with no separator.
-- Assumes nothing.
use Rattle.std.specs.Prelude.{◌≡◌, ℕ, suc, Bool, true, false, ◌&&◌, not, eqb, length, take, drop}
use Rattle.std.proofs.Math.Path.{refl}
use Rattle.std.proofs.Common.{sym, ◌∙◌, arith}
use Prim.Native.Char.{code}
use mathlib.Core.List.{List, [], ◌∷◌, ◌++◌}
use Rattle.std.proofs.Math.Dec.{eqb-suc-suc}
use borrow.Author.Tests.{eq-eqb, not-true}
use Rattle.ascii.specs.Notation.{is_between}
use Rattle.ascii.specs.NotationLaws.{and_left, and_right, and-false, and_assoc}
use Rattle.ascii.specs.Bytes.{ascii, every}
use Rattle.ascii.specs.Digits.{is_digit, is_digits_of_len}
use Rattle.ascii.specs.DigitsLaws.{is_digits_of_len-other_length}
use Rattle.ascii.specs.Split.{without}
use Rattle.dates.specs.Date.{stands_for, has_picture, is_fraction, is_time_of_day, is_utc_timestamp}

abbrev is_capital : ℕ → Bool
is_capital letter = is_between 65 90 letter

-- ---- the first byte and the others

module _ (separator byte : ℕ) (rest : List ℕ) (others : without separator (byte ∷ rest) ≡ true) where
  without-first : eqb byte separator ≡ false
  without-first = not-true _ (and_left _ _ others)

  without-rest : without separator rest ≡ true
  without-rest = and_right (not (eqb byte separator)) _ others

is_digits_of_len-nothing : is_digits_of_len 0 [] ≡ true
is_digits_of_len-nothing = refl

and-swap : (a b c : Bool) → a && (b && c) ≡ b && (a && c)
and-swap true b c = refl
and-swap false b c = sym (and-false b)

is_digits_of_len-first : (len byte : ℕ) (rest : List ℕ) → is_digits_of_len (suc len) (byte ∷ rest) ≡ is_digit byte && is_digits_of_len len rest
is_digits_of_len-first len byte rest = rw (eqb-suc-suc (length rest) len, and-swap (eqb (length rest) len) (is_digit byte) (every is_digit rest))

stands_for_capital : (letter byte : ℕ) → is_capital letter ≡ true → stands_for letter byte ≡ is_digit byte
stands_for_capital letter byte capital = rw capital

stands_for_itself : (letter byte : ℕ) → is_capital letter ≡ false → stands_for letter byte ≡ eqb byte letter
stands_for_itself letter byte other = rw other

-- ---- letters alone

capitals_are_digits : (letters value : List ℕ) → every is_capital letters ≡ true → has_picture letters value ≡ is_digits_of_len (length letters) value
unfolding has_picture
capitals_are_digits [] [] capitals = sym is_digits_of_len-nothing
capitals_are_digits [] (byte ∷ rest) capitals = sym (is_digits_of_len-other_length (byte ∷ rest) 0 (λ same. omega arith))
capitals_are_digits (letter ∷ letters) [] capitals = sym (is_digits_of_len-other_length [] (suc (length letters)) (λ same. omega arith))
capitals_are_digits (letter ∷ letters) (byte ∷ rest) capitals =
    rw (
      stands_for_capital letter byte (and_left _ _ capitals),
      capitals_are_digits letters rest (and_right (is_capital letter) _ capitals),
      is_digits_of_len-first (length letters) byte rest,
    )

-- ---- letters, a separator, and more

module _ (separator : ℕ) (itself : is_capital separator ≡ false) (no_digit : is_digit separator ≡ false) where
  cut : (letters picture part rest : List ℕ)
      → every is_capital letters ≡ true
      → without separator part ≡ true
      → has_picture (letters ++ separator ∷ picture) (part ++ separator ∷ rest) ≡ is_digits_of_len (length letters) part && has_picture picture rest
  unfolding has_picture
  cut [] picture [] rest capitals others = rw (stands_for_itself separator separator itself, eq-eqb separator separator refl)
  cut [] picture (byte ∷ part) rest capitals others =
      rw (
        stands_for_itself separator byte itself,
        without-first separator byte part others,
        is_digits_of_len-other_length (byte ∷ part) 0 (λ same. omega arith),
      )
  cut (letter ∷ letters) picture [] rest capitals others =
      rw (
        stands_for_capital letter separator (and_left _ _ capitals),
        no_digit,
        is_digits_of_len-other_length [] (suc (length letters)) (λ same. omega arith),
      )
  cut (letter ∷ letters) picture (byte ∷ part) rest capitals others =
      rw (
        stands_for_capital letter byte (and_left _ _ capitals),
        cut letters picture part rest (and_right (is_capital letter) _ capitals) (without-rest separator byte part others),
        is_digits_of_len-first (length letters) byte part,
        and_assoc (is_digit byte) (is_digits_of_len (length letters) part) (has_picture picture rest),
      )

  cut-nowhere : (letters picture value : List ℕ) → without separator value ≡ true → has_picture (letters ++ separator ∷ picture) value ≡ false
  unfolding has_picture
  cut-nowhere [] picture [] others = refl
  cut-nowhere [] picture (byte ∷ rest) others = rw (stands_for_itself separator byte itself, without-first separator byte rest others)
  cut-nowhere (letter ∷ letters) picture [] others = refl
  cut-nowhere (letter ∷ letters) picture (byte ∷ rest) others =
      rw (cut-nowhere letters picture rest (without-rest separator byte rest others), and-false (stands_for letter byte))

  -- the same with any test of what stands behind the separator
  cut-test : (test : List ℕ → Bool) (letters part rest : List ℕ)
      → every is_capital letters ≡ true
      → without separator part ≡ true
      → has_picture (letters ++ separator ∷ []) (take (suc (length letters)) (part ++ separator ∷ rest))
      && test (drop (suc (length letters)) (part ++ separator ∷ rest))
      ≡ is_digits_of_len (length letters) part && test rest
  unfolding has_picture
  cut-test test [] [] rest capitals others = rw (stands_for_itself separator separator itself, eq-eqb separator separator refl)
  cut-test test [] (byte ∷ part) rest capitals others =
      rw (
        stands_for_itself separator byte itself,
        without-first separator byte part others,
        is_digits_of_len-other_length (byte ∷ part) 0 (λ same. omega arith),
      )
  cut-test test (letter ∷ letters) [] rest capitals others =
      rw (
        stands_for_capital letter separator (and_left _ _ capitals),
        no_digit,
        is_digits_of_len-other_length [] (suc (length letters)) (λ same. omega arith),
      )
  cut-test test (letter ∷ letters) (byte ∷ part) rest capitals others =
      rw (
        stands_for_capital letter byte (and_left _ _ capitals),
        and_assoc (is_digit byte),
        cut-test test letters part rest (and_right (is_capital letter) _ capitals) (without-rest separator byte part others),
        is_digits_of_len-first (length letters) byte part,
        and_assoc (is_digit byte) (is_digits_of_len (length letters) part) (test rest),
      )

  cut-test_nowhere : (letters value : List ℕ)
      → without separator value ≡ true
      → has_picture (letters ++ separator ∷ []) (take (suc (length letters)) value) ≡ false
  unfolding has_picture
  cut-test_nowhere [] [] others = refl
  cut-test_nowhere [] (byte ∷ rest) others = rw (stands_for_itself separator byte itself, without-first separator byte rest others)
  cut-test_nowhere (letter ∷ letters) [] others = refl
  cut-test_nowhere (letter ∷ letters) (byte ∷ rest) others =
      rw (cut-test_nowhere letters rest (without-rest separator byte rest others), and-false (stands_for letter byte))

-- ---- is_utc_timestamp: `match value.split_once('-')`

-- `Some((date, time)) => is_digits_of_len(date, 8) && is_time_of_day(time)`
pub is_utc_timestamp-split : (date time : List ℕ)
    → without (code "-") date ≡ true
    → is_utc_timestamp (date ++ code "-" ∷ time) ≡ is_digits_of_len 8 date && is_time_of_day time
unfolding is_between
is_utc_timestamp-split date time others = cut-test 45 refl refl is_time_of_day (ascii "YYYYMMDD") date time refl others

-- `None => false`
pub is_utc_timestamp-unsplit : (value : List ℕ) → without (code "-") value ≡ true → is_utc_timestamp value ≡ false
unfolding is_between
is_utc_timestamp-unsplit value others = rw (cut-test_nowhere 45 refl refl (ascii "YYYYMMDD") value others)

-- ---- is_time_of_day: `match value.split_once('.')`

-- of any picture none of whose letters stands for a point
abbrev no_point : List ℕ → Bool
no_point picture = every (λ letter. not (stands_for letter 46)) picture

module _ (letter : ℕ) (letters : List ℕ) (none : no_point (letter ∷ letters) ≡ true) where
  no_point-first : stands_for letter 46 ≡ false
  no_point-first = not-true _ (and_left _ _ none)

  no_point-rest : no_point letters ≡ true
  no_point-rest = and_right (not (stands_for letter 46)) _ none

point_cut : (picture clock fraction : List ℕ)
    → no_point picture ≡ true
    → without 46 clock ≡ true
    → has_picture picture (take (length picture) (clock ++ 46 ∷ fraction)) && is_fraction (drop (length picture) (clock ++ 46 ∷ fraction))
    ≡ has_picture picture clock && (is_between 1 12 (length fraction) && every is_digit fraction)
unfolding has_picture
point_cut [] [] fraction none others = refl
point_cut [] (byte ∷ clock) fraction none others = rw (without-first 46 byte clock others)
point_cut (letter ∷ letters) [] fraction none others = rw (no_point-first letter letters none)
point_cut (letter ∷ letters) (byte ∷ clock) fraction none others =
    rw (
      and_assoc (stands_for letter byte) (has_picture letters (take (length letters) (clock ++ 46 ∷ fraction))),
      point_cut letters clock fraction (no_point-rest letter letters none) (without-rest 46 byte clock others),
      and_assoc (stands_for letter byte) (has_picture letters clock),
    )

point_nowhere : (picture value : List ℕ)
    → without 46 value ≡ true
    → has_picture picture (take (length picture) value) && is_fraction (drop (length picture) value) ≡ has_picture picture value
unfolding has_picture
point_nowhere [] [] others = refl
point_nowhere [] (byte ∷ rest) others = rw (without-first 46 byte rest others)
point_nowhere (letter ∷ letters) [] others = refl
point_nowhere (letter ∷ letters) (byte ∷ rest) others =
    rw (and_assoc (stands_for letter byte), point_nowhere letters rest (without-rest 46 byte rest others))

-- `Some((clock, fraction))`: the clock below, and `matches!(fraction.len(), 1..=12) && fraction.bytes().all(|b| b.is_ascii_digit())`
pub is_time_of_day-split : (clock fraction : List ℕ)
    → without (code ".") clock ≡ true
    → is_time_of_day (clock ++ code "." ∷ fraction) ≡ has_picture (ascii "HH:MM:SS") clock && (is_between 1 12 (length fraction) && every is_digit fraction)
unfolding is_between
is_time_of_day-split clock fraction others = point_cut (ascii "HH:MM:SS") clock fraction refl others

-- `None => (value, None)`
pub is_time_of_day-unsplit : (value : List ℕ) → without (code ".") value ≡ true → is_time_of_day value ≡ has_picture (ascii "HH:MM:SS") value
is_time_of_day-unsplit value others = point_nowhere (ascii "HH:MM:SS") value others

colon_is_no_digit : (first rest : List ℕ) → every is_digit (first ++ 58 ∷ rest) ≡ false
unfolding is_between
colon_is_no_digit [] rest = refl
colon_is_no_digit (byte ∷ first) rest = rw (colon_is_no_digit first rest, and-false (is_digit byte))

no_digits_around_colon : (len : ℕ) (first rest : List ℕ) → is_digits_of_len len (first ++ 58 ∷ rest) ≡ false
no_digits_around_colon len first rest = rw (colon_is_no_digit first rest, and-false (eqb (length (first ++ 58 ∷ rest)) len))

-- ---- HH:MM:SS: `for part in clock.split(':')`, `is_digits_of_len(part, 2)` and at the end `parts == 3`

module _ (hour : List ℕ) (no-colon-in-hour : without (code ":") hour ≡ true) where
  pub clock_one_part : has_picture (ascii "HH:MM:SS") hour ≡ false
  unfolding is_between
  clock_one_part = cut-nowhere 58 refl refl (ascii "HH") (ascii "MM:SS") hour no-colon-in-hour

  clock_hour : (rest : List ℕ) → has_picture (ascii "HH:MM:SS") (hour ++ code ":" ∷ rest) ≡ is_digits_of_len 2 hour && has_picture (ascii "MM:SS") rest
  unfolding is_between
  clock_hour rest = cut 58 refl refl (ascii "HH") (ascii "MM:SS") hour rest refl no-colon-in-hour

  module _ (minute : List ℕ) (no-colon-in-minute : without (code ":") minute ≡ true) where
    pub clock_two_parts : has_picture (ascii "HH:MM:SS") (hour ++ code ":" ∷ minute) ≡ false
    unfolding is_between
    clock_two_parts =
        clock_hour minute ∙ rw (cut-nowhere 58 refl refl (ascii "MM") (ascii "SS") minute no-colon-in-minute, and-false (is_digits_of_len 2 hour))

    pub clock_three_parts : (second : List ℕ)
        → has_picture (ascii "HH:MM:SS") (hour ++ code ":" ∷ (minute ++ code ":" ∷ second))
        ≡ is_digits_of_len 2 hour && (is_digits_of_len 2 minute && is_digits_of_len 2 second)
    unfolding is_between
    clock_three_parts second =
        clock_hour (minute ++ 58 ∷ second)
        ∙ rw (cut 58 refl refl (ascii "MM") (ascii "SS") minute second refl no-colon-in-minute, capitals_are_digits (ascii "SS") second refl)

    -- a colon in the third part, where the Rust has a fourth: no digits
    pub clock_more_parts : (second rest : List ℕ)
        → has_picture (ascii "HH:MM:SS") (hour ++ code ":" ∷ (minute ++ code ":" ∷ (second ++ code ":" ∷ rest))) ≡ false
    clock_more_parts second rest =
        clock_three_parts (second ++ 58 ∷ rest)
        ∙ rw (no_digits_around_colon 2 second rest, and-false (is_digits_of_len 2 minute), and-false (is_digits_of_len 2 hour))
