-- Cases of `Date.antt` and `StrictDate.antt`, by computation: document 01's (The verdict on a value), and the bounds beside them. Assumes nothing.
use Rattle.std.specs.Prelude.{◌≡◌, refl, true, false}
use Rattle.ascii.specs.Notation.{is_between}
use Rattle.ascii.specs.Bytes.{ascii}
use Rattle.dates.specs.Date.{has_picture, is_month_year, is_date, is_time_of_day, is_utc_timestamp}
use Rattle.strict_dates.specs.StrictDate.{is_in_range, is_strict_date, is_strict_month_year, is_strict_time_of_day, is_strict_utc_timestamp}

pub record MonthsOfYears : Type 0 where
  pub month : is_month_year (ascii "202402") ≡ true
  pub day : is_month_year (ascii "20240229") ≡ true
  pub fifth_week : is_month_year (ascii "202402w5") ≡ true
  pub sixth_week : is_month_year (ascii "202402w6") ≡ false
  pub no_week : is_month_year (ascii "202402w0") ≡ false
  pub capital_w : is_month_year (ascii "202402W1") ≡ false
  pub seven_digits : is_month_year (ascii "2024021") ≡ false
  pub thirteenth_month : is_month_year (ascii "202413") ≡ true
  pub thirteenth_month_strict : is_strict_month_year (ascii "202413") ≡ false
  pub month_zero_strict : is_strict_month_year (ascii "202400w1") ≡ false
  pub twelfth_month_strict : is_strict_month_year (ascii "202412w5") ≡ true
  pub day_32_strict : is_strict_month_year (ascii "20241232") ≡ false

pub months_of_years : MonthsOfYears
unfolding has_picture is_between is_in_range
months_of_years = record {
  month = refl;
  day = refl;
  fifth_week = refl;
  sixth_week = refl;
  no_week = refl;
  capital_w = refl;
  seven_digits = refl;
  thirteenth_month = refl;
  thirteenth_month_strict = refl;
  month_zero_strict = refl;
  twelfth_month_strict = refl;
  day_32_strict = refl;
}

pub record Dates : Type 0 where
  pub eight_digits : is_date (ascii "20240230") ≡ true
  pub hyphens : is_date (ascii "2024-02-30") ≡ false
  pub any_month_has_31_strict : is_strict_date (ascii "20240231") ≡ true
  pub day_zero_strict : is_strict_date (ascii "20240200") ≡ false

pub dates : Dates
unfolding is_between is_in_range
dates = record { eight_digits = refl; hyphens = refl; any_month_has_31_strict = refl; day_zero_strict = refl }

pub record Times : Type 0 where
  pub seconds : is_time_of_day (ascii "09:30:00") ≡ true
  pub twelve_digits : is_time_of_day (ascii "09:30:00.123456789012") ≡ true
  pub thirteen_digits : is_time_of_day (ascii "09:30:00.1234567890123") ≡ false
  pub point_alone : is_time_of_day (ascii "09:30:00.") ≡ false
  pub no_seconds : is_time_of_day (ascii "09:30") ≡ false
  pub one_digit : is_time_of_day (ascii "9:30:00") ≡ false
  pub no_point_lem : is_time_of_day (ascii "09:30:0012") ≡ false
  pub letters_of_the_picture : is_time_of_day (ascii "HH:MM:SS") ≡ false
  pub hour_99 : is_time_of_day (ascii "99:99:99") ≡ true
  pub second_60_strict : is_strict_time_of_day (ascii "09:30:60.5") ≡ true
  pub second_61_strict : is_strict_time_of_day (ascii "09:30:61") ≡ false
  pub hour_24_strict : is_strict_time_of_day (ascii "24:00:00") ≡ false
  pub minute_60_strict : is_strict_time_of_day (ascii "23:60:00") ≡ false

pub times : Times
unfolding has_picture is_between is_in_range
times = record {
  seconds = refl;
  twelve_digits = refl;
  thirteen_digits = refl;
  point_alone = refl;
  no_seconds = refl;
  one_digit = refl;
  no_point_lem = refl;
  letters_of_the_picture = refl;
  hour_99 = refl;
  second_60_strict = refl;
  second_61_strict = refl;
  hour_24_strict = refl;
  minute_60_strict = refl;
}

pub record Timestamps : Type 0 where
  pub milliseconds : is_utc_timestamp (ascii "20240229-09:30:00.123") ≡ true
  pub space_between : is_utc_timestamp (ascii "20240229 09:30:00") ≡ false
  pub date_alone : is_utc_timestamp (ascii "20240229-") ≡ false
  pub short_date : is_utc_timestamp (ascii "2024022-09:30:00") ≡ false
  pub month_13_strict : is_strict_utc_timestamp (ascii "20241329-09:30:00") ≡ false
  pub hour_24_strict : is_strict_utc_timestamp (ascii "20240229-24:00:00") ≡ false
  pub all_in_range_strict : is_strict_utc_timestamp (ascii "20241231-23:59:60") ≡ true

pub timestamps : Timestamps
unfolding has_picture is_between is_in_range
timestamps = record {
  milliseconds = refl;
  space_between = refl;
  date_alone = refl;
  short_date = refl;
  month_13_strict = refl;
  hour_24_strict = refl;
  all_in_range_strict = refl;
}
