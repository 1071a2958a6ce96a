-- The starred cases of document 01, 'The verdict on a value': "Starred cases are the proved set." One table, proved as a whole by
-- computation over the definitions. Assumes nothing.
use Rattle.std.specs.Prelude.{◌≡◌, refl, true, false, Some, None}
use Rattle.field_types.specs.declared.field_type.FieldType.TheVariants.{Int, Price, DayOfMonth, MultipleCharValue, MonthYear}
use Rattle.ascii.specs.Notation.{is_between}
use Rattle.ascii.specs.Bytes.{ascii, non_empty}
use Rattle.counts.specs.Count.{count_of}
use Rattle.characters.specs.Characters.{expected_after, continues, characters_from, characters}
use Rattle.ascii.specs.Split.{with_first, split, every_part}
use Rattle.multi_values.specs.MultiValue.{is_token, is_multi_value_list}
use Rattle.dates.specs.Date.{has_picture}
use Rattle.strict_dates.specs.StrictDate.{is_in_range}
use Rattle.formats.specs.FieldValue.{is_of_format, is_valid_value, is_in_ranges, is_strict_value}

pub record Starred : Type 0 where
  -- "Count: empty none*; 007 is 7*; 18446744073709551615 good*, ..616 none*"
  pub count_empty : count_of (ascii "") ≡ None
  pub count_leading_zeros : count_of (ascii "007") ≡ Some 7
  pub count_largest : count_of (ascii "18446744073709551615") ≡ Some 18446744073709551615
  pub count_too_large : count_of (ascii "18446744073709551616") ≡ None
  -- "Int -0 good*, - bad*"
  pub int_signed_zero : is_valid_value Int (ascii "-0") ≡ true
  pub int_sign_alone : is_valid_value Int (ascii "-") ≡ false
  -- "Price 5. good*, . bad*"
  pub price_point_last : is_valid_value Price (ascii "5.") ≡ true
  pub price_point_alone : is_valid_value Price (ascii ".") ≡ false
  -- "DayOfMonth 0031 good*, 32 bad*"
  pub day_leading_zeros : is_valid_value DayOfMonth (ascii "0031") ≡ true
  pub day_too_large : is_valid_value DayOfMonth (ascii "32") ≡ false
  -- "MultipleCharValue `A B` good, the same with two spaces between bad*"
  pub tokens_two_spaces : is_valid_value MultipleCharValue (ascii "A  B") ≡ false
  -- "MonthYear 202402w5 good*, w6 bad*; 202413 good, strict bad*"
  pub month_year_week_five : is_valid_value MonthYear (ascii "202402w5") ≡ true
  pub month_year_week_six : is_valid_value MonthYear (ascii "202402w6") ≡ false
  pub month_year_month_thirteen : is_strict_value MonthYear (ascii "202413") ≡ false

pub starred : Starred
unfolding is_between non_empty expected_after continues characters_from characters with_first split every_part is_multi_value_list has_picture is_in_range is_of_format is_in_ranges
starred = record {
  count_empty = refl;
  count_leading_zeros = refl;
  count_largest = refl;
  count_too_large = refl;
  int_signed_zero = refl;
  int_sign_alone = refl;
  price_point_last = refl;
  price_point_alone = refl;
  day_leading_zeros = refl;
  day_too_large = refl;
  tokens_two_spaces = refl;
  month_year_week_five = refl;
  month_year_week_six = refl;
  month_year_month_thirteen = refl;
}
