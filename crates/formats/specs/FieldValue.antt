-- Which values a field of each data type may have: schema.rs, `FieldType::is_valid_value`, whose arms are the forms of `format_of`
-- (field_types, FieldType.antt); and document 01's strict mode, which asks more of dates and times. Assumes nothing.
--
--   is_of_format format value    the value has this form
--   is_valid_value type value    "`value` has the on-the-wire form this type admits"
--   is_in_ranges format value    the numbers of a date or time of this form are in range; every other form is free
--   is_strict_value type value   the value has its type's form and is in range
use Rattle.std.specs.Prelude.{ℕ, Bool, true, false, ◌&&◌, List}
use Rattle.field_types.specs.declared.field_type.FieldType.{FieldType}
use Rattle.field_types.specs.declared.field_type.Format.{Format}
use Rattle.field_types.specs.declared.field_type.Format.TheVariants.{SignedInteger, UnsignedInteger, Day, Decimal, OneCharacter, YesOrNo, Tokens, Letters, YearMonth, Date, TimeOfDay, DateAndTime, Anything}
use Rattle.ascii.specs.Notation.{◌≡ᵇ◌}
use Rattle.formats.specs.Boolean.{is_boolean}
use Rattle.numbers.specs.Number.{is_integer, is_decimal, is_day_of_month}
use Rattle.characters.specs.Characters.{characters}
use Rattle.multi_values.specs.MultiValue.{is_multi_value_list}
use Rattle.ascii.specs.Letters.{is_alpha_of_len}
use Rattle.dates.specs.Date.{is_month_year, is_date, is_time_of_day, is_utc_timestamp}
use Rattle.strict_dates.specs.StrictDate.{is_strict_month_year, is_strict_date, is_strict_time_of_day, is_strict_utc_timestamp}
use Rattle.field_types.specs.FieldType.{format_of}

unfoldable pub is_of_format : Format → List ℕ → Bool
is_of_format SignedInteger value = is_integer true value
is_of_format UnsignedInteger value = is_integer false value
is_of_format Day value = is_day_of_month value
is_of_format Decimal value = is_decimal value
is_of_format OneCharacter value = characters value ≡ᵇ 1
is_of_format YesOrNo value = is_boolean value
is_of_format (Tokens token_len) value = is_multi_value_list token_len value
is_of_format (Letters len) value = is_alpha_of_len len value
is_of_format YearMonth value = is_month_year value
is_of_format Date value = is_date value
is_of_format TimeOfDay value = is_time_of_day value
is_of_format DateAndTime value = is_utc_timestamp value
is_of_format Anything value = true

abbrev pub is_valid_value : FieldType → List ℕ → Bool
is_valid_value type value = is_of_format (format_of type) value

unfoldable pub is_in_ranges : Format → List ℕ → Bool
is_in_ranges SignedInteger value = true
is_in_ranges UnsignedInteger value = true
is_in_ranges Day value = true
is_in_ranges Decimal value = true
is_in_ranges OneCharacter value = true
is_in_ranges YesOrNo value = true
is_in_ranges (Tokens token_len) value = true
is_in_ranges (Letters len) value = true
is_in_ranges YearMonth value = is_strict_month_year value
is_in_ranges Date value = is_strict_date value
is_in_ranges TimeOfDay value = is_strict_time_of_day value
is_in_ranges DateAndTime value = is_strict_utc_timestamp value
is_in_ranges Anything value = true

abbrev pub is_strict_value : FieldType → List ℕ → Bool
is_strict_value type value = is_valid_value type value && is_in_ranges (format_of type) value
