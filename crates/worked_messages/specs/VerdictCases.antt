-- Verdicts on a few values, and the call on document 01's worked example, by computation. Assumes nothing.
--
--   some          def=44,Price def=54,Char value=1 value=2 def=58,String value=A def=200,MonthYear def=276,MultipleCharValue value=A value=B
--                 def=541,MonthYear value=202412, then an empty header and an empty trailer
--   worked        the words of the definitions of 'One list in full': def=35,String def=448,String def=447,Char value=D def=453,NumInGroup
--   worked_table   the fields of its message, 35=D 453=2 448=A 447=D 448=B, with the values one behind the other
use Rattle.std.specs.Prelude.{◌≡◌, refl, ℕ, true, false, List, [], ◌∷◌, Ok, Err}
use Rattle.ascii.specs.Notation.{is_between}
use Rattle.ascii.specs.Bytes.{ascii, non_empty}
use Rattle.ascii.specs.Split.{with_first, split, every_part}
use Rattle.dates.specs.Date.{stands_for, has_picture, is_month_year}
use Rattle.strict_dates.specs.StrictDate.{is_in_range, is_strict_month_year}
use Rattle.numbers.specs.Number.{is_signed, without_sign, is_integer, is_decimal_body, is_decimal}
use Rattle.characters.specs.Characters.{expected_after, continues, characters_from, characters}
use Rattle.multi_values.specs.MultiValue.{is_token, is_multi_value_list}
use Rattle.field_types.specs.FieldType.{type_numbered}
use Rattle.formats.specs.FieldValue.{is_of_format, is_in_ranges}
use Rattle.ascending.specs.Sort.{inserted, sorted}
use Rattle.ascending.specs.Search.{is_strictly_above, is_strictly_ascending}
use Rattle.line_forms.specs.declared.line.Line.{Line}
use Rattle.line_forms.specs.declared.line.Line.TheVariants.{Def, Value, BeginHeader, EndHeader, BeginTrailer, EndTrailer}
use Rattle.refusals.specs.declared.refusal.Refusal.TheVariants.{UnknownForm, BadField, SpaceShort}
use Rattle.lines.specs.Lines.{starts_with, is_same}
use Rattle.lines.specs.LineParts.{word_at, admitted_bytes}
use Rattle.dictionary_order.specs.DictionaryOrder.{step_of}
use Rattle.records.specs.Records.{holds_byte, holds_part, holds_value, record_of, is_unused, outer_from, body_from, line_from, lines_from}
use Rattle.records.specs.LineTexts.{bytes_from, value_text}
use Rattle.records.specs.LineLengths.{digit_count, length_of}
use Rattle.dictionary.specs.DictionaryWords.{is_of, name_of, names_of, place_of, records_of, index_of, dictionary_words}
use Rattle.dictionary.specs.DictionaryCheck.{accepts, count_of, stands_at, stands_each, is_index, is_dictionary}
use Rattle.definitions.specs.DefinedFields.{values_first, fields_in, field_called, is_one_of}
use Rattle.field_table.specs.FieldTable.{is_bad_field, bad_from, table_check_of}
use Rattle.verdict.specs.declared.verdict.Verdict.TheVariants.{Good, Undefined, WrongFormat, NotAdmitted}
use Rattle.verdict.specs.Verdict.{admits_each, check_value}
use Rattle.verdicts.specs.Verdicts.{verdicts_from, judged_of, verdicts_in}

abbrev empty_bodies : List Line
empty_bodies = BeginHeader ∷ EndHeader ∷ BeginTrailer ∷ EndTrailer ∷ []

abbrev some : List Line
some =
    Def 44 8
    ∷ Def 54 12
    ∷ Value (admitted_bytes (ascii "1"))
    ∷ Value (admitted_bytes (ascii "2"))
    ∷ Def 58 14
    ∷ Value (admitted_bytes (ascii "A"))
    ∷ Def 200 20
    ∷ Def 276 15
    ∷ Value (admitted_bytes (ascii "A"))
    ∷ Value (admitted_bytes (ascii "B"))
    ∷ Def 541 20
    ∷ Value (admitted_bytes (ascii "202412"))
    ∷ empty_bodies

abbrev worked : List ℕ
worked = dictionary_words (Def 35 14 ∷ Def 448 14 ∷ Def 447 12 ∷ Value (admitted_bytes (ascii "D")) ∷ Def 453 3 ∷ empty_bodies)

abbrev worked_table : List ℕ
worked_table = 35 ∷ 0 ∷ 1 ∷ 453 ∷ 1 ∷ 2 ∷ 448 ∷ 2 ∷ 3 ∷ 447 ∷ 3 ∷ 4 ∷ 448 ∷ 4 ∷ 5 ∷ []

abbrev worked_message : List ℕ
worked_message = ascii "D2ADB"

pub record VerdictCases : Type 0 where
  pub some_passes : is_dictionary (dictionary_words some) ≡ true
  -- each verdict
  pub price_good : check_value some false 44 (ascii "5.") ≡ Good
  pub no_definition : check_value some false 45 (ascii "5.") ≡ Undefined
  pub price_point_alone : check_value some false 44 (ascii ".") ≡ WrongFormat
  pub side_admitted : check_value some false 54 (ascii "2") ≡ Good
  pub side_not_admitted : check_value some false 54 (ascii "3") ≡ NotAdmitted
  -- the format is tested before the admitted values
  pub side_two_characters : check_value some false 54 (ascii "12") ≡ WrongFormat
  pub one_byte_FF : check_value some false 54 (0xFF ∷ []) ≡ NotAdmitted
  -- "202413 good, strict bad"
  pub month_thirteen : check_value some false 200 (ascii "202413") ≡ Good
  pub month_thirteen_strict : check_value some true 200 (ascii "202413") ≡ WrongFormat
  pub month_twelve_strict : check_value some true 200 (ascii "202412") ≡ Good
  -- strict mode is tested before the admitted values
  pub month_not_admitted : check_value some false 541 (ascii "202413") ≡ NotAdmitted
  pub month_not_admitted_strict : check_value some true 541 (ascii "202413") ≡ WrongFormat
  pub month_admitted_strict : check_value some true 541 (ascii "202412") ≡ Good
  -- tokens are judged one by one, other values as a whole
  pub tokens_admitted : check_value some false 276 (ascii "A B A") ≡ Good
  pub last_token_not_admitted : check_value some false 276 (ascii "A B C") ≡ NotAdmitted
  pub first_token_not_admitted : check_value some false 276 (ascii "C A") ≡ NotAdmitted
  pub two_spaces : check_value some false 276 (ascii "A  B") ≡ WrongFormat
  pub string_with_space : check_value some false 58 (ascii "A A") ≡ NotAdmitted
  -- "verdicts=00000"
  pub worked_answer : judged_of worked worked_table worked_message (9 ∷ 9 ∷ 9 ∷ 9 ∷ 9 ∷ 9 ∷ []) ≡ Ok 5
  pub worked_words : verdicts_in worked worked_table worked_message false (9 ∷ 9 ∷ 9 ∷ 9 ∷ 9 ∷ 9 ∷ []) ≡ 0 ∷ 0 ∷ 0 ∷ 0 ∷ 0 ∷ 9 ∷ []
  -- 447=X under def=447,Char value=D gets 3
  pub worked_not_admitted : verdicts_in worked (447 ∷ 0 ∷ 1 ∷ []) (ascii "X") false (9 ∷ []) ≡ 3 ∷ []
  pub worked_short : judged_of worked worked_table worked_message (9 ∷ 9 ∷ 9 ∷ 9 ∷ []) ≡ Err (SpaceShort 5)
  pub worked_untouched : verdicts_in worked worked_table worked_message false (9 ∷ 9 ∷ 9 ∷ 9 ∷ []) ≡ 9 ∷ 9 ∷ 9 ∷ 9 ∷ []
  -- the table before the space, and the dictionary before the table
  pub table_first : judged_of worked (35 ∷ 0 ∷ 1 ∷ 453 ∷ 1 ∷ 6 ∷ []) worked_message [] ≡ Err (BadField 2)
  pub dictionary_first : judged_of [] (35 ∷ []) worked_message [] ≡ Err (UnknownForm 0)

pub verdict_cases : VerdictCases
unfolding is_between non_empty with_first split every_part has_picture is_in_range expected_after continues characters_from characters is_multi_value_list type_numbered is_of_format is_in_ranges inserted sorted is_strictly_above is_strictly_ascending word_at step_of holds_byte holds_part holds_value record_of is_unused outer_from body_from line_from digit_count length_of is_of name_of names_of place_of records_of index_of dictionary_words lines_from accepts count_of stands_at stands_each is_index is_dictionary starts_with is_same bytes_from value_text values_first fields_in field_called is_one_of is_bad_field bad_from table_check_of admits_each check_value verdicts_from judged_of verdicts_in
verdict_cases = record {
  some_passes = refl;
  price_good = refl;
  no_definition = refl;
  price_point_alone = refl;
  side_admitted = refl;
  side_not_admitted = refl;
  side_two_characters = refl;
  one_byte_FF = refl;
  month_thirteen = refl;
  month_thirteen_strict = refl;
  month_twelve_strict = refl;
  month_not_admitted = refl;
  month_not_admitted_strict = refl;
  month_admitted_strict = refl;
  tokens_admitted = refl;
  last_token_not_admitted = refl;
  first_token_not_admitted = refl;
  two_spaces = refl;
  string_with_space = refl;
  worked_answer = refl;
  worked_words = refl;
  worked_not_admitted = refl;
  worked_short = refl;
  worked_untouched = refl;
  table_first = refl;
  dictionary_first = refl;
}
