-- Records of lines and lines of records, by computation. Assumes nothing.
use Rattle.std.specs.Prelude.{◌≡◌, refl, true, false, [], ◌∷◌, Some, None}
use Rattle.ascii.specs.Notation.{is_between}
use Rattle.ascii.specs.Bytes.{ascii, non_empty}
use Rattle.line_forms.specs.declared.line.Line.TheVariants.{Def, Value, Message, Group, End, Unknown}
use Rattle.lines.specs.LineParts.{no_leading_zero, number_of, word_at, is_alphanumeric, admitted_bytes}
use Rattle.records.specs.Records.{holds_byte, holds_part, letters_length, letters_text, holds_letters, holds_value, record_of, is_unused, outer_from, body_from, line_from}

pub record RecordCases : Type 0 where
  pub def_record : record_of (Def 453 3) ≡ 1 ∷ 453 ∷ 3 ∷ 0 ∷ 0 ∷ 0 ∷ 0 ∷ 0 ∷ 0 ∷ 0 ∷ []
  pub value_record_lem : record_of (Value (admitted_bytes (ascii "Test!"))) ≡ 2 ∷ 5 ∷ 1415934836 ∷ 553648128 ∷ 0 ∷ 0 ∷ 0 ∷ 0 ∷ 0 ∷ 0 ∷ []
  pub value_line : line_from (record_of (Value (admitted_bytes (ascii "Test!")))) ≡ Value (admitted_bytes (ascii "Test!"))
  pub value_shorter : line_from (2 ∷ 4 ∷ 1415934836 ∷ 553648128 ∷ 0 ∷ 0 ∷ 0 ∷ 0 ∷ 0 ∷ 0 ∷ []) ≡ Unknown
  pub value_of_nothing : line_from (2 ∷ 0 ∷ 0 ∷ 0 ∷ 0 ∷ 0 ∷ 0 ∷ 0 ∷ 0 ∷ 0 ∷ []) ≡ Unknown
  pub message_line : line_from (6 ∷ 1140850688 ∷ 1 ∷ 0 ∷ 0 ∷ 0 ∷ 0 ∷ 0 ∷ 0 ∷ 0 ∷ []) ≡ Message 1140850688 true
  pub message_gap : line_from (6 ∷ 1140867072 ∷ 1 ∷ 0 ∷ 0 ∷ 0 ∷ 0 ∷ 0 ∷ 0 ∷ 0 ∷ []) ≡ Unknown
  pub group_line : line_from (8 ∷ 453 ∷ 448 ∷ 0 ∷ 0 ∷ 0 ∷ 0 ∷ 0 ∷ 0 ∷ 0 ∷ []) ≡ Group 453 448 false
  pub group_flag : line_from (8 ∷ 453 ∷ 448 ∷ 2 ∷ 0 ∷ 0 ∷ 0 ∷ 0 ∷ 0 ∷ 0 ∷ []) ≡ Unknown
  pub last_word : line_from (8 ∷ 453 ∷ 448 ∷ 0 ∷ 0 ∷ 0 ∷ 0 ∷ 0 ∷ 0 ∷ 1 ∷ []) ≡ Unknown
  pub end_of_both : line_from (12 ∷ 875901696 ∷ 0 ∷ 0 ∷ 0 ∷ 0 ∷ 0 ∷ 0 ∷ 0 ∷ 0 ∷ []) ≡ End (Some 453) (Some 875901696)
  pub end_of_letters_lem : line_from (12 ∷ 1140850688 ∷ 0 ∷ 0 ∷ 0 ∷ 0 ∷ 0 ∷ 0 ∷ 0 ∷ 0 ∷ []) ≡ End None (Some 1140850688)
  pub end_of_five : line_from (13 ∷ 99999 ∷ 0 ∷ 0 ∷ 0 ∷ 0 ∷ 0 ∷ 0 ∷ 0 ∷ 0 ∷ []) ≡ End (Some 99999) None
  pub end_of_four_digits : line_from (13 ∷ 9999 ∷ 0 ∷ 0 ∷ 0 ∷ 0 ∷ 0 ∷ 0 ∷ 0 ∷ 0 ∷ []) ≡ Unknown
  pub zeros : line_from (0 ∷ 0 ∷ 0 ∷ 0 ∷ 0 ∷ 0 ∷ 0 ∷ 0 ∷ 0 ∷ 0 ∷ []) ≡ Unknown
  pub unknown_kind : line_from (14 ∷ 0 ∷ 0 ∷ 0 ∷ 0 ∷ 0 ∷ 0 ∷ 0 ∷ 0 ∷ 0 ∷ []) ≡ Unknown

pub record_cases : RecordCases
unfolding is_between non_empty no_leading_zero number_of word_at is_alphanumeric holds_byte holds_part letters_length letters_text holds_letters holds_value record_of is_unused outer_from body_from line_from
record_cases = record {
  def_record = refl;
  value_record_lem = refl;
  value_line = refl;
  value_shorter = refl;
  value_of_nothing = refl;
  message_line = refl;
  message_gap = refl;
  group_line = refl;
  group_flag = refl;
  last_word = refl;
  end_of_both = refl;
  end_of_letters_lem = refl;
  end_of_five = refl;
  end_of_four_digits = refl;
  zeros = refl;
  unknown_kind = refl;
}
