-- Lines, read by the definitions of `LineForms.antt`. Assumes nothing.
use Rattle.std.specs.Prelude.{◌≡◌, refl, true, false, Some, None}
use Rattle.ascii.specs.Notation.{is_between}
use Rattle.ascii.specs.Bytes.{ascii, non_empty}
use Rattle.line_forms.specs.declared.line.Line.TheVariants.{Def, Value, BeginHeader, EndTrailer, Component, Message, Field, Group, Use, End, Member, RequiredTag, Unknown}
use Rattle.lines.specs.Lines.{position_of, starts_with, is_same, longer, cut}
use Rattle.lines.specs.LineParts.{no_leading_zero, number_of, flag_of, type_in, type_of, word_at, is_alphanumeric, message_type_of, admitted_bytes, value_of}
use Rattle.line_forms.specs.LineForms.{def_of, begin_of, message_of, field_of, group_rest, group_of, use_of, end_of, block_line_of, definition_line_of, line_of}

pub record LineCases : Type 0 where
  pub def_line : line_of (ascii "def=453,NumInGroup") ≡ Def 453 3
  pub def_unknown_type : line_of (ascii "def=35,Foo") ≡ Unknown
  pub def_more_parts : line_of (ascii "def=1,Int,") ≡ Unknown
  pub value_line : line_of (ascii "value=D") ≡ Value (admitted_bytes (ascii "D"))
  pub value_equals : line_of (ascii "value==") ≡ Value (admitted_bytes (ascii "="))
  pub begin_header : line_of (ascii "begin=header") ≡ BeginHeader
  pub begin_message : line_of (ascii "begin=message") ≡ Unknown
  pub end_trailer : line_of (ascii "end=trailer") ≡ EndTrailer
  pub component_line : line_of (ascii "component=7") ≡ Component 7
  pub component_parts : line_of (ascii "component=1,1") ≡ Unknown
  pub message_line : line_of (ascii "message=D,app") ≡ Message 1140850688 true
  pub message_admin : line_of (ascii "message=0,admin") ≡ Message 805306368 false
  pub message_kind : line_of (ascii "message=D,App") ≡ Unknown
  pub message_alone : line_of (ascii "message=D") ≡ Unknown
  pub field_line_lem : line_of (ascii "field=35,1") ≡ Field 35 true
  pub field_alone : line_of (ascii "field=1") ≡ Unknown
  pub group_line : line_of (ascii "group=453,448,0") ≡ Group 453 448 false
  pub group_short : line_of (ascii "group=1,2") ≡ Unknown
  pub use_line : line_of (ascii "use=5,1") ≡ Use 5 true
  pub end_of_four : line_of (ascii "end=0453") ≡ End None (Some 808727859)
  pub end_of_both : line_of (ascii "end=453") ≡ End (Some 453) (Some 875901696)
  pub end_of_five : line_of (ascii "end=99999") ≡ End (Some 99999) None
  pub end_zeros : line_of (ascii "end=00453") ≡ Unknown
  pub end_headers : line_of (ascii "end=headers") ≡ Unknown
  pub member_line : line_of (ascii "member=5") ≡ Member 5
  pub required_line : line_of (ascii "required=5") ≡ RequiredTag 5
  pub empty_line : line_of (ascii "") ≡ Unknown
  pub white_space : line_of (ascii " field=1,1") ≡ Unknown
  pub carriage_return : line_of (ascii "field=1,1\r") ≡ Unknown

pub line-cases : LineCases
unfolding is_between non_empty position_of starts_with is_same longer cut no_leading_zero number_of flag_of type_in type_of word_at is_alphanumeric message_type_of value_of def_of begin_of message_of field_of group_rest group_of use_of end_of block_line_of definition_line_of line_of
line-cases = record {
  def_line = refl;
  def_unknown_type = refl;
  def_more_parts = refl;
  value_line = refl;
  value_equals = refl;
  begin_header = refl;
  begin_message = refl;
  end_trailer = refl;
  component_line = refl;
  component_parts = refl;
  message_line = refl;
  message_admin = refl;
  message_kind = refl;
  message_alone = refl;
  field_line_lem = refl;
  field_alone = refl;
  group_line = refl;
  group_short = refl;
  use_line = refl;
  end_of_four = refl;
  end_of_both = refl;
  end_of_five = refl;
  end_zeros = refl;
  end_headers = refl;
  member_line = refl;
  required_line = refl;
  empty_line = refl;
  white_space = refl;
  carriage_return = refl;
}
