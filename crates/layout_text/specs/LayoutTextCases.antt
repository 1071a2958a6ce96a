-- Layout texts, read by `layout_text_of`. Assumes nothing.
use Rattle.std.specs.Prelude.{◌≡◌, refl, Ok, Err}
use Rattle.ascii.specs.Notation.{is_between}
use Rattle.ascii.specs.Bytes.{ascii, non_empty}
use Rattle.refusals.specs.declared.refusal.Refusal.TheVariants.{UnknownForm, NotAllowed}
use Rattle.lines.specs.Lines.{position_of, starts_with, is_same, longer, cut}
use Rattle.lines.specs.LineParts.{no_leading_zero, number_of, flag_of, word_at, is_alphanumeric, message_type_of}
use Rattle.line_forms.specs.LineForms.{field_of, group_rest, group_of, end_of, block_line_of, definition_line_of, line_of}
use Rattle.layout_text.specs.LayoutText.{level_step_of, layout_order_from, layout_order_of, layout_text_of}

pub record LayoutTextCases : Type 0 where
  pub empty_text : layout_text_of (ascii "") ≡ Ok 0
  pub one_group : layout_text_of (ascii "member=35\nrequired=35\ngroup=453,448,1\nmember=448\nend=453\n") ≡ Ok 5
  pub member_behind_required : layout_text_of (ascii "required=35\nmember=35\n") ≡ Err (NotAllowed 2)
  pub required_behind_group : layout_text_of (ascii "group=1,2,0\nend=1\nrequired=3\n") ≡ Err (NotAllowed 3)
  pub stops_in_block : layout_text_of (ascii "group=1,2,0\n") ≡ Err (NotAllowed 2)
  pub end_of_nothing : layout_text_of (ascii "end=1\n") ≡ Err (NotAllowed 1)
  pub end_of_message : layout_text_of (ascii "group=1,2,0\nend=D\n") ≡ Err (UnknownForm 2)
  pub end_with_leading_zero : layout_text_of (ascii "group=1,2,0\nend=01\n") ≡ Err (UnknownForm 2)
  pub field_line_lem : layout_text_of (ascii "field=1,0\n") ≡ Err (UnknownForm 1)
  pub unended : layout_text_of (ascii "member=1") ≡ Err (UnknownForm 1)

pub layout-text_cases : LayoutTextCases
unfolding is_between non_empty position_of starts_with is_same longer cut no_leading_zero number_of flag_of word_at is_alphanumeric message_type_of field_of group_rest group_of end_of block_line_of definition_line_of line_of level_step_of layout_order_from layout_order_of layout_text_of
layout-text_cases = record {
  empty_text = refl;
  one_group = refl;
  member_behind_required = refl;
  required_behind_group = refl;
  stops_in_block = refl;
  end_of_nothing = refl;
  end_of_message = refl;
  end_with_leading_zero = refl;
  field_line_lem = refl;
  unended = refl;
}
