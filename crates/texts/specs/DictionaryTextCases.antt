-- Dictionary texts, read by `dictionary_text_of`. The first is the one of document 01, 'One list in full'. Assumes nothing.
use Rattle.std.specs.Prelude.{◌≡◌, refl, ℕ, zero, suc, List, ◌++◌, Ok, Err}
use Rattle.ascii.specs.Notation.{is_between}
use Rattle.ascii.specs.Bytes.{ascii, non_empty}
use Rattle.refusals.specs.declared.refusal.Refusal.TheVariants.{UnknownForm, NotAllowed, TooManyOpen, DefinedAgain}
use Rattle.lines.specs.Lines.{position_of, starts_with, is_same, longer, cut}
use Rattle.lines.specs.LineParts.{no_leading_zero, number_of, flag_of, type_in, type_of, word_at, is_alphanumeric, message_type_of, value_of}
use Rattle.line_forms.specs.LineForms.{def_of, begin_of, message_of, field_of, group_rest, group_of, use_of, end_of, block_line_of, definition_line_of, line_of}
use Rattle.dictionary_order.specs.DictionaryOrder.{step_of}
use Rattle.texts.specs.DictionaryText.{counts, order_from, order_of, is_in, again_from, again_of, dictionary_text_of}

-- a header with so many group blocks open, one in the other
abbrev groups_open : ℕ → List ℕ
groups_open zero = ascii "begin=header\n"
groups_open (suc more) = groups_open more ++ ascii "group=1,2,0\n"

pub record DictionaryTextCases : Type 0 where
  pub worked_example : dictionary_text_of (ascii "def=35,String\ndef=448,String\ndef=447,Char\nvalue=D\ndef=453,NumInGroup\nbegin=header\nfield=35,1\nend=header\nbegin=trailer\nend=trailer\nmessage=D,app\ngroup=453,448,1\nfield=447,1\nend=453\nend=D\n") ≡ Ok (counts 15 4 0 1)
  pub smallest : dictionary_text_of (ascii "begin=header\nend=header\nbegin=trailer\nend=trailer\n") ≡ Ok (counts 4 0 0 0)
  pub empty_text : dictionary_text_of (ascii "") ≡ Err (NotAllowed 1)
  pub stops_in_block : dictionary_text_of (ascii "begin=header\n") ≡ Err (NotAllowed 2)
  pub last_line_unended : dictionary_text_of (ascii "begin=header\nend=header") ≡ Err (UnknownForm 2)
  pub value_first : dictionary_text_of (ascii "value=D\n") ≡ Err (NotAllowed 1)
  pub unknown_before_defined_again : dictionary_text_of (ascii "def=35,Int\ndef=35,Foo\n") ≡ Err (UnknownForm 2)
  pub defined_again : dictionary_text_of (ascii "def=35,Int\ndef=36,Int\ndef=35,Char\n") ≡ Err (DefinedAgain 3)
  pub defined_again_out_of_place : dictionary_text_of (ascii "def=35,Int\nbegin=header\ndef=35,Int\n") ≡ Err (NotAllowed 3)
  pub use_in_header : dictionary_text_of (ascii "begin=header\nuse=5,1\n") ≡ Err (NotAllowed 2)
  pub use_in_header_group : dictionary_text_of (ascii "begin=header\ngroup=1,2,0\nuse=5,1\nend=1\nend=header\nbegin=trailer\nend=trailer\n") ≡ Ok (counts 7 0 0 0)
  pub field_behind_group : dictionary_text_of (ascii "begin=header\ngroup=1,2,0\nend=1\nfield=3,0\n") ≡ Err (NotAllowed 4)
  pub end_of_other_block : dictionary_text_of (ascii "begin=header\ngroup=453,2,0\nend=header\n") ≡ Err (NotAllowed 3)
  pub end_with_leading_zero : dictionary_text_of (ascii "begin=header\ngroup=453,2,0\nend=0453\n") ≡ Err (NotAllowed 3)
  pub component_and_message_alike : dictionary_text_of (ascii "begin=header\nend=header\nbegin=trailer\nend=trailer\ncomponent=5\nend=5\nmessage=5,app\nend=5\n") ≡ Ok (counts 8 0 1 1)
  pub message_defined_again : dictionary_text_of (ascii "begin=header\nend=header\nbegin=trailer\nend=trailer\nmessage=D,app\nend=D\nmessage=D,admin\nend=D\n") ≡ Err (DefinedAgain 7)
  pub component_behind_message : dictionary_text_of (ascii "begin=header\nend=header\nbegin=trailer\nend=trailer\nmessage=D,app\nend=D\ncomponent=5\n") ≡ Err (NotAllowed 7)
  pub innermost_block_closes : dictionary_text_of (ascii "begin=header\nend=header\nbegin=trailer\nend=trailer\nmessage=453,app\ngroup=453,1,1\nend=453\nend=453\n") ≡ Ok (counts 8 0 0 1)
  pub member_line : dictionary_text_of (ascii "member=5\n") ≡ Err (UnknownForm 1)
  pub forty_groups_open : dictionary_text_of (groups_open 40) ≡ Err (NotAllowed 42)
  pub forty_one_groups_open : dictionary_text_of (groups_open 41) ≡ Err (TooManyOpen 42)

pub dictionary-text_cases : DictionaryTextCases
unfolding is_between non_empty position_of starts_with is_same longer cut no_leading_zero number_of flag_of type_in type_of word_at is_alphanumeric message_type_of value_of def_of begin_of message_of field_of group_rest group_of use_of end_of block_line_of definition_line_of line_of step_of order_from order_of is_in again_from again_of dictionary_text_of
dictionary-text_cases = record {
  worked_example = refl;
  smallest = refl;
  empty_text = refl;
  stops_in_block = refl;
  last_line_unended = refl;
  value_first = refl;
  unknown_before_defined_again = refl;
  defined_again = refl;
  defined_again_out_of_place = refl;
  use_in_header = refl;
  use_in_header_group = refl;
  field_behind_group = refl;
  end_of_other_block = refl;
  end_with_leading_zero = refl;
  component_and_message_alike = refl;
  message_defined_again = refl;
  component_behind_message = refl;
  innermost_block_closes = refl;
  member_line = refl;
  forty_groups_open = refl;
  forty_one_groups_open = refl;
}
