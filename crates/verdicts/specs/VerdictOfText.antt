-- The verdict that the call `check_values` gives by a dictionary's words is the one that the lines of the dictionary's text give: `words-verdict` for all words that
-- pass the check, `text-verdict` for the words of an accepted text, whatever words follow them. As an example the definitions of document 01's 'One list in full', under
-- which `447=X` gets 3, since `def=447,Char` is followed by `value=D` alone (`worked-verdicts`). Assumes nothing.
use Rattle.std.specs.Prelude.{◌≡◌, refl, ℕ, Bool, true, false, List, ◌++◌, Ok}
use Rattle.std.proofs.Common.{ap}
use Rattle.ascii.specs.Notation.{is_between}
use Rattle.ascii.specs.Bytes.{ascii, non_empty}
use Rattle.field_types.specs.FieldType.{type_numbered}
use Rattle.formats.specs.FieldValue.{is_of_format}
use Rattle.characters.specs.Characters.{expected_after, continues, characters_from, characters}
use Rattle.line_forms.specs.declared.line.Line.{Line}
use Rattle.line_forms.specs.LineForms.{def_of, begin_of, message_of, field_of, group_rest, group_of, use_of, end_of, block_line_of, definition_line_of, line_of}
use Rattle.lines.specs.Lines.{position_of, starts_with, is_same, longer, cut, lines_of}
use Rattle.lines.specs.LineParts.{no_leading_zero, number_of, flag_of, type_in, type_of, word_at, is_alphanumeric, message_type_of, value_of}
use Rattle.texts.specs.declared.dictionary_text.Counts.{Counts}
use Rattle.dictionary_order.specs.DictionaryOrder.{step_of}
use Rattle.texts.specs.DictionaryText.{counts, order_from, order_of, is_in, again_from, again_of, dictionary_text_of}
use Rattle.records.specs.Records.{letters_length, letters_text, Words32}
use Rattle.records.specs.LineTexts.{bytes_from, value_text}
use Rattle.dictionary.specs.DictionaryWords.{word_lines, dictionary_words, lines_in}
use Rattle.dictionary.specs.DictionaryCheck.{is_dictionary}
use Rattle.definitions.specs.PassAccepted.{pass_accepted}
use Rattle.definitions.specs.WordLinesLaws.{word_lines-arranged, word_lines-text}
use Rattle.definitions.specs.DefinedFields.{values_first, fields_in, field_called, is_one_of}
use Rattle.verdict.specs.declared.verdict.Verdict.TheVariants.{Good, Undefined, NotAdmitted}
use Rattle.verdict.specs.Verdict.{check_value}

-- the words of an accepted text, whatever follows them
pub text-verdict : (text : List ℕ) (outcome : Counts) → dictionary_text_of text ≡ Ok outcome → (more : List ℕ) (strict : Bool) (tag : ℕ) (value : List ℕ)
    → check_value (word_lines (dictionary_words (lines_in (lines_of text)) ++ more)) strict tag value ≡ check_value (lines_in (lines_of text)) strict tag value
text-verdict text outcome accepted more strict tag value =
    ap (λ (lines : List Line). check_value lines strict tag value) (word_lines-arranged text outcome accepted more)

-- all words that pass the check: the text is the one whose arrangement they begin with
pub words-verdict : (words : List ℕ) (small : Words32 words) (passes : is_dictionary words ≡ true) (strict : Bool) (tag : ℕ) (value : List ℕ)
    → check_value (word_lines words) strict tag value ≡ check_value (lines_in (lines_of (pass_accepted words small passes).text)) strict tag value
words-verdict words small passes strict tag value = ap (λ (lines : List Line). check_value lines strict tag value) (word_lines-text words small passes)

-- ---- 'One list in full'

abbrev worked_text : List ℕ
worked_text = ascii "def=35,String\ndef=448,String\ndef=447,Char\nvalue=D\ndef=453,NumInGroup\nbegin=header\nfield=35,1\nend=header\nbegin=trailer\nend=trailer\nmessage=D,app\ngroup=453,448,1\nfield=447,1\nend=453\nend=D\n"

abbrev worked_lines : List Line
worked_lines = lines_in (lines_of worked_text)

pub record WorkedVerdicts : Type 0 where
  pub accepted : dictionary_text_of worked_text ≡ Ok (counts 15 4 0 1)
  pub admitted : check_value worked_lines false 447 (ascii "D") ≡ Good
  pub not_admitted : check_value worked_lines false 447 (ascii "X") ≡ NotAdmitted
  -- "none: every value admitted"
  pub any_admitted : check_value worked_lines false 448 (ascii "X") ≡ Good
  pub not_defined : check_value worked_lines false 79 (ascii "X") ≡ Undefined

pub worked-verdicts : WorkedVerdicts
unfolding is_between non_empty expected_after continues characters_from characters type_numbered is_of_format position_of starts_with is_same longer cut no_leading_zero number_of flag_of type_in type_of word_at is_alphanumeric message_type_of value_of def_of begin_of message_of field_of group_rest group_of use_of end_of block_line_of definition_line_of line_of step_of order_from order_of is_in again_from again_of dictionary_text_of letters_length letters_text bytes_from value_text lines_in values_first fields_in field_called is_one_of check_value
worked-verdicts = record {
  accepted = refl;
  admitted = refl;
  not_admitted = refl;
  any_admitted = refl;
  not_defined = refl;
}
