-- What `read_dictionary` answers and leaves for small texts, by computation. `small_words` are the words of the first one (`DictionaryCases.antt`). Assumes nothing.
use Rattle.std.specs.Prelude.{◌≡◌, refl, ℕ, List, [], ◌∷◌, ◌++◌, replicate, Ok, Err}
use Rattle.ascii.specs.Notation.{is_between}
use Rattle.ascii.specs.Bytes.{ascii, non_empty}
use Rattle.ascending.specs.Sort.{inserted, sorted}
use Rattle.refusals.specs.declared.refusal.Refusal.TheVariants.{NotAllowed, DefinedAgain, SpaceShort}
use Rattle.lines.specs.Lines.{position_of, starts_with, is_same, longer, cut}
use Rattle.lines.specs.LineParts.{no_leading_zero, number_of, flag_of, type_in, type_of, word_at, is_alphanumeric, message_type_of, value_of}
use Rattle.line_forms.specs.LineForms.{def_of, begin_of, message_of, field_of, group_rest, group_of, use_of, end_of, block_line_of, definition_line_of, line_of}
use Rattle.dictionary_order.specs.DictionaryOrder.{step_of}
use Rattle.texts.specs.DictionaryText.{order_from, order_of, is_in, again_from, again_of, dictionary_text_of}
use Rattle.records.specs.Records.{record_of}
use Rattle.dictionary.specs.DictionaryWords.{is_of, name_of, names_of, place_of, records_of, index_of, dictionary_words, lines_in}
use Rattle.definitions.specs.DictionaryCases.{four, small_words}
use Rattle.read_dictionary.specs.ReadDictionary.{read_of, read_in}

abbrev small_text : List ℕ
small_text = ascii "def=35,String\nbegin=header\nfield=35,1\nend=header\nbegin=trailer\nend=trailer\ncomponent=7\nend=7\n"

-- tag 35 is defined behind tag 448, and stands before it in the index
abbrev unsorted_text : List ℕ
unsorted_text = ascii "def=448,Int\ndef=35,Int\nbegin=header\nend=header\nbegin=trailer\nend=trailer\n"

abbrev unsorted_words : List ℕ
unsorted_words =
    6 ∷ 2 ∷ 0 ∷ 0
    ∷ (four 1 448 0 0
    ++ (four 1 35 0 0 ++ (four 3 0 0 0 ++ (four 10 0 0 0 ++ (four 4 0 0 0 ++ (four 11 0 0 0 ++ (35 ∷ 448 ∷ 1 ∷ 0 ∷ [])))))))

pub record ReadDictionaryCases : Type 0 where
  pub written : read_of small_text 88 ≡ Ok 88
  pub words_written : read_in small_text (replicate 90 5) ≡ small_words ++ (5 ∷ 5 ∷ [])
  pub space_short : read_of small_text 87 ≡ Err (SpaceShort 88)
  pub short_kept : read_in small_text (replicate 87 5) ≡ replicate 87 5
  pub no_space : read_of small_text 0 ≡ Err (SpaceShort 88)
  pub index_sorted : read_in unsorted_text (replicate 68 5) ≡ unsorted_words
  pub refused : read_of (ascii "def=35,Int\ndef=35,Int\n") 100 ≡ Err (DefinedAgain 2)
  pub refused_before_short : read_of (ascii "") 0 ≡ Err (NotAllowed 1)
  pub refused_kept : read_in (ascii "") (replicate 9 5) ≡ replicate 9 5

pub read-dictionary_cases : ReadDictionaryCases
unfolding is_between non_empty inserted sorted position_of starts_with is_same longer cut no_leading_zero number_of flag_of type_in type_of word_at is_alphanumeric message_type_of value_of def_of begin_of message_of field_of group_rest group_of use_of end_of block_line_of definition_line_of line_of step_of order_from order_of is_in again_from again_of dictionary_text_of record_of is_of name_of names_of place_of records_of index_of dictionary_words lines_in read_of read_in
read-dictionary_cases = record {
  written = refl;
  words_written = refl;
  space_short = refl;
  short_kept = refl;
  no_space = refl;
  index_sorted = refl;
  refused = refl;
  refused_before_short = refl;
  refused_kept = refl;
}
