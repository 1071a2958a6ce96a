-- Words of small dictionaries, and what the check says of them, by computation. Assumes nothing.
--
--   small   def=35,String begin=header field=35,1 end=header begin=trailer end=trailer component=7 end=7
use Rattle.std.specs.Prelude.{◌≡◌, refl, ℕ, true, false, List, [], ◌∷◌, ◌++◌, replicate, Some, None}
use Rattle.ascii.specs.Notation.{is_between}
use Rattle.ascii.specs.Bytes.{non_empty}
use Rattle.ascending.specs.Sort.{inserted, sorted}
use Rattle.ascending.specs.Search.{is_strictly_above, is_strictly_ascending, rank_from, rank_in}
use Rattle.line_forms.specs.declared.line.Line.{Line}
use Rattle.line_forms.specs.declared.line.Line.TheVariants.{Def, BeginHeader, BeginTrailer, EndHeader, EndTrailer, Component, Field, End}
use Rattle.lines.specs.LineParts.{no_leading_zero, number_of, is_alphanumeric}
use Rattle.dictionary_order.specs.DictionaryOrder.{step_of}
use Rattle.records.specs.Records.{holds_byte, holds_part, letters_length, letters_text, holds_letters, record_of, is_unused, outer_from, body_from, line_from, lines_from}
use Rattle.records.specs.LineLengths.{digit_count, length_of}
use Rattle.dictionary.specs.DictionaryWords.{is_of, name_of, names_of, place_of, records_of, index_of, dictionary_words}
use Rattle.dictionary.specs.DictionaryCheck.{accepts, count_of, stands_at, stands_each, is_index, is_dictionary}
use Rattle.definitions.specs.Definitions.{record_in, definition_of, component_of}

abbrev pub small : List Line
small =
    Def 35 14
    ∷ BeginHeader
    ∷ Field 35 true
    ∷ EndHeader
    ∷ BeginTrailer
    ∷ EndTrailer
    ∷ Component 7
    ∷ End (Some 7) (Some 922746880)
    ∷ []

abbrev pub four : ℕ → ℕ → ℕ → ℕ → List ℕ
four kind first second third = kind ∷ first ∷ second ∷ third ∷ replicate 6 0

abbrev pub small_records : List ℕ
small_records =
    four 1 35 14 0
    ++ (four 3 0 0 0 ++ (four 7 35 1 0 ++ (four 10 0 0 0 ++ (four 4 0 0 0 ++ (four 11 0 0 0 ++ (four 5 7 0 0 ++ four 12 922746880 0 0))))))

abbrev pub small_words : List ℕ
small_words = 8 ∷ 1 ∷ 1 ∷ 0 ∷ (small_records ++ (35 ∷ 0 ∷ 7 ∷ 6 ∷ []))

-- two definitions of tag 35
abbrev twice : List ℕ
twice =
    6 ∷ 2 ∷ 0 ∷ 0
    ∷ (four 1 35 14 0 ++ (four 1 35 0 0 ++ (four 3 0 0 0 ++ (four 10 0 0 0 ++ (four 4 0 0 0 ++ (four 11 0 0 0 ++ (35 ∷ 35 ∷ 0 ∷ 1 ∷ [])))))))

pub record DictionaryCases : Type 0 where
  pub arranged : dictionary_words small ≡ small_words
  pub passes : is_dictionary small_words ≡ true
  pub words_behind : is_dictionary (small_words ++ (99 ∷ [])) ≡ true
  pub nothing : is_dictionary [] ≡ false
  pub zeros : is_dictionary (replicate 100 0) ≡ false
  pub too_short : is_dictionary (8 ∷ 1 ∷ 1 ∷ 0 ∷ (small_records ++ (35 ∷ 0 ∷ 7 ∷ []))) ≡ false
  pub largest_count : is_dictionary (4294967295 ∷ 1 ∷ 1 ∷ 0 ∷ (small_records ++ (35 ∷ 0 ∷ 7 ∷ 6 ∷ []))) ≡ false
  pub points_elsewhere : is_dictionary (8 ∷ 1 ∷ 1 ∷ 0 ∷ (small_records ++ (35 ∷ 2 ∷ 7 ∷ 6 ∷ []))) ≡ false
  pub points_outside : is_dictionary (8 ∷ 1 ∷ 1 ∷ 0 ∷ (small_records ++ (35 ∷ 0 ∷ 7 ∷ 8 ∷ []))) ≡ false
  pub left_out : is_dictionary (8 ∷ 1 ∷ 0 ∷ 0 ∷ (small_records ++ (35 ∷ 0 ∷ 7 ∷ 6 ∷ []))) ≡ false
  pub defined_twice : is_dictionary twice ≡ false
  pub definition : definition_of small_words 35 ≡ Some (record { type_place = 14; number = 0 })
  pub no_definition : definition_of small_words 36 ≡ None
  pub component : component_of small_words 7 ≡ Some 6
  pub no_component : component_of small_words 8 ≡ None

pub dictionary-cases : DictionaryCases
unfolding is_between non_empty inserted sorted is_strictly_above is_strictly_ascending rank_from rank_in no_leading_zero number_of is_alphanumeric step_of holds_byte holds_part letters_length letters_text holds_letters record_of is_unused outer_from body_from line_from digit_count length_of is_of name_of names_of place_of records_of index_of dictionary_words lines_from accepts count_of stands_at stands_each is_index is_dictionary record_in definition_of component_of
dictionary-cases = record {
  arranged = refl;
  passes = refl;
  words_behind = refl;
  nothing = refl;
  zeros = refl;
  too_short = refl;
  largest_count = refl;
  points_elsewhere = refl;
  points_outside = refl;
  left_out = refl;
  defined_twice = refl;
  definition = refl;
  no_definition = refl;
  component = refl;
  no_component = refl;
}
