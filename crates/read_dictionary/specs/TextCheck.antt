-- The check of a dictionary text in src/text_check.rt, which gives what texts defines (`dictionary_text_of`): while the lines are read in order, the names that they
-- define are kept, each kind for itself. Where no name is there twice, row 5 ("tag, component or type defined again") changes nothing. Assumes nothing.
--
--   OnceEach words                                   no word is there twice
--   NamesRoom read tags components messages          where so much was read, there is room for another name of each kind
--   NamesRead text read tags components messages     the first names of each kind, as many as were counted, decide whether row 5 is met
use Rattle.std.specs.Prelude.{◌≡◌, ℕ, ◌≤◌, ◌<◌, List, length, take}
use Rattle.ascending.specs.Sort.{how_often}
use Rattle.texts.specs.declared.dictionary_text.Counts.{Counts}
use Rattle.texts.specs.DictionaryText.{again_of, order_of, first_of}

abbrev pub OnceEach : List ℕ → Type 0
OnceEach words = (each : ℕ) → how_often each words ≤ 1

pub record NamesRoom (read : Counts) (tags components messages : List ℕ) : Type 0 where
  pub few_lines : read.lines ≤ 65536
  pub few_tags_lem : read.tags < 13108
  pub few_components : read.components < 13108
  pub few_messages : read.messages < 13108
  pub tag_places : length tags ≡ 13108
  pub component_places : length components ≡ 13108
  pub message_places : length messages ≡ 13108

pub record NamesRead (text : List ℕ) (read : Counts) (tags components messages : List ℕ) : Type 0 where
  pub few_tags_lem : read.tags ≤ 13108
  pub few_components : read.components ≤ 13108
  pub few_messages : read.messages ≤ 13108
  pub tag_places : length tags ≡ 13108
  pub component_places : length components ≡ 13108
  pub message_places : length messages ≡ 13108
  pub unrepeated : OnceEach (take read.tags tags)
      → OnceEach (take read.components components)
      → OnceEach (take read.messages messages)
      → first_of (again_of text) (order_of text) ≡ order_of text
