-- The calls of the gate, one behind the other (document 01, 'One list in full'): "The calls run in the order dictionary text, msg.txt, expansion, message walk,
-- verdicts (not strict)." "The first refusal prints .. as the only line": it is the list's, a call behind it does not run, and what that call is lent stays as it
-- was. Each stage is stated over the words that the calls before it wrote. Assumes nothing.
--
--   on_judged, on_walked, on_expanded, on_fields, on_read answer next   the refusal of the answer, or what comes next
--   walked_space, expanded_space, fields_space, read_space answer next space   what a space holds behind the answer: as it was, where it is a refusal
--   list_of_layout ..     the list from the message walk on, by the words of a dictionary, of a layout, of a field table and the message's bytes
--   list_of_fields ..     .. from the expansion on, by a dictionary and a field table
--   list_of_message ..    .. from the message text on, by a dictionary
--   list_of ..           the whole
--   events_of.., verdicts_of.., layout_of.., fields_of..   what the spaces hold afterwards
use Rattle.std.specs.Prelude.{ℕ, ◌*◌, ◌/◌, false, List, length, take, Result, Ok, Err}
use Rattle.read_dictionary.specs.ReadDictionary.{read_of, read_in}
use Rattle.validator.specs.MessageCall.{walked_of, events_in}
use Rattle.verdicts.specs.Verdicts.{judged_of, verdicts_in}
use Rattle.expand.specs.declared.expand_call.Expanded.{Expanded}
use Rattle.expand.specs.ExpandCall.{expanded_of, expanded_in}
use Rattle.message_text.specs.declared.message_type.Stretch.{Stretch}
use Rattle.listing.specs.declared.list_text.Shape.{Shape}
use Rattle.message_text.specs.MessageText.{read_message_of, fields_in}
use Rattle.message_text.specs.MessageType.{type_place_of, part_of}
use Rattle.refusals.specs.declared.refusal.Refusal.{Refusal}

-- the type's stretch, the number of fields, and five words an event
abbrev pub shape_of : Stretch → ℕ → ℕ → Shape
shape_of type fields words = record { message_type = type; fields = fields; events = words / 5 }

-- ---- verdicts, not strict

abbrev pub on_judged : Result ℕ Refusal → (ℕ → Result Shape Refusal) → Result Shape Refusal
on_judged (Ok count) next = next count
on_judged (Err refusal) next = Err refusal

-- ---- message walk

abbrev pub on_walked : Result ℕ Refusal → (ℕ → Result Shape Refusal) → Result Shape Refusal
on_walked (Ok words) next = next words
on_walked (Err refusal) next = Err refusal

abbrev pub walked_space : Result ℕ Refusal → List ℕ → List ℕ → List ℕ
walked_space (Ok words) next space = next
walked_space (Err refusal) next space = space

module _ (dictionary layout fields text : List ℕ) (events verdicts : List ℕ) where
  unfoldable pub list_of_layout : Stretch → Result Shape Refusal
  list_of_layout type =
      on_walked (walked_of dictionary layout fields text events)
      (λ words. on_judged (judged_of dictionary fields text verdicts) (λ count. Ok (shape_of type count words)))

  unfoldable pub verdicts_of_layout : List ℕ
  verdicts_of_layout = walked_space (walked_of dictionary layout fields text events) (verdicts_in dictionary fields text false verdicts) verdicts

-- ---- expansion

abbrev pub on_expanded : Result Expanded Refusal → (ℕ → Result Shape Refusal) → Result Shape Refusal
on_expanded (Ok expanded) next = next expanded.words
on_expanded (Err refusal) next = Err refusal

abbrev pub expanded_space : Result Expanded Refusal → (ℕ → List ℕ) → List ℕ → List ℕ
expanded_space (Ok expanded) next space = next expanded.words
expanded_space (Err refusal) next space = space

-- "type from the first 35, else empty"
abbrev pub type_of_fields : List ℕ → List ℕ → List ℕ
type_of_fields fields text = part_of (type_place_of fields) text

-- the words that the expansion wrote
abbrev pub layout_written : List ℕ → List ℕ → List ℕ → ℕ → List ℕ
layout_written dictionary type layout words = take words (expanded_in dictionary type layout)

module _ (dictionary fields text : List ℕ) (layout events verdicts : List ℕ) where
  abbrev layout_of_type : ℕ → List ℕ
  layout_of_type words = layout_written dictionary (type_of_fields fields text) layout words

  unfoldable pub list_of_fields : Result Shape Refusal
  list_of_fields =
      on_expanded (expanded_of dictionary (type_of_fields fields text) (length layout))
      (λ words. list_of_layout dictionary (layout_of_type words) fields text events verdicts (type_place_of fields))

  unfoldable pub events_of_fields : List ℕ
  events_of_fields =
      expanded_space (expanded_of dictionary (type_of_fields fields text) (length layout)) (λ words. events_in dictionary (layout_of_type words) fields text events) events

  unfoldable pub verdicts_of_fields : List ℕ
  verdicts_of_fields =
      expanded_space (expanded_of dictionary (type_of_fields fields text) (length layout)) (λ words. verdicts_of_layout dictionary (layout_of_type words) fields text events verdicts) verdicts

-- ---- msg.txt

abbrev pub on_fields : Result ℕ Refusal → (ℕ → Result Shape Refusal) → Result Shape Refusal
on_fields (Ok count) next = next count
on_fields (Err refusal) next = Err refusal

abbrev pub fields_space : Result ℕ Refusal → (ℕ → List ℕ) → List ℕ → List ℕ
fields_space (Ok count) next space = next count
fields_space (Err refusal) next space = space

-- the words that the message's fields were written in
abbrev pub table_written : List ℕ → List ℕ → ℕ → List ℕ
table_written text fields count = take (3 * count) (fields_in text fields)

module _ (dictionary text : List ℕ) (layout fields events verdicts : List ℕ) where
  unfoldable pub list_of_message : Result Shape Refusal
  list_of_message = on_fields (read_message_of text (length fields)) (λ count. list_of_fields dictionary (table_written text fields count) text layout events verdicts)

  unfoldable pub layout_of_message : List ℕ
  layout_of_message = fields_space (read_message_of text (length fields)) (λ count. expanded_in dictionary (type_of_fields (table_written text fields count) text) layout) layout

  unfoldable pub events_of_message : List ℕ
  events_of_message = fields_space (read_message_of text (length fields)) (λ count. events_of_fields dictionary (table_written text fields count) text layout events verdicts) events

  unfoldable pub verdicts_of_message : List ℕ
  verdicts_of_message = fields_space (read_message_of text (length fields)) (λ count. verdicts_of_fields dictionary (table_written text fields count) text layout events verdicts) verdicts

-- ---- dictionary text

abbrev pub on_read : Result ℕ Refusal → (ℕ → Result Shape Refusal) → Result Shape Refusal
on_read (Ok size) next = next size
on_read (Err refusal) next = Err refusal

abbrev pub read_space : Result ℕ Refusal → (ℕ → List ℕ) → List ℕ → List ℕ
read_space (Ok size) next space = next size
read_space (Err refusal) next space = space

-- the words that the dictionary was written in
abbrev pub dictionary_written : List ℕ → List ℕ → ℕ → List ℕ
dictionary_written dictionary_text words size = take size (read_in dictionary_text words)

module _ (dictionary_text text : List ℕ) (words layout fields events verdicts : List ℕ) where
  unfoldable pub list_of : Result Shape Refusal
  list_of = on_read (read_of dictionary_text (length words)) (λ size. list_of_message (dictionary_written dictionary_text words size) text layout fields events verdicts)

  unfoldable pub layout_of : List ℕ
  layout_of = read_space (read_of dictionary_text (length words)) (λ size. layout_of_message (dictionary_written dictionary_text words size) text layout fields events verdicts) layout

  unfoldable pub fields_of : List ℕ
  fields_of = read_space (read_of dictionary_text (length words)) (λ size. fields_in text fields) fields

  unfoldable pub events_of : List ℕ
  events_of = read_space (read_of dictionary_text (length words)) (λ size. events_of_message (dictionary_written dictionary_text words size) text layout fields events verdicts) events

  unfoldable pub verdicts_of : List ℕ
  verdicts_of = read_space (read_of dictionary_text (length words)) (λ size. verdicts_of_message (dictionary_written dictionary_text words size) text layout fields events verdicts) verdicts
