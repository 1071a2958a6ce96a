-- The walk of a message on small messages, by computation: document 01's list in full, on the words of its dictionary and of its layout, and the smallest
-- messages that tell wrong meanings of its sentence on kinds 9 to 11 apart. Assumes nothing.
--
-- A layout is given by its arrangement, a message by the tags and the values of its fields.
use Rattle.std.specs.Prelude.{◌≡◌, refl, ℕ, suc, ◌+◌, true, false, List, [], ◌∷◌, ◌++◌, map, length, replicate, Some, None, Result, Ok, Err}
use Prim.Native.String.{String}
use Rattle.ascii.specs.Notation.{is_between}
use Rattle.ascii.specs.Bytes.{ascii, non_empty}
use Rattle.counts.specs.Count.{count_of}
use Rattle.ascending.specs.Sort.{is_in, inserted, sorted}
use Rattle.ascending.specs.Search.{is_strictly_above, is_strictly_ascending, rank_from, rank_in}
use Rattle.refusals.specs.declared.refusal.Refusal.TheVariants.{UnknownForm, RuleBroken, BadField, SpaceShort}
use Rattle.line_forms.specs.declared.line.Line.{Line}
use Rattle.line_forms.specs.declared.line.Line.TheVariants as line
use Rattle.line_forms.specs.declared.line.Line.TheVariants.{Def, Value, BeginHeader, BeginTrailer, EndHeader, EndTrailer, Message, Group, End}
use Rattle.lines.specs.LineParts.{no_leading_zero, number_of, is_alphanumeric}
use Rattle.dictionary_order.specs.DictionaryOrder.{step_of}
use Rattle.records.specs.Records.{holds_byte, holds_part, letters_length, letters_text, holds_letters, holds_value, record_of, is_unused, outer_from, body_from, line_from, lines_from}
use Rattle.records.specs.LineLengths.{digit_count, length_of}
use Rattle.dictionary.specs.DictionaryWords.{is_of, name_of, names_of, place_of, records_of, index_of, dictionary_words}
use Rattle.dictionary.specs.DictionaryCheck as check
use Rattle.dictionary.specs.DictionaryCheck.{accepts, stands_at, stands_each, is_index, is_dictionary}
use Rattle.definitions.specs.DefinedFields.{values_first, fields_in}
use Rattle.layouts.specs.Limits.{gate_limits}
use Rattle.layouts.specs.Layout.{Layout, level_of_lem, no_groups, group_and, group_of_lem, groups_below, level_order, all_groups, joined}
use Rattle.layouts.specs.LayoutWords.{places_from, arranged_parts, arranged, stretch, stretches}
use Rattle.layouts.specs.LayoutCheck.{never_falls, is_run, is_ahead, member_places_hold, required_places_hold, group_places_hold, is_level, levels_hold, delimiters_hold, all_levels_hold, all_delimiters_hold, is_layout_of, is_layout}
use Rattle.events.specs.Events.{event_words, events_words}
use Rattle.field_table.specs.FieldTable.{is_bad_field, bad_from, table_check_of}
use Rattle.group_reading.specs.GroupSteps.{opening_at, member_leads, entry_begins, entry_stops, step_at}
use Rattle.group_reading.specs.GroupWalk.{walk_by, walk_group}
use Rattle.message_level.specs.MessageWalk.{turn_at, turns_from, missing_tags, missing_groups, message_events}
use Rattle.message_level.specs.MessageWords.{required_from, events_with}
use Rattle.validator.specs.MessageCall.{walked_of, events_in}
use Rattle.refusals.specs.declared.refusal.Refusal.{Refusal}

pub record Field : Type 0 where
  pub tag : ℕ
  pub value : String

infix 70 ◌is◌
abbrev pub ◌is◌ : ℕ → String → Field
tag is value = record { tag = tag; value = value }

-- the values one behind the other, and the table of where they stand
abbrev pub values_of : List Field → List ℕ
values_of [] = []
values_of (field ∷ rest) = ascii field.value ++ values_of rest

abbrev pub table_from : ℕ → List Field → List ℕ
table_from first [] = []
table_from first (field ∷ rest) = field.tag ∷ first ∷ (first + length (ascii field.value)) ∷ table_from (first + length (ascii field.value)) rest

-- the words of each event, where these tags are defined
abbrev pub walked : List ℕ → Layout → List Field → List (List ℕ)
unfolding event_words
walked defined layout fields = map event_words (events_with defined (arranged layout) (table_from 0 fields) (values_of fields))

-- document 01, "One list in full": the lines of its dictionary, its layout, its message
abbrev pub dictionary : List Line
dictionary =
    Def 35 14
    ∷ Def 448 14
    ∷ Def 447 12
    ∷ Value (record { len = 1; word0 = 1140850688; word1 = 0; word2 = 0; word3 = 0; word4 = 0; word5 = 0; word6 = 0; word7 = 0 })
    ∷ Def 453 3
    ∷ BeginHeader
    ∷ line.Field 35 true
    ∷ EndHeader
    ∷ BeginTrailer
    ∷ EndTrailer
    ∷ Message 1140850688 true
    ∷ Group 453 448 true
    ∷ line.Field 447 true
    ∷ End (Some 453) (Some 875901696)
    ∷ End None (Some 1140850688)
    ∷ []

abbrev pub parties : Layout
parties = level_of_lem (35 ∷ 453 ∷ []) (35 ∷ []) (group_and (group_of_lem 453 448 true (level_of_lem (447 ∷ 448 ∷ []) (447 ∷ []) no_groups)) no_groups)

abbrev pub message : List Field
message = 35 is "D" ∷ 453 is "2" ∷ 448 is "A" ∷ 447 is "D" ∷ 448 is "B" ∷ []

abbrev pub listed : List (List ℕ)
listed = (1 ∷ 453 ∷ 0 ∷ 0 ∷ 0 ∷ []) ∷ (5 ∷ 453 ∷ 0 ∷ 0 ∷ 2 ∷ []) ∷ (5 ∷ 453 ∷ 0 ∷ 1 ∷ 1 ∷ []) ∷ (8 ∷ 453 ∷ 0 ∷ 1 ∷ 2 ∷ []) ∷ []

-- the call on so many words of space, and what it leaves there
abbrev pub called : List ℕ → List ℕ → ℕ → Result ℕ Refusal × List ℕ
called words layout room =
    (walked_of words layout (table_from 0 message) (values_of message) (replicate room 7), events_in words layout (table_from 0 message) (values_of message) (replicate room 7))

pub dictionary-passes : is_dictionary (dictionary_words dictionary) ≡ true
unfolding is_in is_strictly_above is_strictly_ascending inserted sorted no_leading_zero number_of is_alphanumeric step_of is_between holds_byte holds_part letters_length letters_text holds_letters holds_value record_of is_unused outer_from body_from line_from digit_count length_of is_of name_of names_of place_of records_of index_of dictionary_words lines_from accepts check.count_of stands_at stands_each is_index is_dictionary non_empty
dictionary-passes = refl

pub layout-passes : is_layout gate_limits (arranged parties) ≡ true
unfolding is_in rank_from rank_in groups_below level_order all_groups joined places_from arranged_parts arranged stretch is_between is_strictly_above is_strictly_ascending stretches never_falls is_run is_ahead member_places_hold required_places_hold group_places_hold is_level levels_hold delimiters_hold all_levels_hold all_delimiters_hold is_layout_of is_layout non_empty
layout-passes = refl

pub record MessageCalls : Type 0 where
  pub list_in_full : called (dictionary_words dictionary) (arranged parties) 22 ≡ (Ok 20, joined listed ++ (7 ∷ 7 ∷ []))
  pub exact_space : called (dictionary_words dictionary) (arranged parties) 20 ≡ (Ok 20, joined listed)
  pub space_short : called (dictionary_words dictionary) (arranged parties) 19 ≡ (Err (SpaceShort 20), replicate 19 7)
  pub dictionary_first : called [] [] 19 ≡ (Err (UnknownForm 0), replicate 19 7)
  pub then_layout : called (dictionary_words dictionary) [] 19 ≡ (Err (RuleBroken 0 0), replicate 19 7)
  pub then_table : walked_of (dictionary_words dictionary) (arranged parties) (35 ∷ 2 ∷ 1 ∷ []) (ascii "D") [] ≡ Err (BadField 1)

pub empty-refused : (is_dictionary [] ≡ false) × (is_layout gate_limits [] ≡ false)
unfolding accepts stands_each check.count_of is_index is_dictionary is_layout_of is_layout non_empty
empty-refused = (refl, refl)

pub message-calls : MessageCalls
unfolding is_in rank_from rank_in groups_below level_order all_groups joined places_from arranged_parts arranged stretch walk_group walk_by opening_at member_leads entry_begins entry_stops step_at non_empty is_between event_words turn_at turns_from missing_tags missing_groups message_events required_from inserted sorted no_leading_zero number_of is_alphanumeric holds_byte holds_part letters_length letters_text holds_letters holds_value record_of is_unused outer_from body_from line_from is_of name_of names_of place_of records_of index_of dictionary_words lines_from values_first fields_in events_words is_bad_field bad_from table_check_of walked_of events_in
message-calls = record {
  list_in_full = rw (dictionary-passes, layout-passes) refl;
  exact_space = rw (dictionary-passes, layout-passes) refl;
  space_short = rw (dictionary-passes, layout-passes) refl;
  dictionary_first = rw empty-refused.0;
  then_layout = rw (dictionary-passes, empty-refused.1);
  then_table = rw (dictionary-passes, layout-passes);
}

-- ---- kinds 9 to 11

-- a top of these members and required tags, with the required group 9 of the delimiter 1
abbrev pub with_group : List ℕ → List ℕ → Layout
with_group members required = level_of_lem members required (group_and (group_of_lem 9 1 true (level_of_lem (1 ∷ 2 ∷ []) [] no_groups)) no_groups)

abbrev pub event : ℕ → ℕ → List ℕ
event kind tag = kind ∷ 0 ∷ 0 ∷ tag ∷ 0 ∷ []

pub record MessageCases : Type 0 where
  -- an undefined tag is skipped, also where it has no place, stands twice or is required
  pub undefined_skipped : walked (9 ∷ []) (with_group (3 ∷ 9 ∷ []) (3 ∷ [])) (4 is "v" ∷ 3 is "v" ∷ 3 is "v" ∷ 9 is "0" ∷ [])
      ≡ (1 ∷ 9 ∷ 0 ∷ 0 ∷ 0 ∷ []) ∷ (8 ∷ 9 ∷ 0 ∷ 1 ∷ 0 ∷ []) ∷ event 11 3 ∷ []
  -- so is an undefined count tag: its group is not walked
  pub undefined_count_tag : walked (1 ∷ []) (with_group (9 ∷ []) []) (9 is "1" ∷ 1 is "v" ∷ []) ≡ event 10 1 ∷ event 11 9 ∷ []
  -- twice stands before enter
  pub twice_before_enter : walked (9 ∷ []) (with_group (9 ∷ []) []) (9 is "0" ∷ 9 is "0" ∷ [])
      ≡ (1 ∷ 9 ∷ 0 ∷ 0 ∷ 0 ∷ []) ∷ (8 ∷ 9 ∷ 0 ∷ 1 ∷ 0 ∷ []) ∷ event 9 9 ∷ (1 ∷ 9 ∷ 0 ∷ 0 ∷ 0 ∷ []) ∷ (8 ∷ 9 ∷ 0 ∷ 1 ∷ 0 ∷ []) ∷ []
  -- and at each further field of the tag, before foreign
  pub twice_before_foreign : walked (4 ∷ []) (level_of_lem [] [] no_groups) (4 is "v" ∷ 4 is "v" ∷ 4 is "v" ∷ [])
      ≡ event 10 4 ∷ event 9 4 ∷ event 10 4 ∷ event 9 4 ∷ event 10 4 ∷ []
  -- a tag inside a group's run is not seen at the message level
  pub run_not_seen : walked (1 ∷ 2 ∷ 3 ∷ 9 ∷ []) (with_group (2 ∷ 3 ∷ 9 ∷ []) (2 ∷ 3 ∷ [])) (9 is "1" ∷ 1 is "v" ∷ 2 is "v" ∷ 3 is "v" ∷ [])
      ≡ (1 ∷ 9 ∷ 0 ∷ 0 ∷ 0 ∷ []) ∷ (5 ∷ 9 ∷ 0 ∷ 0 ∷ 2 ∷ []) ∷ (8 ∷ 9 ∷ 0 ∷ 1 ∷ 1 ∷ []) ∷ event 11 2 ∷ []
  -- missing tags in their order with their repeats, except 10, then missing groups
  pub missing_in_order : walked [] (with_group (9 ∷ []) (3 ∷ 10 ∷ 2 ∷ 3 ∷ [])) [] ≡ event 11 3 ∷ event 11 2 ∷ event 11 3 ∷ event 11 9 ∷ []
  -- a required group with count tag 10 is reported
  pub group_10_missing : walked [] (level_of_lem (10 ∷ []) (10 ∷ []) (group_and (group_of_lem 10 1 true (level_of_lem (1 ∷ []) [] no_groups)) no_groups)) [] ≡ event 11 10 ∷ []
  -- a group that is not required is not
  pub group_not_required : walked [] (level_of_lem (10 ∷ []) [] (group_and (group_of_lem 10 1 false (level_of_lem (1 ∷ []) [] no_groups)) no_groups)) [] ≡ []

pub message-cases : MessageCases
unfolding is_in rank_from rank_in groups_below level_order all_groups joined places_from arranged_parts arranged stretch walk_group walk_by opening_at member_leads entry_begins entry_stops step_at non_empty is_between event_words turn_at turns_from missing_tags missing_groups message_events required_from
message-cases = record {
  undefined_skipped = refl;
  undefined_count_tag = refl;
  twice_before_enter = refl;
  twice_before_foreign = refl;
  run_not_seen = refl;
  missing_in_order = refl;
  group_10_missing = refl;
  group_not_required = refl;
}
