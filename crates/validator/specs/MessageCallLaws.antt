-- Laws of `MessageCall.antt`: each answer by the tests in the order of the code, and how many words a walk can need. Assumes nothing.
use Rattle.std.specs.Prelude.{◌≡◌, refl, ℕ, ◌+◌, ◌*◌, ◌≤◌, ◌<◌, Bool, true, false, length, drop, Result, Ok, Err}
use Rattle.std.proofs.Common.{sym, ap, ◌∙◌, arith, le-leb}
use mathlib.Core.List.{List, [], ◌++◌}
use Rattle.std.proofs.Math.ListN.{length-append}
use Rattle.std.proofs.lemmas.Bool.{lt-leb}
use Rattle.refusals.specs.declared.refusal.Refusal.TheVariants.{UnknownForm, RuleBroken, SpaceShort}
use Rattle.dictionary.specs.DictionaryCheck.{is_dictionary}
use Rattle.ascending.specs.Search.{StrictlyAscending}
use Rattle.definitions.specs.DefinedTags.{defined_tags}
use Rattle.layouts.specs.Limits.{gate_limits}
use Rattle.layouts.specs.LayoutWords.{group_count, level_required, level_count_tags}
use Rattle.layouts.specs.LayoutCheck.{is_layout}
use Rattle.layouts.specs.LayoutCheckFacts.{Passed, is_layout-passed}
use Rattle.events.specs.declared.event.Event.{Event}
use Rattle.events.specs.Events.{events_words}
use Rattle.events.specs.EventSpaceLaws.{Wrote, wrote_then, put_all_in-room, put_all_in-empty}
use Rattle.field_table.specs.FieldTable.{row_count, table_check_of}
use Rattle.field_table.specs.FieldTableLaws.{table_check_of-accepted}
use Rattle.walk_steps.specs.WalkWords.{input_of}
use Rattle.walk_steps.specs.WalkWordsLaws.{group_of_number, layout_of_rules}
use Rattle.message_level.specs.MessageWalk.{message_turns, missing_tags, missing_groups, message_events}
use Rattle.message_level.specs.MessageWalkLaws.{missing_tags-few, missing_groups-few, turns_few}
use Rattle.message_level.specs.MessageWords.{required_from, level_of}
use Rattle.message_level.specs.MissingLaws.{required_from-few}
use Rattle.message_level.specs.SeenTags.{SeenTags}
use Rattle.message_walk.specs.MessagePromises.{Lent, Walked}
use Rattle.validator.specs.CallPromises.{Accepted, most_words}
use Rattle.validator.specs.MessageCall.{walk_of, needed_for, space_answer, space_with, table_answer, table_space, walked_of, events_in}
use Rattle.refusals.specs.declared.refusal.Refusal.{Refusal}

-- ---- the refusals before a walk

module _ (dictionary words fields message space : List ℕ) where
  pub refused-dictionary : is_dictionary dictionary ≡ false
      → (Err (UnknownForm 0) ≡ walked_of dictionary words fields message space) × (space ≡ events_in dictionary words fields message space)
  unfolding walked_of events_in
  refused-dictionary wrong = rw wrong (refl, refl)

  module _ (defines : is_dictionary dictionary ≡ true) where
    pub refused-layout : is_layout gate_limits words ≡ false
        → (Err (RuleBroken 0 0) ≡ walked_of dictionary words fields message space) × (space ≡ events_in dictionary words fields message space)
    unfolding walked_of events_in
    refused-layout wrong = rw (defines, wrong) (refl, refl)

    module _ (right : is_layout gate_limits words ≡ true) where
      pub refused-table : (refusal : Refusal) → table_check_of fields (length message) ≡ Err refusal
          → (Err refusal ≡ walked_of dictionary words fields message space) × (space ≡ events_in dictionary words fields message space)
      unfolding walked_of events_in
      refused-table refusal bad = rw (defines, right, bad) (refl, refl)

      pub table-accepted : (walked : Result ℕ Refusal) (after : List ℕ) → table_check_of fields (length message) ≡ Ok tt
          → walked ≡ space_answer (walk_of dictionary words fields message) space → after ≡ space_with (walk_of dictionary words fields message) space
          → (walked ≡ walked_of dictionary words fields message space) × (after ≡ events_in dictionary words fields message space)
      unfolding walked_of events_in
      table-accepted walked after good answers left = rw (defines, right, good) (answers, left)

      -- with the words and the message as the types hold them
      pub table-taken : (words' fields' message' : List ℕ) → words' ≡ words → fields' ≡ fields → message' ≡ message → table_check_of fields' (length message') ≡ Ok tt
          → (walked : Result ℕ Refusal) (after : List ℕ)
          → walked ≡ space_answer (walk_of dictionary words' fields' message') space → after ≡ space_with (walk_of dictionary words' fields' message') space
          → (walked ≡ walked_of dictionary words fields message space) × (after ≡ events_in dictionary words fields message space)
      table-taken words' fields' message' is-words are-fields is-message good walked after answers left =
          table-accepted walked after (rw (are-fields, is-message) at good) (rw (is-words, are-fields, is-message) at answers) (rw (is-words, are-fields, is-message) at left)

-- ---- the whole walk

-- what the types hold of the lent words
pub accepted_of : {dictionary words fields message : List ℕ} → is_dictionary dictionary ≡ true → is_layout gate_limits words ≡ true → group_count words < 4294967296
    → table_check_of fields (length message) ≡ Ok tt → Accepted dictionary words fields message
accepted_of {dictionary} {words} {fields} {message} defines right few_groups good = record {
  defines = defines;
  passed = is_layout-passed gate_limits words right;
  few_groups_lem = few_groups;
  table = (table_check_of-accepted fields (length message)).0 good;
}

module _ (dictionary words fields message : List ℕ) (accepted : Accepted dictionary words fields message) where
  pub lent-with : (defined : List ℕ) → defined ≡ defined_tags dictionary → StrictlyAscending defined → length defined ≤ 10922 → Lent defined words fields message
  lent-with defined are-defined ascends few = record {
    ascends = ascends;
    few_tags_lem = few;
    passed = accepted.passed;
    few_groups_lem = accepted.few_groups_lem;
    table = accepted.table;
  }

  module _ (defined seen before between : List ℕ) (are-defined : defined ≡ defined_tags dictionary) (at : ℕ)
      (walked : Walked defined words fields message seen before between at) where
    pub walked-few : at ≤ 102400
    walked-few = omega (arith, walked.few, accepted.table.few)

    pub walk_whole : (after : List ℕ) (past : ℕ)
        → ((tags : List ℕ) → SeenTags defined seen tags
        → Wrote between after at past (missing_tags tags (level_required words 0) ++ missing_groups tags (required_from words 0 (length (level_count_tags words 0)))))
        → Wrote before after 0 past (walk_of dictionary words fields message)
    unfolding message_events
    walk_whole after past missing = rw (← are-defined) (wrote_then walked.wrote (missing _ walked.kept))

  -- no walk needs more
  pub needs_few : needed_for (walk_of dictionary words fields message) ≤ most_words words (row_count fields)
  unfolding message_events
  needs_few =
      let turns =
      turns_few (input_of words fields message) (level_of (defined_tags dictionary) words) (layout_of_rules words accepted.passed)
      (λ tag group there. group_of_number words accepted.passed 0 tag group (omega arith) there) (row_count fields) [] 0 in
      let seen = (message_turns (input_of words fields message) (level_of (defined_tags dictionary) words)).seen in
      let tags = missing_tags-few seen (level_required words 0) in
      let groups = missing_groups-few seen (required_from words 0 (length (level_count_tags words 0))) in
      let few = required_from-few words 0 (length (level_count_tags words 0)) in
      simp length-append (omega (arith, turns, tags, groups, few))

-- ---- the space

module _ (events : List Event) (space : List ℕ) where
  pub walk_answers : (after : List ℕ) (past : ℕ) → Wrote space after 0 past events → needed_for events ≤ length space
      → (Ok past ≡ space_answer events space) × (after ≡ space_with events space)
  walk_answers after past wrote room =
      let whole : 0 + 5 * length events ≡ needed_for events = omega arith in
      rw (le-leb (needed_for events) (length space) room)
      (ap Ok (wrote.next_is ∙ whole), wrote.after_is ∙ put_all_in-room space 0 events (omega arith) ∙ rw whole)

  -- the counting pass was lent the empty front part of the event space, and left `front` there
  module _ (front : List ℕ) (counted : ℕ) (counts : Wrote [] front 0 counted events) where
    front-empty : front ≡ []
    front-empty = counts.after_is ∙ put_all_in-empty 0 events

    counted_is : counted ≡ needed_for events
    counted_is = counts.next_is ∙ omega arith

    pub space_short : length (front ++ space) < counted → (Err (SpaceShort counted) ≡ space_answer events space) × (front ++ space ≡ space_with events space)
    space_short short =
        let short' : length space < needed_for events = rw (front-empty, counted_is) at short in
        rw (lt-leb (needed_for events) (length space) short')
        (ap (λ (words : ℕ). Err (SpaceShort words)) counted_is, ap (λ (part : List ℕ). part ++ space) front-empty)

    pub space-holds : counted ≤ length (front ++ space) → (after : List ℕ) (past : ℕ) → Wrote (front ++ space) after 0 past events
        → (Ok past ≡ space_answer events space) × (after ≡ space_with events space)
    space-holds holds after past wrote =
        let room : needed_for events ≤ length space = rw (front-empty, counted_is) at holds in
        walk_answers after past (rw front-empty at wrote) room
