-- Laws of `WalkCall.antt`: each answer by the tests in the order of the code. Assumes nothing.
use Rattle.std.specs.Prelude.{◌≡◌, refl, ℕ, ◌+◌, ◌*◌, ◌-◌, ◌≤◌, ◌<◌, List, [], ◌++◌, Option, Some, None, Result, Ok, Err}
use Rattle.std.proofs.Common.{sym, ap, ◌∙◌, arith}
use mathlib.Core.Bool.{true, false}
use lib.ListN.{length}
use borrow.Author.Tests.{le-leb, lt-leb}
use Rattle.refusals.specs.declared.refusal.Refusal.TheVariants.{RuleBroken, SpaceShort, NoSuchGroup}
use Rattle.layouts.specs.Limits.{gate_limits}
use Rattle.layouts.specs.LayoutCheck.{is_layout}
use Rattle.layouts.specs.LayoutCheckFacts.{Passed}
use Rattle.layouts.specs.LayoutWords.{group_count, level_members}
use Rattle.events.specs.Events.{events_words}
use Rattle.events.specs.EventSpaceLaws.{put_all_in-room, put_all_in-empty}
use Rattle.field_table.specs.FieldTable.{row_count, table_check_of}
use Rattle.group_reading.specs.GroupWalk.{WalkedGroup, walk_group}
use Rattle.group_reading.specs.GroupWalkLaws.Equations.{walk_group-outside}
use Rattle.group_reading.specs.GroupWalkLaws.EventBound.{walk_group-few_in_table}
use Rattle.walk.specs.declared.walk_call.Walked.{Walked}
use Rattle.walk_steps.specs.WalkWords.{among, number_found, group_of, input_of, top_members}
use Rattle.walk_steps.specs.WalkWordsLaws.{group_of_number, layout_of_rules}
use Rattle.group_walk.specs.WalkPromises.{Walks}
use Rattle.walk.specs.WalkCall.{top_walk, needed_for, space_answer, space_with, group_answer, group_space, table_answer, table_space, walked_of, events_in}
use Rattle.group_walk.specs.WalkPromises.{most_words}
use Rattle.refusals.specs.declared.refusal.Refusal.{Refusal}

-- ---- the refusals before a walk

module _ (words fields message : List ℕ) (position tag : ℕ) (space : List ℕ) where
  pub refused-layout : is_layout gate_limits words ≡ false → (Err (RuleBroken 0 0) ≡ walked_of words fields message position tag space) × (space ≡ events_in words fields message position tag space)
  unfolding walked_of events_in
  refused-layout wrong = rw wrong (refl, refl)

  module _ (right : is_layout gate_limits words ≡ true) where
    pub refused-table : (refusal : Refusal) → table_check_of fields (length message) ≡ Err refusal
        → (Err refusal ≡ walked_of words fields message position tag space) × (space ≡ events_in words fields message position tag space)
    unfolding walked_of events_in
    refused-table refusal bad = rw (right, bad) (refl, refl)

    pub table-accepted : (walked : Result Walked Refusal) (after : List ℕ) → table_check_of fields (length message) ≡ Ok tt
        → walked ≡ group_answer words fields message position tag space (group_of words 0 tag) → after ≡ group_space words fields message position tag space (group_of words 0 tag)
        → (walked ≡ walked_of words fields message position tag space) × (after ≡ events_in words fields message position tag space)
    unfolding walked_of events_in
    table-accepted walked after good answers left = rw (right, good) (answers, left)

    -- with the words and the message as the types hold them
    pub table-taken : (words' fields' message' : List ℕ) → words' ≡ words → fields' ≡ fields → message' ≡ message → table_check_of fields' (length message') ≡ Ok tt
        → (walked : Result Walked Refusal) (after : List ℕ)
        → walked ≡ group_answer words' fields' message' position tag space (group_of words' 0 tag) → after ≡ group_space words' fields' message' position tag space (group_of words' 0 tag)
        → (walked ≡ walked_of words fields message position tag space) × (after ≡ events_in words fields message position tag space)
    table-taken words' fields' message' is-words are-fields is-message good walked after answers left =
        table-accepted walked after (rw (are-fields, is-message) at good) (rw (is-words, are-fields, is-message) at answers) (rw (is-words, are-fields, is-message) at left)

  module _ (found : Option ℕ) (found_is : number_found 0 found ≡ group_of words 0 tag) where
    pub refused-group : found ≡ None
        → (Err (NoSuchGroup tag) ≡ group_answer words fields message position tag space (group_of words 0 tag)) × (space ≡ group_space words fields message position tag space (group_of words 0 tag))
    refused-group nowhere =
        let none-there : group_of words 0 tag ≡ None = sym found_is ∙ ap (number_found 0) nowhere in
        rw none-there (refl, refl)

    module _ (group : ℕ) (there : found ≡ Some group) where
      number_there : group_of words 0 tag ≡ Some group
      number_there =
          let same : 0 + group ≡ group = omega arith in
          sym found_is ∙ ap (number_found 0) there ∙ ap Some same

      pub group-valid : Passed gate_limits words → group < group_count words
      group-valid passed = group_of_number words passed 0 tag group (omega arith) number_there

      pub group-found : (walked : Result Walked Refusal) (after : List ℕ) → walked ≡ space_answer (top_walk words fields message group position) space
          → after ≡ space_with (top_walk words fields message group position) space
          → (walked ≡ group_answer words fields message position tag space (group_of words 0 tag)) × (after ≡ group_space words fields message position tag space (group_of words 0 tag))
      group-found walked after answers left = rw number_there (answers, left)

-- ---- the walk

module _ (words fields message : List ℕ) (passed : Passed gate_limits words) (group position : ℕ) (valid : group < group_count words) where
  -- no walk needs more
  pub needs_few : needed_for (top_walk words fields message group position) ≤ most_words (row_count fields) position
  needs_few = side (lib.Dec.ltb position (row_count fields)) refl
    where
      side : (inside : mathlib.Core.Bool.Bool) → lib.Dec.ltb position (row_count fields) ≡ inside → needed_for (top_walk words fields message group position) ≤ most_words (row_count fields) position
      side true inside =
          let few =
          walk_group-few_in_table (input_of words fields message) (layout_of_rules words passed) group 0 (top_members words) position valid (borrow.Author.Tests.ltb-true _ _ inside) in
          omega arith
      side false outside =
          let walk = walk_group-outside (input_of words fields message) (layout_of_rules words passed) group 0 (top_members words) position (borrow.Author.Tests.ltb-false _ _ outside) in
          omega (arith, ap (λ (walk : WalkedGroup). length walk.events) walk)

  module _ (top : List ℕ) (is-top : top ≡ level_members words 0) where
    same-walk : walk_group (input_of words fields message) group 0 (among top) position ≡ top_walk words fields message group position
    same-walk = ap (λ (around : List ℕ). walk_group (input_of words fields message) group 0 (among around) position) is-top

    module _ (space after : List ℕ) (past next : ℕ) (walks : Walks words fields message top group position 0 space after 0 past next) where
      past_is : past ≡ needed_for (top_walk words fields message group position)
      past_is = walks.wrote.next_is ∙ omega (arith, ap (λ (walk : WalkedGroup). length walk.events) same-walk)

      next_is : next ≡ (top_walk words fields message group position).next
      next_is = walks.next_is ∙ ap (λ (walk : WalkedGroup). walk.next) same-walk

      after_is : needed_for (top_walk words fields message group position) ≤ length space
          → after ≡ events_words (top_walk words fields message group position).events ++ lib.ListN.drop (needed_for (top_walk words fields message group position)) space
      after_is room =
          let whole : 0 + 5 * length (top_walk words fields message group position).events ≡ needed_for (top_walk words fields message group position) = omega arith in
          (rw same-walk at walks.wrote.after_is)
          ∙ put_all_in-room space 0 (top_walk words fields message group position).events (omega arith)
          ∙ rw whole

      pub walk_answers : needed_for (top_walk words fields message group position) ≤ length space
          → (Ok (record { position = next; words = past }) ≡ space_answer (top_walk words fields message group position) space) × (after ≡ space_with (top_walk words fields message group position) space)
      walk_answers room =
          rw (le-leb (needed_for (top_walk words fields message group position)) (length space) room)
          (rw (past_is, next_is), after_is room)

    -- the counting pass was lent the empty front part of the event space, and left `front` there
    module _ (space front : List ℕ) (counted other : ℕ) (counts : Walks words fields message top group position 0 [] front 0 counted other) where
      front-empty : front ≡ []
      front-empty = (rw same-walk at counts.wrote.after_is) ∙ put_all_in-empty 0 (top_walk words fields message group position).events

      counted_is : counted ≡ needed_for (top_walk words fields message group position)
      counted_is = past_is [] front counted other counts

      pub space_short : length (front ++ space) < counted
          → (Err (SpaceShort counted) ≡ space_answer (top_walk words fields message group position) space) × (front ++ space ≡ space_with (top_walk words fields message group position) space)
      space_short short =
          let short' : length space < needed_for (top_walk words fields message group position) = rw (front-empty, counted_is) at short in
          rw (lt-leb (needed_for (top_walk words fields message group position)) (length space) short')
          (ap (λ (words : ℕ). Err (SpaceShort words)) counted_is, ap (λ (part : List ℕ). part ++ space) front-empty)

      pub space-holds : counted ≤ length (front ++ space) → (after : List ℕ) (past next : ℕ) → Walks words fields message top group position 0 (front ++ space) after 0 past next
          → (Ok (record { position = next; words = past }) ≡ space_answer (top_walk words fields message group position) space) × (after ≡ space_with (top_walk words fields message group position) space)
      space-holds holds after past next walks =
          let room : needed_for (top_walk words fields message group position) ≤ length space = rw (front-empty, counted_is) at holds in
          walk_answers space after past next (rw front-empty at walks) room
