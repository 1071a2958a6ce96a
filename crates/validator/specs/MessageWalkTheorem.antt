-- In the events of a message walk every stretch from an enter at depth 0 to its leave is, event by event, the walk of a top group from its count field on, a
-- defined field of the message level (`message-walk_stretches`). So what demand 3 says of the walk of a top group (`walk_finds_readings` of group_reading)
-- holds of each such stretch that `walk_message` writes (`message-call_finds_readings`): it has no fault event exactly where the fields from there on are a
-- reading of the group. The call is meant by its contract: it answers `walked_of` and leaves `events_in` (`MessageCall.antt`). Assumes nothing.
--
-- Its words (`FromEnterToLeave`, `OwnWalk`, `MessageCallFinds`) are in `MessageStretches.antt`.
-- The parts: `GroupBounds` (the walk of a top group has one enter and one leave at depth 0), `Parts` (the events of a message walk one behind the other).
use Rattle.std.specs.Prelude.{◌≡◌, refl, ℕ, ◌*◌, ◌≤◌, ◌<◌, Bool, true, false, ◌&&◌, ◌||◌, List, [], ◌∷◌, ◌++◌, eqb, length, take, drop, Ok}
use Rattle.std.proofs.Common.{sym, ap, ◌∙◌, true≢false, append_assoc, arith, take_at, drop_at}
use borrow.Author.Tests.{le-leb}
use Rattle.dictionary.specs.DictionaryCheck.{is_dictionary}
use Rattle.definitions.specs.DefinedTags.{defined_tags}
use Rattle.layouts.specs.Limits.{gate_limits}
use Rattle.layouts.specs.LayoutCheck.{is_layout}
use Rattle.layouts.specs.LayoutCheckFacts.{Passed, is_layout-passed}
use Rattle.events.specs.declared.event.Event.{Event}
use Rattle.events.specs.Events.{kind_number, events_words}
use Rattle.events.specs.EventSpaceLaws.{events_words-length}
use Rattle.field_table.specs.FieldTable.{table_check_of}
use Rattle.field_table.specs.WalkInput.{Input}
use Rattle.group_reading.specs.GroupWalk.{walk_group}
use Rattle.group_reading.specs.ReadingTheorem.{FindsReadings, walk_finds_readings}
use Rattle.walk_steps.specs.WalkWords.{input_of, top_members}
use Rattle.walk_steps.specs.WalkWordsLaws.{group_of_number, layout_of_rules}
use Rattle.message_level.specs.MessageWalk.{MessageLevel, message_events}
use Rattle.message_level.specs.MessageWords.{level_of}
use Rattle.validator.specs.MessageCall.{walk_of, needed_for, walked_of, events_in}
use Rattle.validator.specs.MessageStretches.{is_enter, is_leave, NoneOf, FromEnterToLeave, OwnWalk, StretchFinds, MessageCallFinds}
use Rattle.validator.specs.MessageWalkTheorem.GroupBounds.{is_bound, Bracketed, walk_group-bracketed}
use Rattle.validator.specs.MessageWalkTheorem.Parts.{BeginsWalk, message-parts, walk_begins}
pub mod GroupBounds
pub mod Parts

-- ---- the first leave is one place

bound-leave : (event : Event) → is_bound event ≡ false → is_leave event ≡ false
bound-leave event clear = go (eqb (kind_number event.kind) 1) (eqb (kind_number event.kind) 8) (eqb event.depth 0) clear
  where
    go : (one eight top : Bool) → ((one || eight) && top) ≡ false → (eight && top) ≡ false
    go one false top clear = refl
    go true true top clear = clear
    go false true top clear = clear

leave_none : (events : List Event) → NoneOf is_bound events → NoneOf is_leave events
leave_none [] clear = tt
leave_none (event ∷ rest) clear = (bound-leave event clear.0, leave_none rest clear.1)

module _ (last other : Event) (leaves : is_leave last ≡ true) (leaves-too : is_leave other ≡ true) (rest after : List Event) where
  first-leave : (events others : List Event) → NoneOf is_leave events → NoneOf is_leave others → events ++ (last ∷ rest) ≡ others ++ (other ∷ after)
      → events ++ (last ∷ []) ≡ others ++ (other ∷ [])
  first-leave [] [] clear clear-too same = let is_last : last ≡ other = cc in ap (λ (event : Event). event ∷ []) is_last
  first-leave [] (event ∷ others) clear clear-too same =
      let is_last : last ≡ event = cc in
      absurd (true≢false (sym leaves ∙ ap is_leave is_last ∙ clear-too.0))
  first-leave (event ∷ events) [] clear clear-too same =
      let is_last : other ≡ event = cc in
      absurd (true≢false (sym leaves-too ∙ ap is_leave is_last ∙ clear.0))
  first-leave (event ∷ events) (one ∷ others) clear clear-too same =
      let is_one : event ≡ one = cc in
      let behind : events ++ (last ∷ rest) ≡ others ++ (other ∷ after) = cc in
      let both = first-leave events others clear.1 clear-too.1 behind in
      rw (is_one, both)

-- ---- every stretch is the walk of a group

module _ (input : Input) (level : MessageLevel input.layout.Group) where
  module _ (stretch after : List Event) (bounds : FromEnterToLeave stretch) where
    stretch-and : stretch ++ after ≡ bounds.first ∷ (bounds.middle ++ (bounds.last ∷ after))
    stretch-and =
        ap (λ (list : List Event). list ++ after) bounds.whole
        ∙ ap (λ (list : List Event). bounds.first ∷ list) (append_assoc bounds.middle (bounds.last ∷ []) after)

    -- a walk that begins where the stretch begins ends where it ends
    same-walk : (events rest : List Event) → Bracketed events → bounds.first ∷ (bounds.middle ++ (bounds.last ∷ after)) ≡ events ++ rest → stretch ≡ events
    same-walk events rest walk begins =
        let events-and : events ++ rest ≡ walk.first ∷ (walk.closed.middle ++ (walk.closed.last ∷ rest)) =
        rw (walk.whole, walk.closed.whole) (ap (λ (list : List Event). walk.first ∷ list) (append_assoc walk.closed.middle (walk.closed.last ∷ []) rest)) in
        let both : bounds.first ∷ (bounds.middle ++ (bounds.last ∷ after)) ≡ walk.first ∷ (walk.closed.middle ++ (walk.closed.last ∷ rest)) = begins ∙ events-and in
        let same_first : bounds.first ≡ walk.first = cc in
        let same-tail : bounds.middle ++ (bounds.last ∷ after) ≡ walk.closed.middle ++ (walk.closed.last ∷ rest) = cc in
        let same_rest =
        first-leave bounds.last walk.closed.last bounds.leaves walk.closed.leaves after rest bounds.middle walk.closed.middle bounds.none_leaves
        (leave_none walk.closed.middle walk.closed.none_bounds) same-tail in
        bounds.whole
        ∙ ap (λ (event : Event). event ∷ (bounds.middle ++ (bounds.last ∷ []))) same_first
        ∙ ap (λ (list : List Event). walk.first ∷ list) (same_rest ∙ sym walk.closed.whole)
        ∙ sym walk.whole

    own-walk : BeginsWalk input level (bounds.first ∷ (bounds.middle ++ (bounds.last ∷ after))) → OwnWalk input level stretch
    own-walk begins = record {
      index = begins.index;
      group = begins.group;
      walk_at = begins.walk_at;
      is_walk =
          same-walk (walk_group input begins.group 0 level.allows begins.index).events begins.rest
          (walk_group-bracketed input begins.group level.allows begins.index begins.walk_at.inside) begins.whole;
    }

  pub message-walk_stretches : (before stretch after : List Event) → message_events input level ≡ before ++ (stretch ++ after)
      → FromEnterToLeave stretch
      → OwnWalk input level stretch
  message-walk_stretches before stretch after stands bounds =
      own-walk stretch after bounds
      (walk_begins input level bounds.first (bounds.middle ++ (bounds.last ∷ after)) bounds.enters (message_events input level) before (message-parts input level)
      (stands ∙ ap (λ (list : List Event). before ++ list) (stretch-and stretch after bounds)))

-- ---- what the call tells

module _ (dictionary words fields message space : List ℕ) where
  abbrev walked : List Event
  walked = walk_of dictionary words fields message

  module _ (defines : is_dictionary dictionary ≡ true) (right : is_layout gate_limits words ≡ true) (table : table_check_of fields (length message) ≡ Ok tt)
      (room : needed_for (walk_of dictionary words fields message) ≤ length space) where
    left : events_in dictionary words fields message space ≡ events_words walked ++ drop (needed_for walked) space
    unfolding events_in
    left = rw (defines, right, table, le-leb (needed_for walked) (length space) room)

    answered : walked_of dictionary words fields message space ≡ Ok (needed_for walked)
    unfolding walked_of
    answered = rw (defines, right, table, le-leb (needed_for walked) (length space) room)

    stretch-finds : (stretch : List Event) → OwnWalk (input_of words fields message) (level_of (defined_tags dictionary) words) stretch
        → StretchFinds dictionary words fields message space stretch
    stretch-finds stretch own =
        let passed : Passed gate_limits words = is_layout-passed gate_limits words right in
        record {
          own = own;
          finds =
              walk_finds_readings (input_of words fields message) (layout_of_rules words passed) own.group (top_members words) own.index
              (group_of_number words passed 0 _ own.group (omega arith) own.walk_at.counts) own.walk_at.inside;
        }

    pub message-call_finds_readings : MessageCallFinds dictionary words fields message space
    message-call_finds_readings = record {
      events = walked;
      answer = answered;
      written =
          ap (take (needed_for walked)) left ∙ take_at (events_words walked) _ (needed_for walked) (events_words-length walked);
      kept =
          ap (drop (needed_for walked)) left ∙ drop_at (events_words walked) _ (needed_for walked) (events_words-length walked);
      stretches = λ before stretch after stands bounds.
          stretch-finds stretch (message-walk_stretches (input_of words fields message) (level_of (defined_tags dictionary) words) before stretch after stands bounds);
    }
