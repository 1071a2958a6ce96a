-- What is said of the stretches of a message walk's events from an enter at depth 0 to its leave, and what the call `walk_message` tells of them. The theorem
-- is in `MessageWalkTheorem.antt`. Assumes nothing.
--
--   is_enter event, is_leave event     an enter, a leave at depth 0
--   NoneOf test events                 no event of the list passes the test
--   FromEnterToLeave stretch         the stretch begins with an enter at depth 0 and ends with the first leave at depth 0 after it
--   WalkAt input level index group   a field of the message level at `index` is the count field of this top group
--   OwnWalk input level stretch      the stretch is the walk of a top group
--   StretchFinds .. stretch          and that walk finds the readings of the group
--   MessageCallFinds ..              what the call tells
use Rattle.std.specs.Prelude.{◌≡◌, ℕ, ◌*◌, ◌<◌, Bool, true, false, ◌&&◌, List, [], ◌∷◌, ◌++◌, length, take, drop, Some, None, Ok}
use Rattle.ascii.specs.Notation.{◌≡ᵇ◌}
use Rattle.definitions.specs.DefinedTags.{defined_tags}
use Rattle.events.specs.declared.event.Event.{Event}
use Rattle.events.specs.Events.{kind_number, events_words}
use Rattle.field_table.specs.WalkInput.{Input}
use Rattle.group_reading.specs.GroupWalk.{walk_group}
use Rattle.group_reading.specs.ReadingTheorem.{FindsReadings}
use Rattle.walk_steps.specs.WalkWords.{input_of, top_members}
use Rattle.message_level.specs.MessageWalk.{MessageLevel}
use Rattle.message_level.specs.MessageWords.{level_of}
use Rattle.validator.specs.MessageCall.{walked_of, events_in}

abbrev pub is_enter : Event → Bool
is_enter event = kind_number event.kind ≡ᵇ 1 && event.depth ≡ᵇ 0

abbrev pub is_leave : Event → Bool
is_leave event = kind_number event.kind ≡ᵇ 8 && event.depth ≡ᵇ 0

abbrev pub NoneOf : (Event → Bool) → List Event → Type 0
NoneOf test [] = Unit {0}
NoneOf test (event ∷ rest) = (test event ≡ false) × NoneOf test rest

pub record FromEnterToLeave (stretch : List Event) : Type 0 where
  pub first : Event
  pub middle : List Event
  pub last : Event
  pub enters : is_enter first ≡ true
  pub none_leaves : NoneOf is_leave middle
  pub leaves : is_leave last ≡ true
  pub whole : stretch ≡ first ∷ (middle ++ (last ∷ []))

module _ (input : Input) (level : MessageLevel input.layout.Group) where
  open input use {layout, fields}
  open layout use {Group}
  open fields use {field_count, tag_at}
  open level use {is_defined, top_group, allows}

  pub record WalkAt (index : ℕ) (group : Group) : Type 0 where
    pub inside : index < field_count
    pub defined : is_defined (tag_at index) ≡ true
    pub counts : top_group (tag_at index) ≡ Some group

  pub record OwnWalk (stretch : List Event) : Type 0 where
    pub index : ℕ
    pub group : Group
    pub walk_at : WalkAt index group
    pub is_walk : stretch ≡ (walk_group input group 0 allows index).events

module _ (dictionary words fields message space : List ℕ) where
  pub record StretchFinds (stretch : List Event) : Type 0 where
    -- the walk of a top group from its count field on
    pub own : OwnWalk (input_of words fields message) (level_of (defined_tags dictionary) words) stretch
    -- demand 3: it finds exactly the readings of the group
    pub finds : FindsReadings (input_of words fields message) own.group (top_members words) own.index

  pub record MessageCallFinds : Type 0 where
    -- the events written
    pub events : List Event
    pub answer : walked_of dictionary words fields message space ≡ Ok (5 * length events)
    pub written : take (5 * length events) (events_in dictionary words fields message space) ≡ events_words events
    -- the words behind them are as they were
    pub kept : drop (5 * length events) (events_in dictionary words fields message space) ≡ drop (5 * length events) space
    -- every stretch from an enter at depth 0 to its leave
    pub stretches : (before stretch after : List Event) → events ≡ before ++ (stretch ++ after) → FromEnterToLeave stretch → StretchFinds stretch
