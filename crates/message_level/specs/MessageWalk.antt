-- The walk of a message: the loop of `Validator::validate` (validator.rs) over the fields of the message level, with a visitor that records events, and what
-- it reports missing. Document 01, 'The events of a walk': "They come from the message walk, which follows the loop of `Validator::validate`: undefined
-- tags are skipped; twice stands before enter; then missing tags except 10, then missing groups." Assumes nothing.
--
--   MessageLevel                   what the loop asks of the dictionary and of the layout's top
--   message_event kind              "Kinds 9 to 11 have group and depth 0."
--   turn_at seen index              one turn of the loop: the events of the field at `index` or of the group that begins there, the tags seen afterwards,
--                                  and the position of the next turn; the tags inside a group's run are not seen at the message level
--   turns_from fuel seen index      the turns from `index` on
--   missing_tags, missing_groups     what is required and was not seen
--   message_events                  all events, in order
--
-- A turn passes at least one field, so that as many turns as there are fields are enough (`MessageWalkLaws.antt`).
use Rattle.std.specs.Prelude.{ℕ, zero, suc, Bool, not, ◌&&◌, List, [], ◌∷◌, ◌++◌, if◌then◌else◌, Option, Some, None}
use Rattle.ascii.specs.Notation.{◌≡ᵇ◌, ◌<ᵇ◌}
use Rattle.events.specs.declared.event.Kind.{Kind}
use Rattle.events.specs.declared.event.Kind.TheVariants.{Twice, Foreign, Missing}
use Rattle.events.specs.declared.event.Event.{Event}
use Rattle.ascii.specs.Membership.{◌∈ᵇ◌}
use Rattle.ascii.specs.Membership.{insert_if}
use Rattle.field_table.specs.WalkInput.{Input}
use Rattle.group_reading.specs.GroupWalk.{WalkedGroup, walk_group}

pub record MessageLevel (Group : Type 0) : Type 0 where
  -- the dictionary defines the tag: `tags.field(tag)`
  pub is_defined : ℕ → Bool
  -- the top group whose count tag it is: `level.group(tag)`
  pub top_group : ℕ → Option Group
  -- the tag is a member of the top: `level.allows(tag)`
  pub allows : ℕ → Bool
  -- `level.required`: the required tags of the top, in their order with their repeats
  pub required : List ℕ
  -- the count tags of the groups of `level.groups` that are required, ascending
  pub required_groups : List ℕ

abbrev pub message_event : Kind → Event
message_event kind = record { count_tag = 0; depth = 0; kind = kind }

-- `DuplicateTag`
abbrev pub twice_if : Bool → ℕ → List Event
twice_if repeated tag = if repeated then message_event (Twice tag) ∷ [] else []

-- `FieldNotAllowedForMessage`
abbrev pub foreign_unless : Bool → ℕ → List Event
foreign_unless allowed tag = if allowed then [] else message_event (Foreign tag) ∷ []

-- `MissingRequiredField`, `MissingRequiredGroup`
abbrev pub missing_if : Bool → ℕ → List Event
missing_if absent tag = if absent then message_event (Missing tag) ∷ [] else []

-- ---- the loop

-- what a turn gives: its events, the tags seen at the message level so far, and where the next turn is
pub record Turn : Type 0 where
  pub events : List Event
  pub seen : List ℕ
  pub next : ℕ

-- what the turns give together
pub record Turns : Type 0 where
  pub events : List Event
  pub seen : List ℕ

-- "twice stands before enter"
abbrev pub defined_turn : List ℕ → ℕ → WalkedGroup → Turn
defined_turn seen tag place = record { events = twice_if (tag ∈ᵇ seen) tag ++ place.events; seen = insert_if (tag ∈ᵇ seen) tag seen; next = place.next }

abbrev pub turn_and : Turn → (List ℕ → ℕ → Turns) → Turns
turn_and turn rest = record { events = turn.events ++ (rest turn.seen turn.next).events; seen = (rest turn.seen turn.next).seen }

module _ (input : Input) (level : MessageLevel input.layout.Group) where
  open input use {layout, fields}
  open layout use {Group}
  open fields use {field_count, tag_at}
  open level use {is_defined, top_group, allows, required, required_groups}

  -- the group that begins at `index` is walked; another field must be a member of the top
  abbrev pub place_at : Option Group → ℕ → WalkedGroup
  place_at (Some group) index = walk_group input group 0 allows index
  place_at None index = record { events = foreign_unless (allows (tag_at index)) (tag_at index); next = suc index }

  -- "undefined tags are skipped"
  unfoldable pub turn_at : List ℕ → ℕ → Turn
  turn_at seen index =
      if is_defined (tag_at index)
      then defined_turn seen (tag_at index) (place_at (top_group (tag_at index)) index)
      else record { events = []; seen = seen; next = suc index }

  unfoldable pub turns_from : ℕ → List ℕ → ℕ → Turns
  turns_from zero seen index = record { events = []; seen = seen }
  turns_from (suc fuel) seen index =
      if index <ᵇ field_count
      then turn_and (turn_at seen index) (λ seen' next. turns_from fuel seen' next)
      else record { events = []; seen = seen }

  abbrev pub message_turns : Turns
  message_turns = turns_from field_count [] 0

-- ---- what is missing

-- "missing tags except 10": `if *tag != 10 && !seen.contains(tag)`
unfoldable pub missing_tags : List ℕ → List ℕ → List Event
missing_tags seen [] = []
missing_tags seen (tag ∷ rest) = missing_if (not (tag ≡ᵇ 10) && not (tag ∈ᵇ seen)) tag ++ missing_tags seen rest

-- "then missing groups": `if group.required && !seen.contains(&group.count_tag)`
unfoldable pub missing_groups : List ℕ → List ℕ → List Event
missing_groups seen [] = []
missing_groups seen (tag ∷ rest) = missing_if (not (tag ∈ᵇ seen)) tag ++ missing_groups seen rest

-- ---- the whole

module _ (input : Input) (level : MessageLevel input.layout.Group) where
  abbrev pub missing_events : List ℕ → List Event
  missing_events seen = missing_tags seen level.required ++ missing_groups seen level.required_groups

  abbrev pub events_of : Turns → List Event
  events_of turns = turns.events ++ missing_events turns.seen

  unfoldable pub message_events : List Event
  message_events = events_of (message_turns input level)
