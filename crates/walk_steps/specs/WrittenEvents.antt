-- The events that a walk writes at one place, for a group of which the count tag is at hand: at its start, at a member met again, at its end. That they
-- are those of `GroupWalk.antt` of group_reading is in the laws. Assumes nothing.
--
--   tag_event tag depth kind                        an event of the group with this count tag
--   begun_by tag depth index declared               enter, and badcount where the field at `index` declares nothing
--   repeat_by tag depth member fresh                repeat, where the member is not fresh in its entry
--   left_by tag depth declared unparseable entries  miscount where it is due, and leave
use Rattle.std.specs.Prelude.{ℕ, Bool, false, not, List, [], ◌∷◌, if◌then◌else◌, Option, Some, None}
use Rattle.ascii.specs.Notation.{◌≡ᵇ◌}
use Rattle.events.specs.declared.event.Kind.{Kind}
use Rattle.events.specs.declared.event.Kind.TheVariants.{Enter, BadCount, Repeat, Miscount, Leave}
use Rattle.events.specs.declared.event.Event.{Event}

abbrev pub tag_event : ℕ → ℕ → Kind → Event
tag_event tag depth kind = record { count_tag = tag; depth = depth; kind = kind }

abbrev pub begun_by : ℕ → ℕ → ℕ → Option ℕ → List Event
begun_by tag depth index None = tag_event tag depth Enter ∷ tag_event tag depth (BadCount index) ∷ []
begun_by tag depth index (Some declared) = tag_event tag depth Enter ∷ []

abbrev pub repeat_by : ℕ → ℕ → ℕ → Bool → List Event
repeat_by tag depth member fresh = if fresh then [] else tag_event tag depth (Repeat member) ∷ []

abbrev pub left_by : ℕ → ℕ → Option ℕ → Bool → ℕ → List Event
left_by tag depth None unparseable entries = tag_event tag depth (Leave false entries) ∷ []
left_by tag depth (Some declared) unparseable entries =
    if declared ≡ᵇ entries then tag_event tag depth (Leave (not unparseable) entries) ∷ []
    else if unparseable then tag_event tag depth (Leave false entries) ∷ []
    else tag_event tag depth (Miscount declared entries) ∷ tag_event tag depth (Leave false entries) ∷ []
