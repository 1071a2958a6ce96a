-- The walk of a group finds exactly the readings of the group (document 01, 'Reading of a group'): from every position inside the field table, for
-- every group of a layout that meets the rules, with the top's members as the level around. Assumes nothing.
--
-- The grammar (`GroupReading.antt`) does not mention the walk, nor the walk (`GroupWalk.antt`) the grammar. Of the walk's events only those of
-- kinds 1 to 8 are spoken of, so that a further kind of event leaves the theorem as it is.
-- The parts: `Follow` (what may follow a reading is what ends the walk), `Sound` (no fault event: a reading), `Complete` (a reading: the walk ends behind
-- it and gives its events), `Unique` (one stretch, one derivation).
use Rattle.std.specs.Prelude.{◌≡◌, refl, ◌↔◌, Bool}
use Rattle.std.proofs.Common.{sym, ◌∙◌, subst, arith}
use Rattle.std.proofs.Math.Path.{ap}
use Prim.Native.Nat.{ℕ, ◌+◌, ◌*◌, ◌-◌, ◌<◌}
use Rattle.events.specs.Events.{NoFault, of_groups}
use Rattle.events.specs.EventsLaws.{no_fault_of_groups}
use Rattle.field_table.specs.WalkInput.{Layout, Fields, Input}
use Rattle.field_table.specs.ReliedRules.{LayoutRules}
use Rattle.group_reading.specs.GroupReading.{Reading, reading_events}
use Rattle.group_reading.specs.GroupReadingLaws.{reading_events-no_fault, reading_events-of_groups}
use Rattle.group_reading.specs.GroupSteps.{opening_at}
use Rattle.group_reading.specs.GroupWalk.{walk_group, walk_with}
use Rattle.group_reading.specs.ReadingTheorem.Sound.{walk_sound}
use Rattle.group_reading.specs.ReadingTheorem.Complete.{reading-walked}
use Rattle.group_reading.specs.ReadingTheorem.Unique.{reading-ends, reading-unique}
pub mod Follow
pub mod Sound
pub mod Complete
pub mod OptionSet
pub mod Unique

module _ (input : Input) where
  open input use {layout, fields}
  open layout use {Group}
  open fields use {field_count}

  -- what the walk of the group from `index` on says, where `top` tests the top's members
  pub record FindsReadings (group : Group) (top : ℕ → Bool) (index : ℕ) : Type 0 where
    -- the walk raises no fault event exactly where some stretch from `index` on is a reading
    pub no_fault : NoFault (of_groups (walk_group input group 0 top index).events) ↔ ((past : ℕ) × Reading input group 0 top index past)
    -- that stretch is the only one
    pub one_stretch : (past past' : ℕ) → Reading input group 0 top index past → Reading input group 0 top index past' → past ≡ past'
    -- and it has one derivation
    pub one_derivation : (past : ℕ) (read read' : Reading input group 0 top index past) → read ≡ read'
    -- the position given back is right behind it
    pub position : (past : ℕ) → Reading input group 0 top index past → (walk_group input group 0 top index).next ≡ past
    -- the events are the reading's own, in order
    pub events : (past : ℕ) (read : Reading input group 0 top index past)
        → of_groups (walk_group input group 0 top index).events ≡ reading_events input read

  module _ (rules : LayoutRules layout) where
    open rules use {Valid}

    pub walk_finds_readings : (group : Group) (top : ℕ → Bool) (index : ℕ) → Valid group → index < field_count → FindsReadings group top index
    unfolding walk_group
    walk_finds_readings group top index valid inside = record {
      no_fault = (there-is, there-was);
      one_stretch = λ past past' read read'. reading-ends input rules read read' valid;
      one_derivation = λ past read read'. reading-unique input rules read read' valid;
      position = λ past read. ap (λ walk. walk.next) (walked past read);
      events = λ past read. ap (λ walk. of_groups walk.events) (walked past read) ∙ reading_events-of_groups input read;
    }
      where
        fuel : ℕ
        fuel = 3 * (field_count - index) + 1

        walked : (past : ℕ) (read : Reading input group 0 top index past)
            → walk_with input fuel group 0 top index ≡ record { events = reading_events input read; next = past }
        walked past read = reading-walked input rules read valid fuel (omega arith)

        there-is : NoFault (of_groups (walk_with input fuel group 0 top index).events) → (past : ℕ) × Reading input group 0 top index past
        there-is good = (
          (walk_with input fuel group 0 top index).next,
          (walk_sound input rules fuel (opening_at input group 0 top index) group 0 top index valid inside refl ((no_fault_of_groups (walk_with input fuel group 0 top index).events).0 good)).read,
        )

        there-was : (past : ℕ) × Reading input group 0 top index past → NoFault (of_groups (walk_with input fuel group 0 top index).events)
        there-was some-reading =
            subst (λ walk. NoFault (of_groups walk.events)) (sym (walked some-reading.0 some-reading.1))
            ((no_fault_of_groups (reading_events input some-reading.1)).1 (reading_events-no_fault input some-reading.1))
