-- Laws of `MessageWalk.antt`: a turn passes at least one field and has few events, and the loop taken turn by turn. Assumes nothing.
--
--   Passes field_count index next count   a turn of so many events passes the fields from `index` up to before `next`
--   TurnsSoFar events seen index         the turns before `index` have these events and have seen these tags
use Rattle.std.specs.Prelude.{◌≡◌, Bool, not, ◌&&◌, if◌then◌else◌, Option, Some, None}
use Rattle.std.proofs.Math.Path.{refl}
use Rattle.std.proofs.Common.{◌∙◌}
use Prim.Native.Nat.{ℕ, zero, suc, ◌+◌, ◌*◌, ◌-◌, ◌≤◌, ◌<◌}
use Rattle.std.proofs.Math.Bool.{true, false}
use mathlib.Core.List.{List, [], ◌∷◌, ◌++◌, append_assoc, append-nil}
use native.Mathlib.Omega.{arith}
use Rattle.std.proofs.Math.Dec.{ltb}
use Rattle.std.proofs.Math.ListN.{length, length-append}
use borrow.Author.Tests.{lt-ltb, le-ltb, ltb-true}
use Rattle.ascii.specs.Notation.{◌≡ᵇ◌}
use Rattle.events.specs.declared.event.Event.{Event}
use Rattle.ascii.specs.Membership.{◌∈ᵇ◌}
use Rattle.field_table.specs.WalkInput.{Input}
use Rattle.field_table.specs.ReliedRules.{LayoutRules}
use Rattle.group_reading.specs.GroupWalkLaws.EventBound.{walk_group-passes, walk_group-few_events}
use Rattle.message_level.specs.MessageWalk.{MessageLevel, twice_if, foreign_unless, missing_if, Turn, Turns, turn_and, defined_turn, place_at, turn_at, turns_from, message_turns, missing_tags, missing_groups}

-- ---- how many events

twice-few : (repeated : Bool) (tag : ℕ) → length (twice_if repeated tag) ≤ 1
twice-few true tag = omega arith
twice-few false tag = omega arith

foreign_few : (allowed : Bool) (tag : ℕ) → length (foreign_unless allowed tag) ≤ 1
foreign_few true tag = omega arith
foreign_few false tag = omega arith

missing_few : (absent : Bool) (tag : ℕ) → length (missing_if absent tag) ≤ 1
missing_few true tag = omega arith
missing_few false tag = omega arith

pub missing_tags-few : (seen tags : List ℕ) → length (missing_tags seen tags) ≤ length tags
unfolding missing_tags
missing_tags-few seen [] = omega arith
missing_tags-few seen (tag ∷ rest) = simp length-append (omega (arith, missing_few (not (tag ≡ᵇ 10) && not (tag ∈ᵇ seen)) tag, missing_tags-few seen rest))

pub missing_groups-few : (seen tags : List ℕ) → length (missing_groups seen tags) ≤ length tags
unfolding missing_groups
missing_groups-few seen [] = omega arith
missing_groups-few seen (tag ∷ rest) = simp length-append (omega (arith, missing_few (not (tag ∈ᵇ seen)) tag, missing_groups-few seen rest))

-- ---- a turn

pub record Passes (field_count index next count : ℕ) : Type 0 where
  pub moves : index < next
  pub within : next ≤ field_count
  pub few : count + 1 ≤ 5 * (next - index)

module _ (input : Input) (level : MessageLevel input.layout.Group) where
  open input use {layout, fields}
  open layout use {Group}
  open fields use {field_count, tag_at}
  open level use {is_defined, top_group, allows}

  module _ (seen : List ℕ) (index : ℕ) where
    pub turn-undefined : is_defined (tag_at index) ≡ false → turn_at input level seen index ≡ record { events = []; seen = seen; next = suc index }
    unfolding turn_at
    turn-undefined unknown = rw unknown

    pub turn-defined : is_defined (tag_at index) ≡ true
        → turn_at input level seen index ≡ defined_turn seen (tag_at index) (place_at input level (top_group (tag_at index)) index)
    unfolding turn_at
    turn-defined known = rw known

  module _ (rules : LayoutRules layout) (valid : (tag : ℕ) (group : Group) → top_group tag ≡ Some group → rules.Valid group) (index : ℕ) (inside : index < field_count) where
    place-passes : (found : Option Group) → top_group (tag_at index) ≡ found
        → (index < (place_at input level found index).next) × ((place_at input level found index).next ≤ field_count)
        × (length (place_at input level found index).events + 2 ≤ 5 * ((place_at input level found index).next - index))
    place-passes None nowhere = (omega arith, inside, omega (arith, foreign_few (allows (tag_at index)) (tag_at index)))
    place-passes (Some group) there =
        let passes = walk_group-passes input rules group 0 allows index (valid (tag_at index) group there) inside in
        let few = walk_group-few_events input rules group 0 allows index (valid (tag_at index) group there) inside in
        (omega (arith, passes.0), omega (arith, passes.1, inside), omega (arith, passes.0, few))

    pub turn-passes : (seen : List ℕ) → Passes field_count index (turn_at input level seen index).next (length (turn_at input level seen index).events)
    unfolding turn_at
    turn-passes seen = go (is_defined (tag_at index))
      where
        go : (known : Bool)
            → Passes field_count index
            (if known then defined_turn seen (tag_at index) (place_at input level (top_group (tag_at index)) index) else record { events = []; seen = seen; next = suc index }).next
            (length (if known then defined_turn seen (tag_at index) (place_at input level (top_group (tag_at index)) index) else record { events = []; seen = seen; next = suc index }).events)
        go true =
            let place = place-passes (top_group (tag_at index)) refl in
            let twice = twice-few (tag_at index ∈ᵇ seen) (tag_at index) in
            record {
              moves = place.0;
              within = place.1;
              few = simp length-append (omega (arith, place.0, place.2, twice));
            }
        go false = record { moves = omega arith; within = inside; few = omega arith }

  -- ---- the turns

  module _ (rules : LayoutRules layout) (valid : (tag : ℕ) (group : Group) → top_group tag ≡ Some group → rules.Valid group) where
    pub turns_few : (fuel : ℕ) (seen : List ℕ) (index : ℕ) → length (turns_from input level fuel seen index).events ≤ 5 * (field_count - index)
    unfolding turns_from
    turns_few zero seen index = omega arith
    turns_few (suc fuel) seen index =
        go (ltb index field_count) refl (turns_few fuel (turn_at input level seen index).seen (turn_at input level seen index).next)
      where
        go : (inside : Bool) → ltb index field_count ≡ inside
            → length (turns_from input level fuel (turn_at input level seen index).seen (turn_at input level seen index).next).events
            ≤ 5 * (field_count - (turn_at input level seen index).next)
            → length
            (if inside
            then turn_and (turn_at input level seen index) (λ seen' next. turns_from input level fuel seen' next)
            else record { events = []; seen = seen }).events
            ≤ 5 * (field_count - index)
        go true inside rest =
            let turn = turn-passes rules valid index (ltb-true _ _ inside) seen in
            simp length-append (omega (arith, turn.moves, turn.within, turn.few, rest))
        go false outside rest = omega arith

  abbrev pub turns_after : List Event → Turns → Turns
  turns_after events turns = record { events = events ++ turns.events; seen = turns.seen }

  pub record TurnsSoFar (events : List Event) (seen : List ℕ) (index : ℕ) : Type 0 where
    pub left : ℕ
    pub enough : field_count ≤ left + index
    pub whole : message_turns input level ≡ turns_after events (turns_from input level left seen index)

  pub turns_begin : TurnsSoFar [] [] 0
  turns_begin = record { left = field_count; enough = omega arith; whole = refl }

  module _ (events : List Event) (seen : List ℕ) (index : ℕ) (so_far : TurnsSoFar events seen index) where
    pub turns_end : field_count ≤ index → message_turns input level ≡ record { events = events; seen = seen }
    unfolding turns_from
    turns_end over = so_far.whole ∙ go so_far.left
      where
        go : (left : ℕ) → turns_after events (turns_from input level left seen index) ≡ record { events = events; seen = seen }
        go zero = rw append-nil
        go (suc left) = rw (le-ltb index field_count over, append-nil)

    pub turns_go_on : index < field_count → (turn : Turn) → turn ≡ turn_at input level seen index → index < turn.next
        → TurnsSoFar (events ++ turn.events) turn.seen turn.next
    unfolding turns_from
    turns_go_on inside turn is-turn moves = go so_far.left refl
      where
        go : (left : ℕ) → so_far.left ≡ left → TurnsSoFar (events ++ turn.events) turn.seen turn.next
        go zero none_left = absurd (omega (arith, so_far.enough, none_left))
        go (suc left) one_more = record {
          left = left;
          enough = omega (arith, so_far.enough, one_more, moves);
          whole = so_far.whole ∙ rw (one_more, lt-ltb index field_count inside, ← is-turn, append_assoc);
        }
