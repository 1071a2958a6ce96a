-- The events of a message walk are one behind the other events of kinds 9 to 11 and whole walks of top groups; so where an enter at depth 0 stands, such a
-- walk begins. Assumes nothing.
--
--   Parts input level events         the events are such a row
--   BeginsWalk input level events    the events begin with the walk of a top group
use Rattle.std.specs.Prelude.{◌≡◌, Bool, ◌&&◌, ◌||◌, eqb, if◌then◌else◌, Option, Some, None}
use Rattle.std.proofs.Math.Path.{refl}
use Rattle.std.proofs.Common.{sym, ap, ◌∙◌, true≢false, arith, ltb-true, eqb-true}
use Prim.Native.Nat.{ℕ, zero, suc, ◌<◌}
use Rattle.std.proofs.Math.Bool.{true, false, not}
use mathlib.Core.List.{List, [], ◌∷◌, ◌++◌, append_assoc, append-nil}
use Rattle.std.proofs.Math.Dec.{ltb}
use Rattle.ascii.specs.Notation.{◌≡ᵇ◌}
use Rattle.ascii.specs.NotationLaws.{and_left}
use Rattle.events.specs.declared.event.Event.{Event}
use Rattle.ascii.specs.Membership.{◌∈ᵇ◌}
use Rattle.events.specs.Events.{kind_number}
use Rattle.field_table.specs.WalkInput.{Input}
use Rattle.group_reading.specs.GroupWalk.{walk_group}
use Rattle.message_level.specs.MessageWalk.{MessageLevel, twice_if, foreign_unless, missing_if, Turns, turn_and, defined_turn, place_at, turn_at, turns_from, message_turns, missing_tags, missing_groups, message_events}
use Rattle.validator.specs.MessageStretches.{is_enter, is_leave, NoneOf, WalkAt}
use Rattle.validator.specs.MessageWalkTheorem.GroupBounds.{is_bound, Closed, Bracketed, none-append, walk_group-bracketed}

module _ (input : Input) (level : MessageLevel input.layout.Group) where
  open input use {layout, fields}
  open layout use {Group}
  open fields use {field_count, tag_at}
  open level use {is_defined, top_group, allows, required, required_groups}

  pub data Parts : (events : List Event) → Type 0 where
    no_part : {events : List Event} → events ≡ [] → Parts events
    level_event : {events : List Event} (event : Event) (rest : List Event) → is_bound event ≡ false → Parts rest → events ≡ event ∷ rest → Parts events
    group_walk : {events : List Event} (index : ℕ) (group : Group) (rest : List Event) → WalkAt input level index group → Parts rest
        → events ≡ (walk_group input group 0 allows index).events ++ rest → Parts events

  pub record BeginsWalk (events : List Event) : Type 0 where
    pub index : ℕ
    pub group : Group
    pub rest : List Event
    pub walk_at : WalkAt input level index group
    pub whole : events ≡ (walk_group input group 0 allows index).events ++ rest

  -- ---- the row

  level-events : (events rest : List Event) → NoneOf is_bound events → Parts rest → Parts (events ++ rest)
  level-events [] rest clear parts = parts
  level-events (event ∷ events) rest clear parts = level_event event (events ++ rest) clear.0 (level-events events rest clear.1 parts) refl

  twice-none : (repeated : Bool) (tag : ℕ) → NoneOf is_bound (twice_if repeated tag)
  twice-none true tag = (refl, tt)
  twice-none false tag = tt

  foreign_none : (allowed : Bool) (tag : ℕ) → NoneOf is_bound (foreign_unless allowed tag)
  foreign_none true tag = tt
  foreign_none false tag = (refl, tt)

  missing_none : (absent : Bool) (tag : ℕ) → NoneOf is_bound (missing_if absent tag)
  missing_none true tag = (refl, tt)
  missing_none false tag = tt

  missing_tags-none : (seen tags : List ℕ) → NoneOf is_bound (missing_tags seen tags)
  unfolding missing_tags
  missing_tags-none seen [] = tt
  missing_tags-none seen (tag ∷ rest) =
      none-append is_bound (missing_if (not (tag ≡ᵇ 10) && not (tag ∈ᵇ seen)) tag) (missing_tags seen rest)
      (missing_none (not (tag ≡ᵇ 10) && not (tag ∈ᵇ seen)) tag) (missing_tags-none seen rest)

  missing_groups-none : (seen tags : List ℕ) → NoneOf is_bound (missing_groups seen tags)
  unfolding missing_groups
  missing_groups-none seen [] = tt
  missing_groups-none seen (tag ∷ rest) =
      none-append is_bound (missing_if (not (tag ∈ᵇ seen)) tag) (missing_groups seen rest) (missing_none (not (tag ∈ᵇ seen)) tag) (missing_groups-none seen rest)

  place-parts : (found : Option Group) (index : ℕ) (rest : List Event) → index < field_count → is_defined (tag_at index) ≡ true → top_group (tag_at index) ≡ found → Parts rest
      → Parts ((place_at input level found index).events ++ rest)
  place-parts None index rest inside known there parts =
      level-events (foreign_unless (allows (tag_at index)) (tag_at index)) rest (foreign_none (allows (tag_at index)) (tag_at index)) parts
  place-parts (Some group) index rest inside known there parts = group_walk index group rest (record { inside = inside; defined = known; counts = there }) parts refl

  turn-parts : (seen : List ℕ) (index : ℕ) (rest : List Event) → index < field_count → Parts rest → Parts ((turn_at input level seen index).events ++ rest)
  unfolding turn_at
  turn-parts seen index rest inside parts = go (is_defined (tag_at index)) refl
    where
      go : (known : Bool) → is_defined (tag_at index) ≡ known
          → Parts
          ((if known then defined_turn seen (tag_at index) (place_at input level (top_group (tag_at index)) index) else record { events = []; seen = seen; next = suc index }).events ++ rest)
      go false known = parts
      go true known =
          rw (append_assoc (twice_if (tag_at index ∈ᵇ seen) (tag_at index)) (place_at input level (top_group (tag_at index)) index).events rest)
          (level-events (twice_if (tag_at index ∈ᵇ seen) (tag_at index)) ((place_at input level (top_group (tag_at index)) index).events ++ rest)
          (twice-none (tag_at index ∈ᵇ seen) (tag_at index))
          (place-parts (top_group (tag_at index)) index rest inside known refl parts))

  turns_parts : (fuel : ℕ) (seen : List ℕ) (index : ℕ) (rest : List Event) → Parts rest → Parts ((turns_from input level fuel seen index).events ++ rest)
  unfolding turns_from
  turns_parts zero seen index rest parts = parts
  turns_parts (suc fuel) seen index rest parts =
      go (ltb index field_count) refl (turns_parts fuel (turn_at input level seen index).seen (turn_at input level seen index).next rest parts)
    where
      go : (inside : Bool) → ltb index field_count ≡ inside
          → Parts ((turns_from input level fuel (turn_at input level seen index).seen (turn_at input level seen index).next).events ++ rest)
          → Parts
          ((if inside then turn_and (turn_at input level seen index) (λ seen' next. turns_from input level fuel seen' next) else record { events = []; seen = seen }).events ++ rest)
      go false outside others = parts
      go true inside others =
          rw (append_assoc (turn_at input level seen index).events (turns_from input level fuel (turn_at input level seen index).seen (turn_at input level seen index).next).events rest)
          (turn-parts seen index ((turns_from input level fuel (turn_at input level seen index).seen (turn_at input level seen index).next).events ++ rest) (ltb-true _ _ inside) others)

  pub message-parts : Parts (message_events input level)
  unfolding message_events
  message-parts =
      let seen = (message_turns input level).seen in
      let missing : Parts (missing_tags seen required ++ missing_groups seen required_groups) =
      level-events (missing_tags seen required) (missing_groups seen required_groups) (missing_tags-none seen required) (groups-missing seen) in
      turns_parts field_count [] 0 (missing_tags seen required ++ missing_groups seen required_groups) missing
    where
      groups-missing : (seen : List ℕ) → Parts (missing_groups seen required_groups)
      groups-missing seen =
          let with_none : Parts (missing_groups seen required_groups ++ []) =
          level-events (missing_groups seen required_groups) [] (missing_groups-none seen required_groups) (no_part refl) in
          rw append-nil at with_none

  -- ---- where an enter stands

  bound-enter : (event : Event) → is_bound event ≡ false → is_enter event ≡ false
  bound-enter event clear = go (eqb (kind_number event.kind) 1) (eqb (kind_number event.kind) 8) (eqb event.depth 0) clear
    where
      go : (one eight top : Bool) → ((one || eight) && top) ≡ false → (one && top) ≡ false
      go true eight top clear = clear
      go false eight top clear = refl

  enter_none : (events : List Event) → NoneOf is_bound events → NoneOf is_enter events
  enter_none [] clear = tt
  enter_none (event ∷ rest) clear = (bound-enter event clear.0, enter_none rest clear.1)

  leave_no_enter : (event : Event) → is_leave event ≡ true → is_enter event ≡ false
  leave_no_enter event leaves =
      let eight : kind_number event.kind ≡ 8 = eqb-true _ 8 (and_left (eqb (kind_number event.kind) 8) (eqb event.depth 0) leaves) in
      rw eight

  module _ (first : Event) (tail : List Event) (enters : is_enter first ≡ true) where
    not_first : (event : Event) → is_enter event ≡ false → event ≡ first → ⊥
    not_first event clear is-first = true≢false (sym enters ∙ ap is_enter (sym is-first) ∙ clear)

    not-empty : (before : List Event) → [] ≡ before ++ (first ∷ tail) → ⊥
    not-empty [] same = let zero_one : ◌≡◌ {A = ℕ} 0 1 = cc in omega arith
    not-empty (other ∷ before) same = let zero_one : ◌≡◌ {A = ℕ} 0 1 = cc in omega arith

    -- events without an enter stand before it
    passed : (events rest before : List Event) → NoneOf is_enter events → events ++ rest ≡ before ++ (first ∷ tail)
        → (before' : List Event) × (rest ≡ before' ++ (first ∷ tail))
    passed [] rest before clear same = (before, same)
    passed (event ∷ events) rest [] clear same = let is-first : event ≡ first = cc in absurd (not_first event clear.0 is-first)
    passed (event ∷ events) rest (other ∷ before) clear same =
        let behind : events ++ rest ≡ before ++ (first ∷ tail) = cc in
        passed events rest before clear.1 behind

    -- behind the enter of a walk
    walk_passed : (index : ℕ) (group : Group) (rest before : List Event) (other : Event) → index < field_count
        → (walk_group input group 0 allows index).events ++ rest ≡ other ∷ (before ++ (first ∷ tail)) → (before' : List Event) × (rest ≡ before' ++ (first ∷ tail))
    walk_passed index group rest before other inside same =
        let walk = walk_group-bracketed input group allows index inside in
        let whole : walk.first ∷ ((walk.closed.middle ++ (walk.closed.last ∷ [])) ++ rest) ≡ other ∷ (before ++ (first ∷ tail)) =
        rw (walk.whole, walk.closed.whole) at same in
        let behind : (walk.closed.middle ++ (walk.closed.last ∷ [])) ++ rest ≡ before ++ (first ∷ tail) = cc in
        passed (walk.closed.middle ++ (walk.closed.last ∷ [])) rest before
        (none-append is_enter walk.closed.middle (walk.closed.last ∷ []) (enter_none walk.closed.middle walk.closed.none_bounds)
        (leave_no_enter walk.closed.last walk.closed.leaves, tt))
        behind

    pub walk_begins : (events before : List Event) → Parts events → events ≡ before ++ (first ∷ tail) → BeginsWalk (first ∷ tail)
    walk_begins events before (no_part empty) same = absurd (not-empty before (sym empty ∙ same))
    walk_begins events [] (level_event event rest clear parts whole) same =
        let both : event ∷ rest ≡ first ∷ tail = sym whole ∙ same in
        let is-first : event ≡ first = cc in
        absurd (not_first event (bound-enter event clear) is-first)
    walk_begins events (other ∷ before) (level_event event rest clear parts whole) same =
        let both : event ∷ rest ≡ other ∷ (before ++ (first ∷ tail)) = sym whole ∙ same in
        let behind : rest ≡ before ++ (first ∷ tail) = cc in
        walk_begins rest before parts behind
    walk_begins events [] (group_walk index group rest walk_at parts whole) same =
        record { index = index; group = group; rest = rest; walk_at = walk_at; whole = sym same ∙ whole }
    walk_begins events (other ∷ before) (group_walk index group rest walk_at parts whole) same =
        let behind = walk_passed index group rest before other walk_at.inside (sym whole ∙ same) in
        walk_begins rest behind.0 parts behind.1
