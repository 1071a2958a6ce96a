-- The walk of a top group begins with its enter and ends with its leave, and has no other enter and no other leave at depth 0. Assumes nothing.
--
--   is_bound event                  an enter or a leave at depth 0
--   Closed events                  the last event is a leave at depth 0, and none before it bounds a group there
--   Bracketed events               the same behind an enter at depth 0
use Rattle.std.specs.Prelude.{◌≡◌, Bool, true, false, not, ◌&&◌, ◌||◌, List, [], ◌∷◌, ◌++◌, eqb, Option, Some, None}
use Rattle.std.proofs.Math.Path.{refl}
use Rattle.std.proofs.Common.{sym, ap, ◌∙◌, append_assoc, arith, add-one, ne_eqb}
use Prim.Native.Nat.{ℕ, zero, suc, ◌+◌, ◌*◌, ◌-◌, ◌≤◌, ◌<◌}
use Rattle.ascii.specs.Notation.{◌≡ᵇ◌}
use Rattle.events.specs.declared.event.Kind.{Kind}
use Rattle.events.specs.declared.event.Kind.TheVariants.{Enter, Close, Miscount, Leave}
use Rattle.events.specs.declared.event.Event.{Event}
use Rattle.ascii.specs.Membership.{◌∈ᵇ◌}
use Rattle.events.specs.Events.{kind_number}
use Rattle.ascii.specs.Membership.{insert_if}
use Rattle.field_table.specs.WalkInput.{Layout, Input, count_at, event}
use Rattle.group_reading.specs.GroupSteps.{Opening, outside, too_deep, member_leads_lem, entries_follow, Step, stops, plain_field, nested_group_lem, member_leads, entry_begins, opening_at, step_at}
use Rattle.group_reading.specs.GroupStepsLaws.{opening_at-member_leads, opening_at-entries_follow}
use Rattle.group_reading.specs.GroupWalk.{WalkedGroup, WalkedEntries, ScannedEntry, bad_count, repeated_tag, ended_by, ended, whole_group, leading_entry, field_then, entry_then, walk_by, entries_by, scan_by, walk_group}
use Rattle.validator.specs.MessageStretches.{is_enter, is_leave, NoneOf}

abbrev pub is_bound : Event → Bool
is_bound event = (kind_number event.kind ≡ᵇ 1 || kind_number event.kind ≡ᵇ 8) && event.depth ≡ᵇ 0

pub record Closed (events : List Event) : Type 0 where
  pub middle : List Event
  pub last : Event
  pub none_bounds : NoneOf is_bound middle
  pub leaves : is_leave last ≡ true
  pub whole : events ≡ middle ++ (last ∷ [])

pub record Bracketed (events : List Event) : Type 0 where
  pub first : Event
  pub rest : List Event
  pub enters : is_enter first ≡ true
  pub closed : Closed rest
  pub whole : events ≡ first ∷ rest

-- ---- lists

pub none-append : (test : Event → Bool) (events others : List Event) → NoneOf test events → NoneOf test others → NoneOf test (events ++ others)
none-append test [] others none these = these
none-append test (event ∷ rest) others none these = (none.0, none-append test rest others none.1 these)

closed-behind : (events others : List Event) → NoneOf is_bound events → Closed others → Closed (events ++ others)
closed-behind events others none closed = record {
  middle = events ++ closed.middle;
  last = closed.last;
  none_bounds = none-append is_bound events closed.middle none closed.none_bounds;
  leaves = closed.leaves;
  whole = ap (λ (list : List Event). events ++ list) closed.whole ∙ sym (append_assoc events closed.middle (closed.last ∷ []));
}

and-false : (test : Bool) → (test && false) ≡ false
and-false true = refl
and-false false = refl

-- ---- the parts of a walk

module _ (layout : Layout) where
  open layout use {Group}

  -- an event at another depth than 0 bounds nothing there
  inner-event : (group : Group) (depth : ℕ) (kind : Kind) → is_bound (event layout group (suc depth) kind) ≡ false
  inner-event group depth kind =
      rw (ne_eqb (suc depth) 0 (λ (same : suc depth ≡ 0). omega (arith, same))) (and-false (eqb (kind_number kind) 1 || eqb (kind_number kind) 8))

  bad_count-none : (group : Group) (depth index : ℕ) (declared : Option ℕ) → NoneOf is_bound (bad_count layout group depth index declared)
  bad_count-none group depth index None = (refl, tt)
  bad_count-none group depth index (Some declared) = tt

  repeated_tag-none : (group : Group) (depth tag : ℕ) (repeated : Bool) → NoneOf is_bound (repeated_tag layout group depth tag repeated)
  repeated_tag-none group depth tag true = (refl, tt)
  repeated_tag-none group depth tag false = tt

  leading_entry-none : (group : Group) (depth tag : ℕ) (entry : ScannedEntry) → NoneOf is_bound entry.events → NoneOf is_bound (leading_entry layout group depth tag entry)
  leading_entry-none group depth tag entry none = (refl, none-append is_bound entry.events (event layout group depth (Close 0 entry.seen) ∷ []) none (refl, tt))

  ended_by-inner : (group : Group) (depth : ℕ) (same unparseable : Bool) (declared entries : ℕ)
      → NoneOf is_bound (ended_by layout group (suc depth) same unparseable declared entries)
  ended_by-inner group depth true unparseable declared entries = (inner-event group depth (Leave (not unparseable) entries), tt)
  ended_by-inner group depth false true declared entries = (inner-event group depth (Leave false entries), tt)
  ended_by-inner group depth false false declared entries = (refl, (inner-event group depth (Leave false entries), tt))

  ended-inner : (group : Group) (depth : ℕ) (declared : Option ℕ) (unparseable : Bool) (entries : ℕ) → NoneOf is_bound (ended layout group (suc depth) declared unparseable entries)
  ended-inner group depth None unparseable entries = (inner-event group depth (Leave false entries), tt)
  ended-inner group depth (Some declared) unparseable entries = ended_by-inner group depth (eqb declared entries) unparseable declared entries

  whole_group-inner : (group : Group) (depth index : ℕ) (declared : Option ℕ) (unparseable : Bool) (leading : List Event) (rest : WalkedEntries)
      → NoneOf is_bound leading → NoneOf is_bound rest.events → NoneOf is_bound (whole_group layout group (suc depth) index declared unparseable leading rest).events
  whole_group-inner group depth index declared unparseable leading rest none-leading none_rest = (
    inner-event group depth Enter,
    none-append is_bound (bad_count layout group (suc depth) index declared) _ (bad_count-none group (suc depth) index declared)
        (none-append is_bound leading _ none-leading
        (none-append is_bound rest.events _ none_rest (ended-inner group depth declared (unparseable || rest.unparseable) rest.entries))),
  )

  -- at depth 0 the leave is the last event
  ended_by-closed : (group : Group) (same unparseable : Bool) (declared entries : ℕ) → Closed (ended_by layout group 0 same unparseable declared entries)
  ended_by-closed group true unparseable declared entries = record { middle = []; last = _; none_bounds = tt; leaves = refl; whole = refl }
  ended_by-closed group false true declared entries = record { middle = []; last = _; none_bounds = tt; leaves = refl; whole = refl }
  ended_by-closed group false false declared entries = record {
    middle = event layout group 0 (Miscount declared entries) ∷ [];
    last = event layout group 0 (Leave false entries);
    none_bounds = (refl, tt);
    leaves = refl;
    whole = refl;
  }

  ended-closed : (group : Group) (declared : Option ℕ) (unparseable : Bool) (entries : ℕ) → Closed (ended layout group 0 declared unparseable entries)
  ended-closed group None unparseable entries = record { middle = []; last = _; none_bounds = tt; leaves = refl; whole = refl }
  ended-closed group (Some declared) unparseable entries = ended_by-closed group (eqb declared entries) unparseable declared entries

  whole_group-bracketed : (group : Group) (index : ℕ) (declared : Option ℕ) (unparseable : Bool) (leading : List Event) (rest : WalkedEntries)
      → NoneOf is_bound leading → NoneOf is_bound rest.events → Bracketed (whole_group layout group 0 index declared unparseable leading rest).events
  whole_group-bracketed group index declared unparseable leading rest none-leading none_rest = record {
    first = event layout group 0 Enter;
    rest = _;
    enters = refl;
    closed =
        closed-behind (bad_count layout group 0 index declared) _ (bad_count-none group 0 index declared)
        (closed-behind leading _ none-leading (closed-behind rest.events _ none_rest (ended-closed group declared (unparseable || rest.unparseable) rest.entries)));
    whole = refl;
  }

field_then-none : (repeat : List Event) (repeated : Bool) (field : WalkedGroup) (rest : ScannedEntry)
    → NoneOf is_bound repeat → NoneOf is_bound field.events → NoneOf is_bound rest.events → NoneOf is_bound (field_then repeat repeated field rest).events
field_then-none repeat repeated field rest none-repeat none-field none_rest =
    none-append is_bound repeat (field.events ++ rest.events) none-repeat (none-append is_bound field.events rest.events none-field none_rest)

entry_then-none : (close : Event) (entry : ScannedEntry) (rest : WalkedEntries)
    → is_bound close ≡ false → NoneOf is_bound entry.events → NoneOf is_bound rest.events → NoneOf is_bound (entry_then close entry rest).events
entry_then-none close entry rest none-close none-entry none_rest = none-append is_bound entry.events (close ∷ rest.events) none-entry (none-close, none_rest)

-- ---- the walk

module _ (input : Input) where
  open input use {layout, fields, depth_limit}
  open layout use {Group, is_member}
  open fields use {field_count, tag_at}

  mutual
    unfolding walk_by

    walk_inner : (fuel : ℕ) (opening : Opening) (group : Group) (depth : ℕ) (enclosing : ℕ → Bool) (index : ℕ)
        → NoneOf is_bound (walk_by input fuel opening group (suc depth) enclosing index).events
    walk_inner zero opening group depth enclosing index = (refl, tt)
    walk_inner (suc fuel) outside group depth enclosing index = tt
    walk_inner (suc fuel) too_deep group depth enclosing index = (refl, tt)
    walk_inner (suc fuel) member_leads_lem group depth enclosing index =
        let scan = scan_by input fuel (step_at input true group (suc index)) group (suc depth) [] (suc index) in
        whole_group-inner layout group depth index (count_at fields index) true (leading_entry layout group (suc depth) (tag_at (suc index)) scan)
        (entries_by input fuel (entry_begins input group enclosing (count_at fields index) 1 scan.next) group (suc depth) enclosing (count_at fields index) 1 scan.next)
        (leading_entry-none layout group (suc depth) (tag_at (suc index)) scan (scan_none fuel (step_at input true group (suc index)) group (suc depth) [] (suc index)))
        (entries_none fuel (entry_begins input group enclosing (count_at fields index) 1 scan.next) group (suc depth) enclosing (count_at fields index) 1 scan.next)
    walk_inner (suc fuel) entries_follow group depth enclosing index =
        whole_group-inner layout group depth index (count_at fields index) false []
        (entries_by input fuel (entry_begins input group enclosing (count_at fields index) 0 (suc index)) group (suc depth) enclosing (count_at fields index) 0 (suc index))
        tt
        (entries_none fuel (entry_begins input group enclosing (count_at fields index) 0 (suc index)) group (suc depth) enclosing (count_at fields index) 0 (suc index))

    entries_none : (fuel : ℕ) (begins : Bool) (group : Group) (depth : ℕ) (enclosing : ℕ → Bool) (declared : Option ℕ) (entries cursor : ℕ)
        → NoneOf is_bound (entries_by input fuel begins group depth enclosing declared entries cursor).events
    entries_none zero begins group depth enclosing declared entries cursor = (refl, tt)
    entries_none (suc fuel) false group depth enclosing declared entries cursor = tt
    entries_none (suc fuel) true group depth enclosing declared entries cursor =
        let scan = scan_by input fuel (step_at input true group cursor) group depth [] cursor in
        entry_then-none (event layout group depth (Close entries scan.seen)) scan
        (entries_by input fuel (entry_begins input group enclosing declared (suc entries) scan.next) group depth enclosing declared (suc entries) scan.next)
        refl
        (scan_none fuel (step_at input true group cursor) group depth [] cursor)
        (entries_none fuel (entry_begins input group enclosing declared (suc entries) scan.next) group depth enclosing declared (suc entries) scan.next)

    scan_none : (fuel : ℕ) (step : Step Group) (group : Group) (depth : ℕ) (seen : List ℕ) (cursor : ℕ)
        → NoneOf is_bound (scan_by input fuel step group depth seen cursor).events
    scan_none zero step group depth seen cursor = (refl, tt)
    scan_none (suc fuel) stops group depth seen cursor = tt
    scan_none (suc fuel) plain_field group depth seen cursor =
        field_then-none (repeated_tag layout group depth (tag_at cursor) (tag_at cursor ∈ᵇ seen)) (tag_at cursor ∈ᵇ seen) (record { events = []; next = suc cursor })
        (scan_by input fuel (step_at input false group (suc cursor)) group depth (insert_if (tag_at cursor ∈ᵇ seen) (tag_at cursor) seen) (suc cursor))
        (repeated_tag-none layout group depth (tag_at cursor) (tag_at cursor ∈ᵇ seen))
        tt
        (scan_none fuel (step_at input false group (suc cursor)) group depth (insert_if (tag_at cursor ∈ᵇ seen) (tag_at cursor) seen) (suc cursor))
    scan_none (suc fuel) (nested_group_lem inner) group depth seen cursor =
        let walk = walk_by input fuel (opening_at input inner (suc depth) (is_member group) cursor) inner (suc depth) (is_member group) cursor in
        field_then-none (repeated_tag layout group depth (tag_at cursor) (tag_at cursor ∈ᵇ seen)) (tag_at cursor ∈ᵇ seen) walk
        (scan_by input fuel (step_at input false group walk.next) group depth (insert_if (tag_at cursor ∈ᵇ seen) (tag_at cursor) seen) walk.next)
        (repeated_tag-none layout group depth (tag_at cursor) (tag_at cursor ∈ᵇ seen))
        (walk_inner fuel (opening_at input inner (suc depth) (is_member group) cursor) inner depth (is_member group) cursor)
        (scan_none fuel (step_at input false group walk.next) group depth (insert_if (tag_at cursor ∈ᵇ seen) (tag_at cursor) seen) walk.next)

  pub walk_group-bracketed : (group : Group) (enclosing : ℕ → Bool) (index : ℕ) → index < field_count → Bracketed (walk_group input group 0 enclosing index).events
  unfolding walk_group walk_by
  walk_group-bracketed group enclosing index inside = go (member_leads input group enclosing (count_at fields index) (suc index)) refl
    where
      fuel : ℕ
      fuel = 3 * (field_count - index)

      go : (leads : Bool) → member_leads input group enclosing (count_at fields index) (suc index) ≡ leads
          → Bracketed (walk_by input (fuel + 1) (opening_at input group 0 enclosing index) group 0 enclosing index).events
      go true leads =
          let scan = scan_by input fuel (step_at input true group (suc index)) group 0 [] (suc index) in
          rw (add-one, opening_at-member_leads input group 0 enclosing index inside (omega arith) leads)
          (whole_group-bracketed layout group index (count_at fields index) true (leading_entry layout group 0 (tag_at (suc index)) scan)
          (entries_by input fuel (entry_begins input group enclosing (count_at fields index) 1 scan.next) group 0 enclosing (count_at fields index) 1 scan.next)
          (leading_entry-none layout group 0 (tag_at (suc index)) scan (scan_none fuel (step_at input true group (suc index)) group 0 [] (suc index)))
          (entries_none fuel (entry_begins input group enclosing (count_at fields index) 1 scan.next) group 0 enclosing (count_at fields index) 1 scan.next))
      go false follows =
          rw (add-one, opening_at-entries_follow input group 0 enclosing index inside (omega arith) follows)
          (whole_group-bracketed layout group index (count_at fields index) false []
          (entries_by input fuel (entry_begins input group enclosing (count_at fields index) 0 (suc index)) group 0 enclosing (count_at fields index) 0 (suc index))
          tt
          (entries_none fuel (entry_begins input group enclosing (count_at fields index) 0 (suc index)) group 0 enclosing (count_at fields index) 0 (suc index)))
