-- A walk that passes N fields, N at least 1, has at most 5 * N - 2 events; so five words for each of 5 * N - 2 events hold every walk over N
-- fields. The bound is reached (`GroupWalkCases.antt`). Assumes nothing.
use Rattle.std.specs.Prelude.{◌≡◌, ℕ, zero, suc, ◌+◌, ◌*◌, ◌-◌, ◌≤◌, ◌<◌, Bool, true, false, ◌||◌, List, [], ◌∷◌, eqb, length, Option, Some, None}
use Rattle.std.proofs.Math.Path.{refl}
use Rattle.std.proofs.Common.{sym, ◌∙◌, true≢false, length-append}
use native.Mathlib.Omega.{arith}
use Rattle.events.specs.declared.event.Kind.TheVariants.{Close}
use Rattle.events.specs.declared.event.Event.{Event}
use Rattle.ascii.specs.Membership.{◌∈ᵇ◌}
use Rattle.ascii.specs.Membership.{insert_if}
use Rattle.field_table.specs.WalkInput.{Layout, Input, count_at, event}
use Rattle.field_table.specs.ReliedRules.{LayoutRules}
use Rattle.group_reading.specs.GroupSteps.{Opening, outside, too_deep, member_leads_lem, entries_follow, Step, stops, plain_field, nested_group_lem, entry_begins, entry_stops, opening_at, step_at}
use Rattle.group_reading.specs.GroupStepsLaws.{entry_stops-within, entry_stops-first, entry_begins-delimiter, member_leads-taken, opening_at-inside, opening_at-leads, step_at-tells}
use Rattle.group_reading.specs.GroupWalk.{WalkedGroup, WalkedEntries, ScannedEntry, bad_count, repeated_tag, ended_by, ended, whole_group, leading_entry, field_then, entry_then, walk_by, entries_by, scan_by, walk_group}
use Rattle.group_reading.specs.GroupWalkLaws.Progress.{scan_not_back, walk_passes, scan_passes, walk_within}

-- ---- how many events the parts of a walk have

module _ (layout : Layout) where
  open layout use {Group}

  repeated_tag-few : (group : Group) (depth tag : ℕ) (repeated : Bool) → length (repeated_tag layout group depth tag repeated) ≤ 1
  repeated_tag-few group depth tag true = omega arith
  repeated_tag-few group depth tag false = omega arith

  ended_by-few : (group : Group) (depth : ℕ) (same unparseable : Bool) (declared entries : ℕ)
      → length (ended_by layout group depth same unparseable declared entries) ≤ 2
  ended_by-few group depth true unparseable declared entries = omega arith
  ended_by-few group depth false true declared entries = omega arith
  ended_by-few group depth false false declared entries = omega arith

  -- a count that declares nothing brings no miscount
  both_few : (group : Group) (depth index : ℕ) (declared : Option ℕ) (unparseable : Bool) (entries : ℕ)
      → length (bad_count layout group depth index declared) + length (ended layout group depth declared unparseable entries) ≤ 2
  both_few group depth index None unparseable entries = omega arith
  both_few group depth index (Some declared) unparseable entries =
      let few = ended_by-few group depth (eqb declared entries) unparseable declared entries in
      omega arith

  whole_group-few : (group : Group) (depth index : ℕ) (declared : Option ℕ) (unparseable : Bool) (leading : List Event) (rest : WalkedEntries)
      → length (whole_group layout group depth index declared unparseable leading rest).events ≤ 3 + length leading + length rest.events
  whole_group-few group depth index declared unparseable leading rest =
      let few = both_few group depth index declared (unparseable || rest.unparseable) rest.entries in
      simp length-append (omega arith)

  leading_entry-length : (group : Group) (depth tag : ℕ) (entry : ScannedEntry)
      → length (leading_entry layout group depth tag entry) ≡ 2 + length entry.events
  leading_entry-length group depth tag entry = simp length-append (omega arith)

field_then-length : (repeat : List Event) (repeated : Bool) (field : WalkedGroup) (rest : ScannedEntry)
    → length (field_then repeat repeated field rest).events ≡ length repeat + length field.events + length rest.events
field_then-length repeat repeated field rest = simp length-append (omega arith)

entry_then-length : (close : Event) (entry : ScannedEntry) (rest : WalkedEntries)
    → length (entry_then close entry rest).events ≡ length entry.events + 1 + length rest.events
entry_then-length close entry rest = simp length-append (omega arith)

module _ (input : Input) (rules : LayoutRules input.layout) where
  open input use {layout, fields}
  open layout use {Group, is_member}
  open fields use {field_count, tag_at}
  open rules use {Valid, delimiter_member, nested_valid}

  mutual
    unfolding walk_by

    walk_few : (fuel : ℕ) (opening : Opening) (group : Group) (depth : ℕ) (enclosing : ℕ → Bool) (index : ℕ) → Valid group
        → opening_at input group depth enclosing index ≡ opening
        → index < field_count → 3 * (field_count - index) + 1 ≤ fuel
        → length (walk_by input fuel opening group depth enclosing index).events + 2 + 5 * index ≤ 5 * (walk_by input fuel opening group depth enclosing index).next
    walk_few zero opening group depth enclosing index valid opens inside enough = absurd (omega arith)
    walk_few (suc fuel) outside group depth enclosing index valid opens inside enough = opening_at-inside input group depth enclosing index inside opens
    walk_few (suc fuel) too_deep group depth enclosing index valid opens inside enough = omega arith
    walk_few (suc fuel) member_leads_lem group depth enclosing index valid opens inside enough =
        let leads = opening_at-leads input group depth enclosing index opens in
        let scan = scan_by input fuel (step_at input true group (suc index)) group depth [] (suc index) in
        let scan-on = scan_not_back input fuel (step_at input true group (suc index)) group depth [] (suc index) in
        let scan-events =
        entry-few fuel (step_at input true group (suc index)) group depth (suc index) valid refl
        (member_leads-taken input group enclosing (count_at fields index) (suc index) leads) (omega arith) in
        let rest = entries_by input fuel (entry_begins input group enclosing (count_at fields index) 1 scan.next) group depth enclosing (count_at fields index) 1 scan.next in
        let rest-events =
        entries-few fuel (entry_begins input group enclosing (count_at fields index) 1 scan.next) group depth enclosing (count_at fields index) 1 scan.next valid refl (omega arith) in
        let leading = leading_entry-length layout group depth (tag_at (suc index)) scan in
        let whole = whole_group-few layout group depth index (count_at fields index) true (leading_entry layout group depth (tag_at (suc index)) scan) rest in
        omega arith
    walk_few (suc fuel) entries_follow group depth enclosing index valid opens inside enough =
        let rest = entries_by input fuel (entry_begins input group enclosing (count_at fields index) 0 (suc index)) group depth enclosing (count_at fields index) 0 (suc index) in
        let rest-events =
        entries-few fuel (entry_begins input group enclosing (count_at fields index) 0 (suc index)) group depth enclosing (count_at fields index) 0 (suc index) valid refl (omega arith) in
        let whole = whole_group-few layout group depth index (count_at fields index) false [] rest in
        omega arith

    entries-few : (fuel : ℕ) (begins : Bool) (group : Group) (depth : ℕ) (enclosing : ℕ → Bool) (declared : Option ℕ) (entries cursor : ℕ) → Valid group
        → entry_begins input group enclosing declared entries cursor ≡ begins → 3 * (field_count - cursor) + 3 ≤ fuel
        → length (entries_by input fuel begins group depth enclosing declared entries cursor).events + 5 * cursor
        ≤ 5 * (entries_by input fuel begins group depth enclosing declared entries cursor).next
    entries-few zero begins group depth enclosing declared entries cursor valid begun enough = absurd (omega arith)
    entries-few (suc fuel) false group depth enclosing declared entries cursor valid begun enough = omega arith
    entries-few (suc zero) true group depth enclosing declared entries cursor valid begun enough =
        let facts = entry_begins-delimiter input group enclosing declared entries cursor begun in
        absurd (omega arith)
    entries-few (suc (suc zero)) true group depth enclosing declared entries cursor valid begun enough =
        let facts = entry_begins-delimiter input group enclosing declared entries cursor begun in
        absurd (omega arith)
    entries-few (suc (suc (suc fuel))) true group depth enclosing declared entries cursor valid begun enough =
        let facts = entry_begins-delimiter input group enclosing declared entries cursor begun in
        let going_on = entry_stops-first input group cursor (delimiter_member group valid) facts.0 facts.1 in
        let scan = scan_by input (suc (suc fuel)) (step_at input true group cursor) group depth [] cursor in
        let scan-on = scan_passes input fuel (step_at input true group cursor) true group depth [] cursor refl going_on in
        let scan-events = entry-few (suc (suc fuel)) (step_at input true group cursor) group depth cursor valid refl going_on (omega arith) in
        let rest = entries_by input (suc (suc fuel)) (entry_begins input group enclosing declared (suc entries) scan.next) group depth enclosing declared (suc entries) scan.next in
        let rest-events =
        entries-few (suc (suc fuel)) (entry_begins input group enclosing declared (suc entries) scan.next) group depth enclosing declared (suc entries) scan.next valid refl (omega arith) in
        let whole = entry_then-length (event layout group depth (Close entries scan.seen)) scan rest in
        omega arith

    -- an entry, from its first field on: two events fewer, which a delim and a close make up for
    entry-few : (fuel : ℕ) (step : Step Group) (group : Group) (depth cursor : ℕ) → Valid group → step_at input true group cursor ≡ step
        → entry_stops input true group cursor ≡ false
        → 3 * (field_count - cursor) + 2 ≤ fuel
        → length (scan_by input fuel step group depth [] cursor).events + 2 + 5 * cursor ≤ 5 * (scan_by input fuel step group depth [] cursor).next
    entry-few zero step group depth cursor valid steps going_on enough = absurd (omega arith)
    entry-few (suc fuel) stops group depth cursor valid steps going_on enough = absurd (true≢false (sym ((step_at-tells input true group cursor).stopping steps) ∙ going_on))
    entry-few (suc fuel) plain_field group depth cursor valid steps going_on enough =
        let inside = entry_stops-within input true group cursor going_on in
        let rest = scan_by input fuel (step_at input false group (suc cursor)) group depth (tag_at cursor ∷ []) (suc cursor) in
        let rest-events = rest-few fuel (step_at input false group (suc cursor)) group depth (tag_at cursor ∷ []) (suc cursor) valid refl (omega arith) in
        let whole = field_then-length [] false (record { events = []; next = suc cursor }) rest in
        omega arith
    entry-few (suc zero) (nested_group_lem inner) group depth cursor valid steps going_on enough =
        let inside = entry_stops-within input true group cursor going_on in
        absurd (omega arith)
    entry-few (suc (suc fuel)) (nested_group_lem inner) group depth cursor valid steps going_on enough =
        let inside = entry_stops-within input true group cursor going_on in
        let found = ((step_at-tells input true group cursor).nesting inner steps).1 in
        let walk = walk_by input (suc fuel) (opening_at input inner (suc depth) (is_member group) cursor) inner (suc depth) (is_member group) cursor in
        let walk-on = walk_passes input fuel (opening_at input inner (suc depth) (is_member group) cursor) inner (suc depth) (is_member group) cursor inside refl in
        let walk-events =
        walk_few (suc fuel) (opening_at input inner (suc depth) (is_member group) cursor) inner (suc depth) (is_member group) cursor
        (nested_valid group inner (tag_at cursor) valid found) refl inside (omega arith) in
        let rest = scan_by input (suc fuel) (step_at input false group walk.next) group depth (tag_at cursor ∷ []) walk.next in
        let rest-events = rest-few (suc fuel) (step_at input false group walk.next) group depth (tag_at cursor ∷ []) walk.next valid refl (omega arith) in
        let whole = field_then-length [] false walk rest in
        omega arith

    rest-few : (fuel : ℕ) (step : Step Group) (group : Group) (depth : ℕ) (seen : List ℕ) (cursor : ℕ) → Valid group
        → step_at input false group cursor ≡ step
        → 3 * (field_count - cursor) + 2 ≤ fuel
        → length (scan_by input fuel step group depth seen cursor).events + 5 * cursor ≤ 5 * (scan_by input fuel step group depth seen cursor).next
    rest-few zero step group depth seen cursor valid steps enough = absurd (omega arith)
    rest-few (suc fuel) stops group depth seen cursor valid steps enough = omega arith
    rest-few (suc fuel) plain_field group depth seen cursor valid steps enough =
        let inside = entry_stops-within input false group cursor ((step_at-tells input false group cursor).plain steps).0 in
        let rest = scan_by input fuel (step_at input false group (suc cursor)) group depth (insert_if (tag_at cursor ∈ᵇ seen) (tag_at cursor) seen) (suc cursor) in
        let rest-events = rest-few fuel (step_at input false group (suc cursor)) group depth (insert_if (tag_at cursor ∈ᵇ seen) (tag_at cursor) seen) (suc cursor) valid refl (omega arith) in
        let whole = field_then-length (repeated_tag layout group depth (tag_at cursor) (tag_at cursor ∈ᵇ seen)) (tag_at cursor ∈ᵇ seen) (record { events = []; next = suc cursor }) rest in
        let few = repeated_tag-few layout group depth (tag_at cursor) (tag_at cursor ∈ᵇ seen) in
        omega arith
    rest-few (suc zero) (nested_group_lem inner) group depth seen cursor valid steps enough =
        let inside = entry_stops-within input false group cursor ((step_at-tells input false group cursor).nesting inner steps).0 in
        absurd (omega arith)
    rest-few (suc (suc fuel)) (nested_group_lem inner) group depth seen cursor valid steps enough =
        let facts = (step_at-tells input false group cursor).nesting inner steps in
        let inside = entry_stops-within input false group cursor facts.0 in
        let walk = walk_by input (suc fuel) (opening_at input inner (suc depth) (is_member group) cursor) inner (suc depth) (is_member group) cursor in
        let walk-on = walk_passes input fuel (opening_at input inner (suc depth) (is_member group) cursor) inner (suc depth) (is_member group) cursor inside refl in
        let walk-events =
        walk_few (suc fuel) (opening_at input inner (suc depth) (is_member group) cursor) inner (suc depth) (is_member group) cursor
        (nested_valid group inner (tag_at cursor) valid facts.1) refl inside (omega arith) in
        let rest = scan_by input (suc fuel) (step_at input false group walk.next) group depth (insert_if (tag_at cursor ∈ᵇ seen) (tag_at cursor) seen) walk.next in
        let rest-events = rest-few (suc fuel) (step_at input false group walk.next) group depth (insert_if (tag_at cursor ∈ᵇ seen) (tag_at cursor) seen) walk.next valid refl (omega arith) in
        let whole = field_then-length (repeated_tag layout group depth (tag_at cursor) (tag_at cursor ∈ᵇ seen)) (tag_at cursor ∈ᵇ seen) walk rest in
        let few = repeated_tag-few layout group depth (tag_at cursor) (tag_at cursor ∈ᵇ seen) in
        omega arith

  module _ (group : Group) (depth : ℕ) (enclosing : ℕ → Bool) (index : ℕ) (valid : Valid group) (inside : index < field_count) where
    -- it passes at least one field, and stays within the table
    pub walk_group-passes : (index < (walk_group input group depth enclosing index).next) × ((walk_group input group depth enclosing index).next ≤ field_count)
    unfolding walk_group
    walk_group-passes =
        let few = walk_few (3 * (field_count - index) + 1) (opening_at input group depth enclosing index) group depth enclosing index valid refl inside (omega arith) in
        (omega arith, walk_within input (3 * (field_count - index) + 1) (opening_at input group depth enclosing index) group depth enclosing index inside)

    pub walk_group-few_events : length (walk_group input group depth enclosing index).events ≤ 5 * ((walk_group input group depth enclosing index).next - index) - 2
    unfolding walk_group
    walk_group-few_events =
        let few = walk_few (3 * (field_count - index) + 1) (opening_at input group depth enclosing index) group depth enclosing index valid refl inside (omega arith) in
        omega arith

    -- so also in the number of fields from there to the end of the table
    pub walk_group-few_in_table : length (walk_group input group depth enclosing index).events ≤ 5 * (field_count - index) - 2
    walk_group-few_in_table = let passes = walk_group-passes in let few = walk_group-few_events in omega arith
