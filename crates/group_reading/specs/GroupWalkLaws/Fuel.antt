-- Any two bounds on the calls that are enough give the same walk: three calls for each field left. Assumes nothing.
use Rattle.std.specs.Prelude.{◌≡◌, refl, ℕ, zero, suc, ◌+◌, ◌*◌, ◌-◌, ◌≤◌, ◌<◌, Bool, true, false, List, [], Option}
use Rattle.std.proofs.Common.{arith}
use Rattle.ascii.specs.Membership.{◌∈ᵇ◌}
use Rattle.ascii.specs.Membership.{insert_if}
use Rattle.field_table.specs.WalkInput.{Input, count_at}
use Rattle.field_table.specs.ReliedRules.{LayoutRules}
use Rattle.group_reading.specs.GroupSteps.{Opening, outside, too_deep, member_leads_lem, entries_follow, Step, stops, plain_field, nested_group_lem, entry_begins, opening_at, step_at}
use Rattle.group_reading.specs.GroupStepsLaws.{entry_stops-within, entry_stops-first, entry_begins-delimiter, step_at-tells}
use Rattle.group_reading.specs.GroupWalk.{walk_by, entries_by, scan_by}
use Rattle.group_reading.specs.GroupWalkLaws.Progress.{scan_not_back, walk_passes, scan_passes}

module _ (input : Input) (rules : LayoutRules input.layout) where
  open input use {layout, fields}
  open layout use {Group, is_member}
  open fields use {field_count, tag_at}
  open rules use {Valid, delimiter_member, nested_valid}

  mutual
    unfolding walk_by

    pub walk_fuel : (fuel fuel' : ℕ) (opening : Opening) (group : Group) (depth : ℕ) (enclosing : ℕ → Bool) (index : ℕ) → Valid group
        → opening_at input group depth enclosing index ≡ opening
        → index < field_count → 3 * (field_count - index) + 1 ≤ fuel → 3 * (field_count - index) + 1 ≤ fuel'
        → walk_by input fuel opening group depth enclosing index ≡ walk_by input fuel' opening group depth enclosing index
    walk_fuel zero fuel' opening group depth enclosing index valid opens inside enough enough' = absurd (omega arith)
    walk_fuel (suc fuel) zero opening group depth enclosing index valid opens inside enough enough' = absurd (omega arith)
    walk_fuel (suc fuel) (suc fuel') outside group depth enclosing index valid opens inside enough enough' = refl
    walk_fuel (suc fuel) (suc fuel') too_deep group depth enclosing index valid opens inside enough enough' = refl
    walk_fuel (suc fuel) (suc fuel') member_leads_lem group depth enclosing index valid opens inside enough enough' =
        let scan = scan_by input fuel' (step_at input true group (suc index)) group depth [] (suc index) in
        let scan-on = scan_not_back input fuel' (step_at input true group (suc index)) group depth [] (suc index) in
        rw (
          scan_fuel fuel fuel' (step_at input true group (suc index)) true group depth [] (suc index) valid refl (omega arith) (omega arith),
          entries-fuel fuel fuel' (entry_begins input group enclosing (count_at fields index) 1 scan.next) group depth enclosing (count_at fields index) 1 scan.next valid refl
              (omega arith) (omega arith),
        )
    walk_fuel (suc fuel) (suc fuel') entries_follow group depth enclosing index valid opens inside enough enough' =
        rw (entries-fuel fuel fuel' (entry_begins input group enclosing (count_at fields index) 0 (suc index)) group depth enclosing (count_at fields index) 0 (suc index) valid refl
        (omega arith) (omega arith))

    pub entries-fuel : (fuel fuel' : ℕ) (begins : Bool) (group : Group) (depth : ℕ) (enclosing : ℕ → Bool) (declared : Option ℕ) (entries cursor : ℕ)
        → Valid group
        → entry_begins input group enclosing declared entries cursor ≡ begins → 3 * (field_count - cursor) + 3 ≤ fuel
        → 3 * (field_count - cursor) + 3 ≤ fuel'
        → entries_by input fuel begins group depth enclosing declared entries cursor ≡ entries_by input fuel' begins group depth enclosing declared entries cursor
    entries-fuel zero fuel' begins group depth enclosing declared entries cursor valid begun enough enough' = absurd (omega arith)
    entries-fuel (suc fuel) zero begins group depth enclosing declared entries cursor valid begun enough enough' = absurd (omega arith)
    entries-fuel (suc fuel) (suc fuel') false group depth enclosing declared entries cursor valid begun enough enough' = refl
    entries-fuel (suc fuel) (suc zero) true group depth enclosing declared entries cursor valid begun enough enough' =
        let facts = entry_begins-delimiter input group enclosing declared entries cursor begun in
        absurd (omega arith)
    entries-fuel (suc fuel) (suc (suc zero)) true group depth enclosing declared entries cursor valid begun enough enough' =
        let facts = entry_begins-delimiter input group enclosing declared entries cursor begun in
        absurd (omega arith)
    entries-fuel (suc fuel) (suc (suc (suc fuel'))) true group depth enclosing declared entries cursor valid begun enough enough' =
        let facts = entry_begins-delimiter input group enclosing declared entries cursor begun in
        let scan = scan_by input (suc (suc fuel')) (step_at input true group cursor) group depth [] cursor in
        let scan-on =
        scan_passes input fuel' (step_at input true group cursor) true group depth [] cursor refl
        (entry_stops-first input group cursor (delimiter_member group valid) facts.0 facts.1) in
        rw (
          scan_fuel fuel (suc (suc fuel')) (step_at input true group cursor) true group depth [] cursor valid refl (omega arith) (omega arith),
          entries-fuel fuel (suc (suc fuel')) (entry_begins input group enclosing declared (suc entries) scan.next) group depth enclosing declared (suc entries) scan.next valid refl
              (omega arith) (omega arith),
        )

    pub scan_fuel : (fuel fuel' : ℕ) (step : Step Group) (at_start : Bool) (group : Group) (depth : ℕ) (seen : List ℕ) (cursor : ℕ) → Valid group
        → step_at input at_start group cursor ≡ step
        → 3 * (field_count - cursor) + 2 ≤ fuel → 3 * (field_count - cursor) + 2 ≤ fuel'
        → scan_by input fuel step group depth seen cursor ≡ scan_by input fuel' step group depth seen cursor
    scan_fuel zero fuel' step at_start group depth seen cursor valid steps enough enough' = absurd (omega arith)
    scan_fuel (suc fuel) zero step at_start group depth seen cursor valid steps enough enough' = absurd (omega arith)
    scan_fuel (suc fuel) (suc fuel') stops at_start group depth seen cursor valid steps enough enough' = refl
    scan_fuel (suc fuel) (suc fuel') plain_field at_start group depth seen cursor valid steps enough enough' =
        let inside = entry_stops-within input at_start group cursor ((step_at-tells input at_start group cursor).plain steps).0 in
        rw (scan_fuel fuel fuel' (step_at input false group (suc cursor)) false group depth (insert_if (tag_at cursor ∈ᵇ seen) (tag_at cursor) seen) (suc cursor) valid refl
        (omega arith) (omega arith))
    scan_fuel (suc fuel) (suc zero) (nested_group_lem inner) at_start group depth seen cursor valid steps enough enough' =
        let inside = entry_stops-within input at_start group cursor ((step_at-tells input at_start group cursor).nesting inner steps).0 in
        absurd (omega arith)
    scan_fuel (suc fuel) (suc (suc fuel')) (nested_group_lem inner) at_start group depth seen cursor valid steps enough enough' =
        let facts = (step_at-tells input at_start group cursor).nesting inner steps in
        let inside = entry_stops-within input at_start group cursor facts.0 in
        let walk = walk_by input (suc fuel') (opening_at input inner (suc depth) (is_member group) cursor) inner (suc depth) (is_member group) cursor in
        let walk-on = walk_passes input fuel' (opening_at input inner (suc depth) (is_member group) cursor) inner (suc depth) (is_member group) cursor inside refl in
        rw (
          walk_fuel fuel (suc fuel') (opening_at input inner (suc depth) (is_member group) cursor) inner (suc depth) (is_member group) cursor
              (nested_valid group inner (tag_at cursor) valid facts.1) refl inside (omega arith) (omega arith),
          scan_fuel fuel (suc fuel') (step_at input false group walk.next) false group depth (insert_if (tag_at cursor ∈ᵇ seen) (tag_at cursor) seen) walk.next valid refl
              (omega arith) (omega arith),
        )
