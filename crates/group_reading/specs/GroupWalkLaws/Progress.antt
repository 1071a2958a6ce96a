-- A walk does not go back, passes a field where there is one, and stays within the table. Assumes nothing.
use Rattle.std.specs.Prelude.{◌≡◌, ℕ, zero, suc, ◌≤◌, ◌<◌, Bool, Option}
use Rattle.std.proofs.Math.Path.{refl}
use Rattle.std.proofs.Common.{sym, ◌∙◌, true≢false}
use Rattle.std.proofs.Math.Bool.{true, false}
use mathlib.Core.List.{List, []}
use native.Mathlib.Omega.{arith}
use Rattle.ascii.specs.Membership.{◌∈ᵇ◌}
use Rattle.ascii.specs.Membership.{insert_if}
use Rattle.field_table.specs.WalkInput.{Input, count_at}
use Rattle.group_reading.specs.GroupSteps.{Opening, outside, too_deep, member_leads_lem, entries_follow, Step, stops, plain_field, nested_group_lem, entry_begins, entry_stops, opening_at, step_at}
use Rattle.group_reading.specs.GroupStepsLaws.{entry_stops-within, opening_at-inside, step_at-tells}
use Rattle.group_reading.specs.GroupWalk.{walk_by, entries_by, scan_by}

module _ (input : Input) where
  open input use {layout, fields}
  open layout use {Group, is_member}
  open fields use {field_count, tag_at}

  -- ---- not back

  mutual
    unfolding walk_by

    pub walk_not_back : (fuel : ℕ) (opening : Opening) (group : Group) (depth : ℕ) (enclosing : ℕ → Bool) (index : ℕ)
        → index ≤ (walk_by input fuel opening group depth enclosing index).next
    walk_not_back zero opening group depth enclosing index = omega arith
    walk_not_back (suc fuel) outside group depth enclosing index = omega arith
    walk_not_back (suc fuel) too_deep group depth enclosing index = omega arith
    walk_not_back (suc fuel) member_leads_lem group depth enclosing index =
        let scan = scan_by input fuel (step_at input true group (suc index)) group depth [] (suc index) in
        let scan-on = scan_not_back fuel (step_at input true group (suc index)) group depth [] (suc index) in
        let rest-on = entries-not_back fuel (entry_begins input group enclosing (count_at fields index) 1 scan.next) group depth enclosing (count_at fields index) 1 scan.next in
        omega arith
    walk_not_back (suc fuel) entries_follow group depth enclosing index =
        let rest-on = entries-not_back fuel (entry_begins input group enclosing (count_at fields index) 0 (suc index)) group depth enclosing (count_at fields index) 0 (suc index) in
        omega arith

    pub entries-not_back : (fuel : ℕ) (begins : Bool) (group : Group) (depth : ℕ) (enclosing : ℕ → Bool) (declared : Option ℕ) (entries cursor : ℕ)
        → cursor ≤ (entries_by input fuel begins group depth enclosing declared entries cursor).next
    entries-not_back zero begins group depth enclosing declared entries cursor = omega arith
    entries-not_back (suc fuel) false group depth enclosing declared entries cursor = omega arith
    entries-not_back (suc fuel) true group depth enclosing declared entries cursor =
        let scan = scan_by input fuel (step_at input true group cursor) group depth [] cursor in
        let scan-on = scan_not_back fuel (step_at input true group cursor) group depth [] cursor in
        let rest-on = entries-not_back fuel (entry_begins input group enclosing declared (suc entries) scan.next) group depth enclosing declared (suc entries) scan.next in
        omega arith

    pub scan_not_back : (fuel : ℕ) (step : Step Group) (group : Group) (depth : ℕ) (seen : List ℕ) (cursor : ℕ)
        → cursor ≤ (scan_by input fuel step group depth seen cursor).next
    scan_not_back zero step group depth seen cursor = omega arith
    scan_not_back (suc fuel) stops group depth seen cursor = omega arith
    scan_not_back (suc fuel) plain_field group depth seen cursor =
        let rest-on = scan_not_back fuel (step_at input false group (suc cursor)) group depth (insert_if (tag_at cursor ∈ᵇ seen) (tag_at cursor) seen) (suc cursor) in
        omega arith
    scan_not_back (suc fuel) (nested_group_lem inner) group depth seen cursor =
        let walk = walk_by input fuel (opening_at input inner (suc depth) (is_member group) cursor) inner (suc depth) (is_member group) cursor in
        let walk-on = walk_not_back fuel (opening_at input inner (suc depth) (is_member group) cursor) inner (suc depth) (is_member group) cursor in
        let rest-on = scan_not_back fuel (step_at input false group walk.next) group depth (insert_if (tag_at cursor ∈ᵇ seen) (tag_at cursor) seen) walk.next in
        omega arith

  -- ---- past a field

  pub walk_passes : (fuel : ℕ) (opening : Opening) (group : Group) (depth : ℕ) (enclosing : ℕ → Bool) (index : ℕ) → index < field_count
      → opening_at input group depth enclosing index ≡ opening
      → index < (walk_by input (suc fuel) opening group depth enclosing index).next
  unfolding walk_by
  walk_passes fuel outside group depth enclosing index inside opens = opening_at-inside input group depth enclosing index inside opens
  walk_passes fuel too_deep group depth enclosing index inside opens = omega arith
  walk_passes fuel member_leads_lem group depth enclosing index inside opens =
      let scan = scan_by input fuel (step_at input true group (suc index)) group depth [] (suc index) in
      let scan-on = scan_not_back fuel (step_at input true group (suc index)) group depth [] (suc index) in
      let rest-on = entries-not_back fuel (entry_begins input group enclosing (count_at fields index) 1 scan.next) group depth enclosing (count_at fields index) 1 scan.next in
      omega arith
  walk_passes fuel entries_follow group depth enclosing index inside opens =
      entries-not_back fuel (entry_begins input group enclosing (count_at fields index) 0 (suc index)) group depth enclosing (count_at fields index) 0 (suc index)

  pub scan_passes : (fuel : ℕ) (step : Step Group) (at_start : Bool) (group : Group) (depth : ℕ) (seen : List ℕ) (cursor : ℕ)
      → step_at input at_start group cursor ≡ step
      → entry_stops input at_start group cursor ≡ false → cursor < (scan_by input (suc (suc fuel)) step group depth seen cursor).next
  unfolding walk_by
  scan_passes fuel stops at_start group depth seen cursor steps going_on = absurd (true≢false (sym ((step_at-tells input at_start group cursor).stopping steps) ∙ going_on))
  scan_passes fuel plain_field at_start group depth seen cursor steps going_on =
      scan_not_back (suc fuel) (step_at input false group (suc cursor)) group depth (insert_if (tag_at cursor ∈ᵇ seen) (tag_at cursor) seen) (suc cursor)
  scan_passes fuel (nested_group_lem inner) at_start group depth seen cursor steps going_on =
      let walk = walk_by input (suc fuel) (opening_at input inner (suc depth) (is_member group) cursor) inner (suc depth) (is_member group) cursor in
      let walk-on =
      walk_passes fuel (opening_at input inner (suc depth) (is_member group) cursor) inner (suc depth) (is_member group) cursor
      (entry_stops-within input at_start group cursor going_on) refl in
      let rest-on = scan_not_back (suc fuel) (step_at input false group walk.next) group depth (insert_if (tag_at cursor ∈ᵇ seen) (tag_at cursor) seen) walk.next in
      omega arith

  -- ---- within the table

  mutual
    unfolding walk_by

    pub walk_within : (fuel : ℕ) (opening : Opening) (group : Group) (depth : ℕ) (enclosing : ℕ → Bool) (index : ℕ) → index < field_count
        → (walk_by input fuel opening group depth enclosing index).next ≤ field_count
    walk_within zero opening group depth enclosing index inside = omega arith
    walk_within (suc fuel) outside group depth enclosing index inside = omega arith
    walk_within (suc fuel) too_deep group depth enclosing index inside = inside
    walk_within (suc fuel) member_leads_lem group depth enclosing index inside =
        let scan = scan_by input fuel (step_at input true group (suc index)) group depth [] (suc index) in
        entries-within fuel (entry_begins input group enclosing (count_at fields index) 1 scan.next) group depth enclosing (count_at fields index) 1 scan.next
        (scan_within fuel (step_at input true group (suc index)) true group depth [] (suc index) refl inside)
    walk_within (suc fuel) entries_follow group depth enclosing index inside =
        entries-within fuel (entry_begins input group enclosing (count_at fields index) 0 (suc index)) group depth enclosing (count_at fields index) 0 (suc index) inside

    entries-within : (fuel : ℕ) (begins : Bool) (group : Group) (depth : ℕ) (enclosing : ℕ → Bool) (declared : Option ℕ) (entries cursor : ℕ)
        → cursor ≤ field_count
        → (entries_by input fuel begins group depth enclosing declared entries cursor).next ≤ field_count
    entries-within zero begins group depth enclosing declared entries cursor inside = omega arith
    entries-within (suc fuel) false group depth enclosing declared entries cursor inside = omega arith
    entries-within (suc fuel) true group depth enclosing declared entries cursor inside =
        let scan = scan_by input fuel (step_at input true group cursor) group depth [] cursor in
        entries-within fuel (entry_begins input group enclosing declared (suc entries) scan.next) group depth enclosing declared (suc entries) scan.next
        (scan_within fuel (step_at input true group cursor) true group depth [] cursor refl inside)

    pub scan_within : (fuel : ℕ) (step : Step Group) (at_start : Bool) (group : Group) (depth : ℕ) (seen : List ℕ) (cursor : ℕ)
        → step_at input at_start group cursor ≡ step → cursor ≤ field_count
        → (scan_by input fuel step group depth seen cursor).next ≤ field_count
    scan_within zero step at_start group depth seen cursor steps inside = omega arith
    scan_within (suc fuel) stops at_start group depth seen cursor steps inside = omega arith
    scan_within (suc fuel) plain_field at_start group depth seen cursor steps inside =
        scan_within fuel (step_at input false group (suc cursor)) false group depth (insert_if (tag_at cursor ∈ᵇ seen) (tag_at cursor) seen) (suc cursor) refl
        (entry_stops-within input at_start group cursor ((step_at-tells input at_start group cursor).plain steps).0)
    scan_within (suc fuel) (nested_group_lem inner) at_start group depth seen cursor steps inside =
        let walk = walk_by input fuel (opening_at input inner (suc depth) (is_member group) cursor) inner (suc depth) (is_member group) cursor in
        scan_within fuel (step_at input false group walk.next) false group depth (insert_if (tag_at cursor ∈ᵇ seen) (tag_at cursor) seen) walk.next refl
        (walk_within fuel (opening_at input inner (suc depth) (is_member group) cursor) inner (suc depth) (is_member group) cursor
        (entry_stops-within input at_start group cursor ((step_at-tells input at_start group cursor).nesting inner steps).0))
