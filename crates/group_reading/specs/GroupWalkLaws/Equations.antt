-- The clauses of `walk_group` and `scan_entry` with no fuel in sight: what a proof of code cites. Assumes nothing.
--
-- Where a part of the walk is used twice, for its events and for where it ends, it is a variable with its equation.
use Rattle.std.specs.Prelude.{◌≡◌, Bool, length, Option, Some, None}
use Rattle.std.proofs.Math.Path.{refl}
use Rattle.std.proofs.Common.{◌∙◌, arith, add-one}
use Prim.Native.Nat.{ℕ, suc, ◌+◌, ◌*◌, ◌-◌, ◌≤◌, ◌<◌}
use Rattle.std.proofs.Math.Bool.{true, false}
use mathlib.Core.List.{List, [], ◌∷◌}
use Rattle.events.specs.declared.event.Kind.TheVariants.{Close, Deep}
use Rattle.ascii.specs.Membership.{◌∈ᵇ◌}
use Rattle.ascii.specs.Membership.{insert_if}
use Rattle.field_table.specs.WalkInput.{Input, count_at, event}
use Rattle.field_table.specs.ReliedRules.{LayoutRules}
use Rattle.group_reading.specs.GroupSteps.{member_leads, entry_begins, entry_stops, opening_at, step_at}
use Rattle.group_reading.specs.GroupStepsLaws.{entry_stops-within, entry_stops-first, entry_begins-delimiter, opening_at-outside, opening_at-too_deep, opening_at-member_leads, opening_at-entries_follow, step_at-stops, step_at-plain, step_at-nested}
use Rattle.group_reading.specs.GroupWalk.{WalkedGroup, ScannedEntry, repeated_tag, whole_group, leading_entry, field_then, entry_then, walk_by, walk_with, entries_with, scan_with, walk_group, walk_entries, scan_entry}
use Rattle.group_reading.specs.GroupWalkLaws.Progress.{scan_not_back, walk_passes, scan_passes}
use Rattle.group_reading.specs.GroupWalkLaws.Fuel.{walk_fuel, entries-fuel, scan_fuel}

module _ (input : Input) (rules : LayoutRules input.layout) where
  open input use {layout, fields, depth_limit}
  open layout use {Group, is_member, nested_group}
  open fields use {field_count, tag_at}
  open rules use {Valid, delimiter_member, nested_valid}

  -- ---- any fuel that is enough

  walk_group-fuel : (fuel : ℕ) (group : Group) (depth : ℕ) (enclosing : ℕ → Bool) (index : ℕ) → Valid group → index < field_count
      → 3 * (field_count - index) + 1 ≤ fuel
      → walk_group input group depth enclosing index ≡ walk_with input fuel group depth enclosing index
  unfolding walk_group
  walk_group-fuel fuel group depth enclosing index valid inside enough =
      walk_fuel input rules (3 * (field_count - index) + 1) fuel (opening_at input group depth enclosing index) group depth enclosing index valid refl inside (omega arith) enough

  walk_entries-fuel : (fuel : ℕ) (group : Group) (depth : ℕ) (enclosing : ℕ → Bool) (declared : Option ℕ) (entries cursor : ℕ) → Valid group
      → 3 * (field_count - cursor) + 3 ≤ fuel
      → walk_entries input group depth enclosing declared entries cursor ≡ entries_with input fuel group depth enclosing declared entries cursor
  unfolding walk_entries
  walk_entries-fuel fuel group depth enclosing declared entries cursor valid enough =
      entries-fuel input rules (3 * (field_count - cursor) + 3) fuel (entry_begins input group enclosing declared entries cursor) group depth enclosing declared entries cursor valid refl (omega arith) enough

  scan_entry-fuel : (fuel : ℕ) (at_start : Bool) (group : Group) (depth : ℕ) (seen : List ℕ) (cursor : ℕ) → Valid group
      → 3 * (field_count - cursor) + 2 ≤ fuel
      → scan_entry input at_start group depth seen cursor ≡ scan_with input fuel at_start group depth seen cursor
  unfolding scan_entry
  scan_entry-fuel fuel at_start group depth seen cursor valid enough =
      scan_fuel input rules (3 * (field_count - cursor) + 2) fuel (step_at input at_start group cursor) at_start group depth seen cursor valid refl (omega arith) enough

  -- ---- walk_group

  module _ (group : Group) (depth : ℕ) (enclosing : ℕ → Bool) (index : ℕ) where
    pub walk_group-outside : field_count ≤ index → walk_group input group depth enclosing index ≡ record { events = []; next = index }
    unfolding walk_group walk_by
    walk_group-outside over = rw (add-one, opening_at-outside input group depth enclosing index over)

    module _ (valid : Valid group) (inside : index < field_count) where
      pub walk_group-too_deep : depth_limit < depth
          → walk_group input group depth enclosing index ≡ record { events = event layout group depth Deep ∷ []; next = suc index }
      unfolding walk_by
      walk_group-too_deep deep = rw (walk_group-fuel (suc (3 * (field_count - index))) group depth enclosing index valid inside (omega arith), opening_at-too_deep input group depth enclosing index inside deep)

      pub walk_group-entries_follow : depth ≤ depth_limit → member_leads input group enclosing (count_at fields index) (suc index) ≡ false
          → walk_group input group depth enclosing index
          ≡ whole_group layout group depth index (count_at fields index) false [] (walk_entries input group depth enclosing (count_at fields index) 0 (suc index))
      unfolding walk_by
      walk_group-entries_follow shallow no_lead =
          rw (
            walk_group-fuel (suc (3 * (field_count - index))) group depth enclosing index valid inside (omega arith),
            opening_at-entries_follow input group depth enclosing index inside shallow no_lead,
            walk_entries-fuel (3 * (field_count - index)) group depth enclosing (count_at fields index) 0 (suc index) valid (omega arith),
          )

      pub walk_group-member_leads : depth ≤ depth_limit → member_leads input group enclosing (count_at fields index) (suc index) ≡ true
          → (entry : ScannedEntry) → entry ≡ scan_entry input true group depth [] (suc index)
          → walk_group input group depth enclosing index
          ≡ whole_group layout group depth index (count_at fields index) true (leading_entry layout group depth (tag_at (suc index)) entry)
          (walk_entries input group depth enclosing (count_at fields index) 1 entry.next)
      unfolding walk_by
      walk_group-member_leads shallow leads entry scanned =
          let scanned' : entry ≡ scan_with input (3 * (field_count - index)) true group depth [] (suc index) =
          scanned ∙ scan_entry-fuel (3 * (field_count - index)) true group depth [] (suc index) valid (omega arith) in
          let scan-on = scan_not_back input (3 * (field_count - index)) (step_at input true group (suc index)) group depth [] (suc index) in
          let entry-on : suc index ≤ entry.next = rw scanned' scan-on in
          rw (
            walk_group-fuel (suc (3 * (field_count - index))) group depth enclosing index valid inside (omega arith),
            opening_at-member_leads input group depth enclosing index inside shallow leads,
            ← scanned',
            walk_entries-fuel (3 * (field_count - index)) group depth enclosing (count_at fields index) 1 entry.next valid (omega arith),
          )

  -- ---- its loop

  module _ (group : Group) (depth : ℕ) (enclosing : ℕ → Bool) (declared : Option ℕ) (entries cursor : ℕ) (valid : Valid group) where
    pub walk_entries-ends : entry_begins input group enclosing declared entries cursor ≡ false
        → walk_entries input group depth enclosing declared entries cursor ≡ record { events = []; next = cursor; unparseable = false; entries = entries }
    unfolding walk_by
    walk_entries-ends no_other = rw (walk_entries-fuel (suc (3 * (field_count - cursor) + 2)) group depth enclosing declared entries cursor valid (omega arith), no_other)

    pub walk_entries-goes_on : entry_begins input group enclosing declared entries cursor ≡ true → (entry : ScannedEntry)
        → entry ≡ scan_entry input true group depth [] cursor
        → walk_entries input group depth enclosing declared entries cursor
        ≡ entry_then (event layout group depth (Close entries entry.seen)) entry (walk_entries input group depth enclosing declared (suc entries) entry.next)
    unfolding walk_by
    walk_entries-goes_on begins entry scanned =
        let facts = entry_begins-delimiter input group enclosing declared entries cursor begins in
        let fuel = 3 * (field_count - cursor) in
        let scanned' : entry ≡ scan_with input (suc (suc fuel)) true group depth [] cursor = scanned ∙ scan_entry-fuel (suc (suc fuel)) true group depth [] cursor valid (omega arith) in
        let scan-on =
        scan_passes input fuel (step_at input true group cursor) true group depth [] cursor refl
        (entry_stops-first input group cursor (delimiter_member group valid) facts.0 facts.1) in
        let entry-on : cursor < entry.next = rw scanned' scan-on in
        rw (
          walk_entries-fuel (suc (suc (suc fuel))) group depth enclosing declared entries cursor valid (omega arith),
          begins,
          ← scanned',
          walk_entries-fuel (suc (suc fuel)) group depth enclosing declared (suc entries) entry.next valid (omega arith),
        )

  -- ---- scan_entry

  module _ (at_start : Bool) (group : Group) (depth : ℕ) (seen : List ℕ) (cursor : ℕ) (valid : Valid group) where
    pub scan_entry-stops : entry_stops input at_start group cursor ≡ true
        → scan_entry input at_start group depth seen cursor ≡ record { events = []; next = cursor; unparseable = false; seen = length seen }
    unfolding walk_by
    scan_entry-stops stopped =
        rw (scan_entry-fuel (suc (3 * (field_count - cursor) + 1)) at_start group depth seen cursor valid (omega arith), step_at-stops input at_start group cursor stopped)

    module _ (going_on : entry_stops input at_start group cursor ≡ false) where
      pub scan_entry-plain : nested_group group (tag_at cursor) ≡ None
          → scan_entry input at_start group depth seen cursor
          ≡ field_then (repeated_tag layout group depth (tag_at cursor) (tag_at cursor ∈ᵇ seen)) (tag_at cursor ∈ᵇ seen) (record { events = []; next = suc cursor })
          (scan_entry input false group depth (insert_if (tag_at cursor ∈ᵇ seen) (tag_at cursor) seen) (suc cursor))
      unfolding walk_by
      scan_entry-plain none-nested =
          let inside = entry_stops-within input at_start group cursor going_on in
          rw (
            scan_entry-fuel (suc (3 * (field_count - cursor) + 1)) at_start group depth seen cursor valid (omega arith),
            step_at-plain input at_start group cursor going_on none-nested,
            scan_entry-fuel (3 * (field_count - cursor) + 1) false group depth (insert_if (tag_at cursor ∈ᵇ seen) (tag_at cursor) seen) (suc cursor) valid (omega arith),
          )

      pub scan_entry-nested : (inner : Group) → nested_group group (tag_at cursor) ≡ Some inner
          → (walk : WalkedGroup) → walk ≡ walk_group input inner (suc depth) (is_member group) cursor
          → scan_entry input at_start group depth seen cursor
          ≡ field_then (repeated_tag layout group depth (tag_at cursor) (tag_at cursor ∈ᵇ seen)) (tag_at cursor ∈ᵇ seen) walk
          (scan_entry input false group depth (insert_if (tag_at cursor ∈ᵇ seen) (tag_at cursor) seen) walk.next)
      unfolding walk_by
      scan_entry-nested inner found walk walked =
          let inside = entry_stops-within input at_start group cursor going_on in
          let fuel = 3 * (field_count - cursor) in
          let walked' : walk ≡ walk_with input (suc fuel) inner (suc depth) (is_member group) cursor =
          walked ∙ walk_group-fuel (suc fuel) inner (suc depth) (is_member group) cursor (nested_valid group inner (tag_at cursor) valid found) inside (omega arith) in
          let walk-on = walk_passes input fuel (opening_at input inner (suc depth) (is_member group) cursor) inner (suc depth) (is_member group) cursor inside refl in
          let walk-on' : cursor < walk.next = rw walked' walk-on in
          rw (
            scan_entry-fuel (suc (suc fuel)) at_start group depth seen cursor valid (omega arith),
            step_at-nested input at_start group cursor inner going_on found,
            ← walked',
            scan_entry-fuel (suc fuel) false group depth (insert_if (tag_at cursor ∈ᵇ seen) (tag_at cursor) seen) walk.next valid (omega arith),
          )
