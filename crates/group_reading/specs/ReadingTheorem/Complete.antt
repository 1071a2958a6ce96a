-- Where there is a reading, the walk of the group ends behind it and gives its events. Assumes nothing.
use Rattle.std.specs.Prelude.{◌≡◌, refl, ℕ, zero, suc, ◌+◌, ◌*◌, ◌-◌, ◌≤◌, ◌<◌, Bool, true, List, [], ◌∷◌, ◌++◌, length, Option, Some, None}
use Rattle.std.proofs.Common.{◌∙◌, append_assoc, arith, eq-eqb}
use Rattle.std.proofs.Math.Bool.{false}
use Rattle.events.specs.declared.event.Kind.TheVariants.{Close}
use Rattle.events.specs.declared.event.Event.{Event}
use Rattle.ascii.specs.Membership.{◌∈ᵇ◌}
use Rattle.field_table.specs.WalkInput.{Input, count_at, event}
use Rattle.field_table.specs.ReliedRules.{LayoutRules}
use Rattle.group_reading.specs.GroupReading.{may_follow, Reading, Entries, Items, Item, reading, no_entry, entry, no_item, item, plain, nested, reading_events, entries_events, items_events, item_events, item_count}
use Rattle.group_reading.specs.GroupReadingLaws.{items_advance, item-advances}
use Rattle.group_reading.specs.GroupSteps.{member_leads, entry_begins, entry_stops}
use Rattle.group_reading.specs.GroupStepsLaws.{entry_stops-goes_on, entry_stops-first, opening_at-entries_follow, step_at-stops, step_at-plain, step_at-nested}
use Rattle.group_reading.specs.GroupWalk.{WalkedGroup, WalkedEntries, ScannedEntry, whole_group, field_then, entry_then, walk_by, walk_with, entries_with, scan_with}
use Rattle.group_reading.specs.ReadingTheorem.Follow.{follows_begins_not, declared_begins, rest-stops, entries-no_lead}

-- what a walk gives along a reading: nothing is unparseable
abbrev group_behind : List Event → ℕ → WalkedGroup
group_behind events next = record { events = events; next = next }

abbrev entries_behind : List Event → ℕ → ℕ → WalkedEntries
entries_behind events next entries = record { events = events; next = next; unparseable = false; entries = entries }

abbrev entry_behind : List Event → ℕ → ℕ → ScannedEntry
entry_behind events next seen = record { events = events; next = next; unparseable = false; seen = seen }

module _ (input : Input) where
  open input use {layout, fields, depth_limit}
  open layout use {Group, delimiter, is_member, nested_group}
  open fields use {field_count, tag_at}

  -- ---- the clauses of the walk, where its decisions are those along a reading

  group-goes_on : (fuel : ℕ) (group : Group) (depth : ℕ) (around : ℕ → Bool) (index declared : ℕ) → index < field_count → depth ≤ depth_limit
      → count_at fields index ≡ Some declared
      → member_leads input group around (Some declared) (suc index) ≡ false
      → walk_with input (suc fuel) group depth around index
      ≡ whole_group layout group depth index (Some declared) false [] (entries_with input fuel group depth around (Some declared) 0 (suc index))
  unfolding walk_by
  group-goes_on fuel group depth around index declared inside shallow says no_lead =
      let no-lead' : member_leads input group around (count_at fields index) (suc index) ≡ false = rw says no_lead in
      rw (opening_at-entries_follow input group depth around index inside shallow no-lead', says)

  entries-end : (fuel : ℕ) (group : Group) (depth : ℕ) (around : ℕ → Bool) (declared : Option ℕ) (before cursor : ℕ)
      → entry_begins input group around declared before cursor ≡ false
      → entries_with input (suc fuel) group depth around declared before cursor ≡ entries_behind [] cursor before
  unfolding walk_by
  entries-end fuel group depth around declared before cursor no_other = rw no_other

  entries-go_on : (fuel : ℕ) (group : Group) (depth : ℕ) (around : ℕ → Bool) (declared : Option ℕ) (before cursor next : ℕ) (events : List Event) (seen : ℕ)
      → entry_begins input group around declared before cursor ≡ true → scan_with input fuel true group depth [] cursor ≡ entry_behind events next seen
      → entries_with input (suc fuel) group depth around declared before cursor
      ≡ entry_then (event layout group depth (Close before seen)) (entry_behind events next seen) (entries_with input fuel group depth around declared (suc before) next)
  unfolding walk_by
  entries-go_on fuel group depth around declared before cursor next events seen begins scanned = rw (begins, scanned)

  entry-ends : (fuel : ℕ) (at_start : Bool) (group : Group) (depth : ℕ) (seen : List ℕ) (cursor : ℕ) → entry_stops input at_start group cursor ≡ true
      → scan_with input (suc fuel) at_start group depth seen cursor ≡ entry_behind [] cursor (length seen)
  unfolding walk_by
  entry-ends fuel at_start group depth seen cursor stopped = rw (step_at-stops input at_start group cursor stopped)

  module _ (fuel : ℕ) (at_start : Bool) (group : Group) (depth : ℕ) (seen : List ℕ) (cursor : ℕ) (going_on : entry_stops input at_start group cursor ≡ false) (fresh : tag_at cursor ∈ᵇ seen ≡ false) where
    field_taken : nested_group group (tag_at cursor) ≡ None
        → scan_with input (suc fuel) at_start group depth seen cursor
        ≡ field_then [] false (group_behind [] (suc cursor)) (scan_with input fuel false group depth (tag_at cursor ∷ seen) (suc cursor))
    unfolding walk_by
    field_taken none-nested = rw (step_at-plain input at_start group cursor going_on none-nested, fresh)

    group-taken : (inner : Group) (next : ℕ) (events : List Event) → nested_group group (tag_at cursor) ≡ Some inner
        → walk_with input fuel inner (suc depth) (is_member group) cursor ≡ group_behind events next
        → scan_with input (suc fuel) at_start group depth seen cursor
        ≡ field_then [] false (group_behind events next) (scan_with input fuel false group depth (tag_at cursor ∷ seen) next)
    unfolding walk_by
    group-taken inner next events found walked = rw (step_at-nested input at_start group cursor inner going_on found, fresh, walked)

  -- ---- along a reading

  module _ (rules : LayoutRules layout) where
    open rules use {Valid, delimiter_member, nested_valid}

    mutual
      unfolding reading_events

      pub reading-walked : {group : Group} {depth : ℕ} {around : ℕ → Bool} {first past : ℕ} (read : Reading input group depth around first past)
          → Valid group
          → (fuel : ℕ) → 3 * (field_count - first) + 1 ≤ fuel
          → walk_with input fuel group depth around first ≡ group_behind (reading_events input read) past
      reading-walked (reading entries inside shallow says body follows) valid zero enough = absurd (omega arith)
      reading-walked {group = group} {depth = depth} {around = around} {first = first} (reading entries inside shallow says body follows) valid (suc fuel) enough =
          group-goes_on fuel group depth around first entries inside shallow says (entries-no_lead input around body follows)
          ∙ rw (entries-walked body valid around entries 0 (omega arith) follows fuel (omega arith), eq-eqb entries entries refl)

      entries-walked : {group : Group} {depth more first past : ℕ} (body : Entries input group depth more first past) → Valid group
          → (around : ℕ → Bool) (declared before : ℕ) → declared ≡ before + more → may_follow input group around declared past ≡ true
          → (fuel : ℕ) → 3 * (field_count - first) + 3 ≤ fuel
          → entries_with input fuel group depth around (Some declared) before first ≡ entries_behind (entries_events input body before) past declared
      entries-walked (no_entry none_left same) valid around declared before in_all follows zero enough = absurd (omega arith)
      entries-walked (entry others second next _ _ _ _ _ _) valid around declared before in_all follows zero enough = absurd (omega arith)
      entries-walked {group = group} {depth = depth} {first = first} {past = past} (no_entry none_left same) valid around declared before in_all follows (suc fuel) enough =
          let all_found : declared ≡ before = omega arith in
          entries-end fuel group depth around (Some declared) before first
          (rw same (follows_begins_not input group around declared past before (delimiter_member group valid) all_found follows)) ∙ (cc)
      entries-walked (entry others second next _ inside _ _ _ _) valid around declared before in_all follows (suc zero) enough = absurd (omega arith)
      entries-walked (entry {group = group} {depth = depth} {first = first} {past = past} others second next one_more inside delimits lead items rest) valid around declared before in_all follows (suc (suc fuel)) enough =
          let lead-on = item-advances input lead in
          let items-on = items_advance input items in
          let stopped = rest-stops input around declared (omega arith) rest follows in
          let counted : 1 + item_count input items ≡ suc (item_count input items) = omega arith in
          let items-read = items_walked items valid stopped fuel (omega arith) in
          let scanned : scan_with input (suc fuel) true group depth [] first ≡ entry_behind (item_events input lead ++ items_events input items) next (suc (item_count input items)) =
          item-walked lead valid inside fuel (omega arith) true [] (entry_stops-first input group first (delimiter_member group valid) inside delimits) refl ∙ rw (items-read, counted) in
          let rest_read = entries-walked rest valid around declared (suc before) (omega arith) follows (suc fuel) (omega arith) in
          entries-go_on (suc fuel) group depth around (Some declared) before first next (item_events input lead ++ items_events input items) (suc (item_count input items))
          (declared_begins input group around declared before first (omega arith) inside delimits) scanned
          ∙ rw (rest_read, append_assoc)

      pub items_walked : {group : Group} {depth : ℕ} {seen : List ℕ} {first past : ℕ} (items : Items input group depth seen first past) → Valid group
          → entry_stops input false group past ≡ true → (fuel : ℕ) → 3 * (field_count - first) + 2 ≤ fuel
          → scan_with input fuel false group depth seen first ≡ entry_behind (items_events input items) past (length seen + item_count input items)
      items_walked (no_item same) valid stopped zero enough = absurd (omega arith)
      items_walked (item next _ _ _ _ _ _) valid stopped zero enough = absurd (omega arith)
      items_walked {group = group} {depth = depth} {seen = seen} {first = first} (no_item same) valid stopped (suc fuel) enough =
          let counted : length seen ≡ length seen + 0 = omega arith in
          entry-ends fuel false group depth seen first (rw same stopped) ∙ (cc)
      items_walked (item {group = group} {depth = depth} {seen = seen} {first = first} next inside member other fresh one rest) valid stopped (suc fuel) enough =
          let one_on = item-advances input one in
          let rest_read = items_walked rest valid stopped fuel (omega arith) in
          let counted : suc (length seen) + item_count input rest ≡ length seen + suc (item_count input rest) = omega arith in
          item-walked one valid inside fuel (omega arith) false seen (entry_stops-goes_on input group first inside member other) fresh ∙ rw (rest_read, counted)

      -- one field, then the rest of the entry
      item-walked : {group : Group} {depth first past : ℕ} (one : Item input group depth first past) → Valid group → first < field_count → (fuel : ℕ)
          → 3 * (field_count - first) + 1 ≤ fuel
          → (at_start : Bool) (seen : List ℕ) → entry_stops input at_start group first ≡ false → tag_at first ∈ᵇ seen ≡ false
          → scan_with input (suc fuel) at_start group depth seen first
          ≡ field_then [] false (group_behind (item_events input one) past) (scan_with input fuel false group depth (tag_at first ∷ seen) past)
      item-walked {group = group} {depth = depth} {first = first} (plain none-nested passed) valid inside fuel enough at_start seen going_on fresh =
          rw passed (field_taken fuel at_start group depth seen first going_on fresh none-nested)
      item-walked {group = group} {depth = depth} {first = first} {past = past} (nested inner found read) valid inside fuel enough at_start seen going_on fresh =
          group-taken fuel at_start group depth seen first going_on fresh inner past (reading_events input read) found
          (reading-walked read (nested_valid group inner (tag_at first) valid found) fuel enough)
