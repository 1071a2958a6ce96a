-- Where the walk of a group raises no fault event, what it passed is a reading, and its events are the reading's. Assumes nothing.
--
--   SoundGroup, SoundEntries, SoundEntry, SoundRest   what a walk without a fault event says of what it gave: of a group, of the rest of its entries,
--                                                     of an entry, of the rest of an entry
use Rattle.std.specs.Prelude.{◌≡◌, ◌⊎◌, Bool, not, List, [], ◌∷◌, ◌++◌, eqb, length, Option, Some, None}
use Rattle.std.proofs.Math.Path.{refl, ap}
use Rattle.std.proofs.Common.{sym, ◌∙◌, true≢false, append_assoc, eqb-true}
use Rattle.std.proofs.Math.Logic.{inl, inr}
use Prim.Native.Nat.{ℕ, zero, suc, ◌+◌, ◌≤◌, ◌<◌}
use Rattle.std.proofs.Math.Bool.{true, false}
use native.Mathlib.Omega.{arith}
use Rattle.events.specs.declared.event.Kind.TheVariants.{Close, Leave}
use Rattle.ascii.specs.Membership.{◌∈ᵇ◌}
use Rattle.events.specs.Events.{NoFault}
use Rattle.events.specs.EventsLaws.{no_fault_left, no_fault_right}
use Rattle.ascii.specs.Membership.{insert_if}
use Rattle.field_table.specs.WalkInput.{Input, count_at, event}
use Rattle.field_table.specs.ReliedRules.{LayoutRules}
use Rattle.group_reading.specs.GroupReading.{Reading, Entries, Items, Item, reading, no_entry, entry, no_item, item, plain, nested, reading_events, entries_events, items_events, item_events, item_count}
use Rattle.group_reading.specs.GroupReadingLaws.{no_entries}
use Rattle.group_reading.specs.GroupSteps.{Opening, outside, too_deep, member_leads_lem, entries_follow, Step, stops, plain_field, nested_group_lem, member_leads, entry_begins, entry_stops, opening_at, step_at}
use Rattle.group_reading.specs.GroupStepsLaws.{entry_stops-within, entry_stops-member, entry_stops-first, entry_begins-delimiter, opening_at-inside, opening_at-entries, step_at-tells}
use Rattle.group_reading.specs.GroupWalk.{WalkedGroup, WalkedEntries, ScannedEntry, bad_count, repeated_tag, ended_by, ended, whole_group, field_then, entry_then, walk_by, entries_by, scan_by}
use Rattle.group_reading.specs.ReadingTheorem.Follow.{follows_behind}

module _ (input : Input) where
  open input use {layout, fields, depth_limit}
  open layout use {Group, delimiter, is_member, nested_group}
  open fields use {field_count, tag_at}

  pub record SoundGroup (group : Group) (depth : ℕ) (around : ℕ → Bool) (index : ℕ) (walk : WalkedGroup) : Type 0 where
    pub read : Reading input group depth around index walk.next
    pub same : walk.events ≡ reading_events input read

  record SoundEntries (group : Group) (depth : ℕ) (around : ℕ → Bool) (declared : Option ℕ) (before cursor : ℕ) (rest : WalkedEntries) : Type 0 where
    pub more : ℕ
    pub read : Entries input group depth more cursor rest.next
    pub same : rest.events ≡ entries_events input read before
    pub parsed : rest.unparseable ≡ false
    pub total : rest.entries ≡ before + more
    pub no_other : entry_begins input group around declared rest.entries rest.next ≡ false
    pub stopped : (more ≡ 0) ⊎ (entry_stops input false group rest.next ≡ true)

  record SoundEntry (group : Group) (depth cursor : ℕ) (scan : ScannedEntry) : Type 0 where
    pub second : ℕ
    pub lead : Item input group depth cursor second
    pub read : Items input group depth (tag_at cursor ∷ []) second scan.next
    pub same : scan.events ≡ item_events input lead ++ items_events input read
    pub parsed : scan.unparseable ≡ false
    pub total : scan.seen ≡ suc (item_count input read)
    pub stopped : entry_stops input false group scan.next ≡ true

  record SoundRest (group : Group) (depth : ℕ) (seen : List ℕ) (cursor : ℕ) (scan : ScannedEntry) : Type 0 where
    pub read : Items input group depth seen cursor scan.next
    pub same : scan.events ≡ items_events input read
    pub parsed : scan.unparseable ≡ false
    pub total : scan.seen ≡ length seen + item_count input read
    pub stopped : entry_stops input false group scan.next ≡ true

  -- what a field, or the nested group that it begins, gives
  record SoundItem (group : Group) (depth cursor : ℕ) (field : WalkedGroup) : Type 0 where
    pub read : Item input group depth cursor field.next
    pub same : field.events ≡ item_events input read

  -- ---- one step, from what its parts say

  -- a group that ends without a fault has as many entries as declared
  ended-sound : (group : Group) (depth : ℕ) (same unparseable : Bool) (declared entries : ℕ) → unparseable ≡ false
      → NoFault (ended_by layout group depth same unparseable declared entries)
      → (same ≡ true) × (ended_by layout group depth same unparseable declared entries ≡ event layout group depth (Leave true entries) ∷ [])
  ended-sound group depth true unparseable declared entries parsed good = (refl, ap (λ wrong. event layout group depth (Leave (not wrong) entries) ∷ []) parsed)
  ended-sound group depth false true declared entries parsed good = absurd (true≢false parsed)
  ended-sound group depth false false declared entries parsed good = absurd (true≢false good.0)

  module _ (group : Group) (depth : ℕ) (around : ℕ → Bool) (index : ℕ) (inside : index < field_count) (shallow : depth ≤ depth_limit) where
    group_ends_lem : (declared : ℕ) (rest : WalkedEntries) → count_at fields index ≡ Some declared
        → member_leads input group around (Some declared) (suc index) ≡ false
        → SoundEntries group depth around (Some declared) 0 (suc index) rest → declared ≡ rest.entries
        → ended layout group depth (Some declared) rest.unparseable rest.entries ≡ event layout group depth (Leave true rest.entries) ∷ []
        → SoundGroup group depth around index (whole_group layout group depth index (Some declared) false [] rest)
    unfolding reading_events
    group_ends_lem declared rest says no_lead sound all_found left =
        let found : declared ≡ sound.more = omega arith in
        record {
          read =
              reading sound.more inside shallow (says ∙ ap Some found) sound.read
              (follows_behind input group around declared sound.more (suc index) rest.next found (no_entries input sound.read) sound.stopped no_lead
              (rw (← all_found) at sound.no_other));
          same = cc (sound.same, left, all_found, found);
        }

    group-step : (declared : Option ℕ) (rest : WalkedEntries) → count_at fields index ≡ declared
        → member_leads input group around declared (suc index) ≡ false
        → (NoFault rest.events → SoundEntries group depth around declared 0 (suc index) rest)
        → NoFault (whole_group layout group depth index declared false [] rest).events
        → SoundGroup group depth around index (whole_group layout group depth index declared false [] rest)
    group-step None rest says no_lead sound good = absurd (true≢false good.1.0)
    group-step (Some declared) rest says no_lead sound good =
        let both : NoFault (rest.events ++ ended layout group depth (Some declared) rest.unparseable rest.entries) = good.1 in
        let entries-sound = sound (no_fault_left rest.events (ended layout group depth (Some declared) rest.unparseable rest.entries) both) in
        let left =
        ended-sound group depth (eqb declared rest.entries) rest.unparseable declared rest.entries entries-sound.parsed
        (no_fault_right (ended layout group depth (Some declared) rest.unparseable rest.entries) rest.events both) in
        group_ends_lem declared rest says no_lead entries-sound (eqb-true declared rest.entries left.0) left.1

  -- an entry, then the rest of the entries
  entries-step : (group : Group) (depth : ℕ) (around : ℕ → Bool) (declared : Option ℕ) (before cursor : ℕ) (scan : ScannedEntry) (rest : WalkedEntries)
      → cursor < field_count → tag_at cursor ≡ delimiter group
      → SoundEntry group depth cursor scan → SoundEntries group depth around declared (suc before) scan.next rest
      → SoundEntries group depth around declared before cursor (entry_then (event layout group depth (Close before scan.seen)) scan rest)
  unfolding reading_events
  entries-step group depth around declared before cursor scan rest inside delimits one others = record {
    more = suc others.more;
    read = entry others.more one.second scan.next refl inside delimits one.lead one.read others.read;
    same = rw (one.same, others.same, one.total, append_assoc);
    parsed = rw (one.parsed, others.parsed);
    total = omega arith;
    no_other = others.no_other;
    stopped = inr (last-stopped others.stopped);
  }
    where
      last-stopped : (others.more ≡ 0) ⊎ (entry_stops input false group rest.next ≡ true) → entry_stops input false group rest.next ≡ true
      last-stopped (inl none-there) = rw (no_entries input others.read none-there) at one.stopped
      last-stopped (inr stopped) = stopped

  -- the first field of an entry, then the rest of the entry
  first-joined : (group : Group) (depth cursor : ℕ) (field : WalkedGroup) (rest : ScannedEntry) → SoundItem group depth cursor field
      → SoundRest group depth (tag_at cursor ∷ []) field.next rest → SoundEntry group depth cursor (field_then [] false field rest)
  unfolding reading_events
  first-joined group depth cursor field rest one others = record {
    second = field.next;
    lead = one.read;
    read = others.read;
    same = rw (one.same, others.same);
    parsed = others.parsed;
    total = omega arith;
    stopped = others.stopped;
  }

  first_step : (group : Group) (depth cursor : ℕ) (field : WalkedGroup) (rest : ScannedEntry)
      → (NoFault field.events → SoundItem group depth cursor field)
      → (NoFault rest.events → SoundRest group depth (tag_at cursor ∷ []) field.next rest)
      → NoFault (field.events ++ rest.events) → SoundEntry group depth cursor (field_then [] false field rest)
  first_step group depth cursor field rest field-sound rest-sound good =
      first-joined group depth cursor field rest
      (field-sound (no_fault_left field.events rest.events good))
      (rest-sound (no_fault_right rest.events field.events good))

  -- a further field, then the rest of the entry
  item-joined : (group : Group) (depth : ℕ) (seen : List ℕ) (cursor : ℕ) (field : WalkedGroup) (rest : ScannedEntry)
      → entry_stops input false group cursor ≡ false
      → tag_at cursor ∈ᵇ seen ≡ false → SoundItem group depth cursor field → SoundRest group depth (tag_at cursor ∷ seen) field.next rest
      → SoundRest group depth seen cursor (field_then [] false field rest)
  unfolding reading_events
  item-joined group depth seen cursor field rest going_on fresh one others =
      let facts = entry_stops-member input group cursor going_on in
      record {
        read = item field.next (entry_stops-within input false group cursor going_on) facts.0 facts.1 fresh one.read others.read;
        same = rw (one.same, others.same);
        parsed = others.parsed;
        total = omega arith;
        stopped = others.stopped;
      }

  item-step : (group : Group) (depth : ℕ) (seen : List ℕ) (cursor : ℕ) (repeated : Bool) (field : WalkedGroup) (rest : List ℕ → ScannedEntry)
      → entry_stops input false group cursor ≡ false
      → tag_at cursor ∈ᵇ seen ≡ repeated
      → (NoFault field.events → SoundItem group depth cursor field)
      → (NoFault (rest (insert_if repeated (tag_at cursor) seen)).events
      → SoundRest group depth (insert_if repeated (tag_at cursor) seen) field.next (rest (insert_if repeated (tag_at cursor) seen)))
      → NoFault (field_then (repeated_tag layout group depth (tag_at cursor) repeated) repeated field (rest (insert_if repeated (tag_at cursor) seen))).events
      → SoundRest group depth seen cursor (field_then (repeated_tag layout group depth (tag_at cursor) repeated) repeated field (rest (insert_if repeated (tag_at cursor) seen)))
  item-step group depth seen cursor true field rest going_on again field-sound rest-sound good = absurd (true≢false good.0)
  item-step group depth seen cursor false field rest going_on fresh field-sound rest-sound good =
      item-joined group depth seen cursor field (rest (tag_at cursor ∷ seen)) going_on fresh
      (field-sound (no_fault_left field.events (rest (tag_at cursor ∷ seen)).events good))
      (rest-sound (no_fault_right (rest (tag_at cursor ∷ seen)).events field.events good))

  plain-sound : (group : Group) (depth cursor : ℕ) → nested_group group (tag_at cursor) ≡ None
      → SoundItem group depth cursor (record { events = []; next = suc cursor })
  unfolding reading_events
  plain-sound group depth cursor none-nested = record { read = plain none-nested refl; same = refl }

  nested-sound : (group inner : Group) (depth cursor : ℕ) (walk : WalkedGroup) → nested_group group (tag_at cursor) ≡ Some inner
      → SoundGroup inner (suc depth) (is_member group) cursor walk → SoundItem group depth cursor walk
  unfolding reading_events
  nested-sound group inner depth cursor walk found sound = record { read = nested inner found sound.read; same = sound.same }

  -- where nothing more is taken
  none-begins : (group : Group) (depth : ℕ) (around : ℕ → Bool) (declared : Option ℕ) (before cursor : ℕ)
      → entry_begins input group around declared before cursor ≡ false
      → SoundEntries group depth around declared before cursor (record { events = []; next = cursor; unparseable = false; entries = before })
  unfolding reading_events
  none-begins group depth around declared before cursor no_other =
      record { more = 0; read = no_entry refl refl; same = refl; parsed = refl; total = omega arith; no_other = no_other; stopped = inl refl }

  nothing_left : (group : Group) (depth : ℕ) (seen : List ℕ) (cursor : ℕ) → entry_stops input false group cursor ≡ true
      → SoundRest group depth seen cursor (record { events = []; next = cursor; unparseable = false; seen = length seen })
  unfolding reading_events
  nothing_left group depth seen cursor stopped = record { read = no_item refl; same = refl; parsed = refl; total = omega arith; stopped = stopped }

  -- ---- the walk

  module _ (rules : LayoutRules layout) where
    open rules use {Valid, delimiter_member, nested_valid}

    mutual
      unfolding walk_by

      pub walk_sound : (fuel : ℕ) (opening : Opening) (group : Group) (depth : ℕ) (around : ℕ → Bool) (index : ℕ) → Valid group → index < field_count
          → opening_at input group depth around index ≡ opening → NoFault (walk_by input fuel opening group depth around index).events
          → SoundGroup group depth around index (walk_by input fuel opening group depth around index)
      walk_sound zero opening group depth around index valid inside opens good = absurd (true≢false good.0)
      walk_sound (suc fuel) outside group depth around index valid inside opens good = opening_at-inside input group depth around index inside opens
      walk_sound (suc fuel) too_deep group depth around index valid inside opens good = absurd (true≢false good.0)
      walk_sound (suc fuel) member_leads_lem group depth around index valid inside opens good =
          absurd (true≢false (no_fault_right _ (bad_count layout group depth index (count_at fields index)) good.1).0)
      walk_sound (suc fuel) entries_follow group depth around index valid inside opens good =
          let facts = opening_at-entries input group depth around index opens in
          group-step group depth around index inside facts.0 (count_at fields index)
          (entries_by input fuel (entry_begins input group around (count_at fields index) 0 (suc index)) group depth around (count_at fields index) 0 (suc index)) refl facts.1
          (λ entries-good. entries-sound fuel (entry_begins input group around (count_at fields index) 0 (suc index)) group depth around (count_at fields index) 0 (suc index) valid refl entries-good)
          good

      entries-sound : (fuel : ℕ) (begins : Bool) (group : Group) (depth : ℕ) (around : ℕ → Bool) (declared : Option ℕ) (before cursor : ℕ) → Valid group
          → entry_begins input group around declared before cursor ≡ begins
          → NoFault (entries_by input fuel begins group depth around declared before cursor).events
          → SoundEntries group depth around declared before cursor (entries_by input fuel begins group depth around declared before cursor)
      entries-sound zero begins group depth around declared before cursor valid begun good = absurd (true≢false good.0)
      entries-sound (suc fuel) false group depth around declared before cursor valid begun good = none-begins group depth around declared before cursor begun
      entries-sound (suc fuel) true group depth around declared before cursor valid begun good =
          let facts = entry_begins-delimiter input group around declared before cursor begun in
          let scan = scan_by input fuel (step_at input true group cursor) group depth [] cursor in
          entries-step group depth around declared before cursor scan
          (entries_by input fuel (entry_begins input group around declared (suc before) scan.next) group depth around declared (suc before) scan.next)
          facts.0 facts.1
          (entry-sound fuel (step_at input true group cursor) group depth cursor valid refl (entry_stops-first input group cursor (delimiter_member group valid) facts.0 facts.1)
          (no_fault_left scan.events _ good))
          (entries-sound fuel (entry_begins input group around declared (suc before) scan.next) group depth around declared (suc before) scan.next valid refl
          (no_fault_right _ scan.events good).1)

      entry-sound : (fuel : ℕ) (step : Step Group) (group : Group) (depth cursor : ℕ) → Valid group → step_at input true group cursor ≡ step
          → entry_stops input true group cursor ≡ false
          → NoFault (scan_by input fuel step group depth [] cursor).events
          → SoundEntry group depth cursor (scan_by input fuel step group depth [] cursor)
      entry-sound zero step group depth cursor valid steps going_on good = absurd (true≢false good.0)
      entry-sound (suc fuel) stops group depth cursor valid steps going_on good = absurd (true≢false (sym ((step_at-tells input true group cursor).stopping steps) ∙ going_on))
      entry-sound (suc fuel) plain_field group depth cursor valid steps going_on good =
          first_step group depth cursor (record { events = []; next = suc cursor }) (scan_by input fuel (step_at input false group (suc cursor)) group depth (tag_at cursor ∷ []) (suc cursor))
          (λ field-good. plain-sound group depth cursor ((step_at-tells input true group cursor).plain steps).1)
          (λ rest-good. rest-sound fuel (step_at input false group (suc cursor)) group depth (tag_at cursor ∷ []) (suc cursor) valid refl rest-good)
          good
      entry-sound (suc fuel) (nested_group_lem inner) group depth cursor valid steps going_on good =
          let found = ((step_at-tells input true group cursor).nesting inner steps).1 in
          let walk = walk_by input fuel (opening_at input inner (suc depth) (is_member group) cursor) inner (suc depth) (is_member group) cursor in
          first_step group depth cursor walk (scan_by input fuel (step_at input false group walk.next) group depth (tag_at cursor ∷ []) walk.next)
          (λ walk-good. nested-sound group inner depth cursor walk found
          (walk_sound fuel (opening_at input inner (suc depth) (is_member group) cursor) inner (suc depth) (is_member group) cursor
          (nested_valid group inner (tag_at cursor) valid found) (entry_stops-within input true group cursor going_on) refl walk-good))
          (λ rest-good. rest-sound fuel (step_at input false group walk.next) group depth (tag_at cursor ∷ []) walk.next valid refl rest-good)
          good

      rest-sound : (fuel : ℕ) (step : Step Group) (group : Group) (depth : ℕ) (seen : List ℕ) (cursor : ℕ) → Valid group
          → step_at input false group cursor ≡ step
          → NoFault (scan_by input fuel step group depth seen cursor).events
          → SoundRest group depth seen cursor (scan_by input fuel step group depth seen cursor)
      rest-sound zero step group depth seen cursor valid steps good = absurd (true≢false good.0)
      rest-sound (suc fuel) stops group depth seen cursor valid steps good = nothing_left group depth seen cursor ((step_at-tells input false group cursor).stopping steps)
      rest-sound (suc fuel) plain_field group depth seen cursor valid steps good =
          let facts = (step_at-tells input false group cursor).plain steps in
          item-step group depth seen cursor (tag_at cursor ∈ᵇ seen) (record { events = []; next = suc cursor })
          (λ seen'. scan_by input fuel (step_at input false group (suc cursor)) group depth seen' (suc cursor)) facts.0 refl
          (λ field-good. plain-sound group depth cursor facts.1)
          (λ rest-good. rest-sound fuel (step_at input false group (suc cursor)) group depth (insert_if (tag_at cursor ∈ᵇ seen) (tag_at cursor) seen) (suc cursor) valid refl rest-good)
          good
      rest-sound (suc fuel) (nested_group_lem inner) group depth seen cursor valid steps good =
          let facts = (step_at-tells input false group cursor).nesting inner steps in
          let walk = walk_by input fuel (opening_at input inner (suc depth) (is_member group) cursor) inner (suc depth) (is_member group) cursor in
          item-step group depth seen cursor (tag_at cursor ∈ᵇ seen) walk
          (λ seen'. scan_by input fuel (step_at input false group walk.next) group depth seen' walk.next) facts.0 refl
          (λ walk-good. nested-sound group inner depth cursor walk facts.1
          (walk_sound fuel (opening_at input inner (suc depth) (is_member group) cursor) inner (suc depth) (is_member group) cursor
          (nested_valid group inner (tag_at cursor) valid facts.1) (entry_stops-within input false group cursor facts.0) refl walk-good))
          (λ rest-good. rest-sound fuel (step_at input false group walk.next) group depth (insert_if (tag_at cursor ∈ᵇ seen) (tag_at cursor) seen) walk.next valid refl rest-good)
          good
