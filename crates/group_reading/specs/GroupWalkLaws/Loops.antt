-- The loops of `scan_entry` and `walk_group`, turn by turn: what is done, then the walk from here, is the whole. What the invariants of code cite.
-- Assumes nothing.
--
--   after_fields events unparseable rest        what fields that gave these events, and then the rest of the entry, give
--   after_entries .. events unparseable rest    what entries that gave these events, and then the rest of the group, give
--   EntrySoFar start .. cursor events          the fields of the entry from `start` up to the cursor are taken, and gave the events
--   GroupSoFar index .. entries cursor events  so many entries of the group at `index` are taken, the last one up to the cursor
use Rattle.std.specs.Prelude.{◌≡◌, refl, ℕ, suc, ◌≤◌, ◌<◌, Bool, true, false, ◌||◌, List, [], ◌∷◌, ◌++◌, length, Option, Some, None}
use Rattle.std.proofs.Common.{◌∙◌, append_assoc, append-nil}
use Rattle.std.proofs.Math.Bool.{or_assoc, or-false}
use Rattle.events.specs.declared.event.Kind.TheVariants.{Enter, Close}
use Rattle.events.specs.declared.event.Event.{Event}
use Rattle.ascii.specs.Membership.{◌∈ᵇ◌}
use Rattle.ascii.specs.Membership.{insert_if}
use Rattle.field_table.specs.WalkInput.{Layout, Input, count_at, event}
use Rattle.field_table.specs.ReliedRules.{LayoutRules}
use Rattle.group_reading.specs.GroupSteps.{member_leads, entry_begins, entry_stops}
use Rattle.group_reading.specs.GroupWalk.{WalkedGroup, WalkedEntries, ScannedEntry, bad_count, repeated_tag, ended, leading_entry, walk_group, walk_entries, scan_entry}
use Rattle.group_reading.specs.GroupWalkLaws.Equations.{walk_group-entries_follow, walk_group-member_leads, walk_entries-ends, walk_entries-goes_on, scan_entry-stops, scan_entry-plain, scan_entry-nested}

abbrev pub after_fields : List Event → Bool → ScannedEntry → ScannedEntry
after_fields events unparseable rest = record {
  events = events ++ rest.events;
  next = rest.next;
  unparseable = unparseable || rest.unparseable;
  seen = rest.seen;
}

abbrev pub after_entries : (layout : Layout) → layout.Group → ℕ → Option ℕ → List Event → Bool → WalkedEntries → WalkedGroup
after_entries layout group depth declared events unparseable rest = record {
  events = events ++ (rest.events ++ ended layout group depth declared (unparseable || rest.unparseable) rest.entries);
  next = rest.next;
}

module _ (input : Input) where
  open input use {layout, fields, depth_limit}
  open layout use {Group, is_member, nested_group}
  open fields use {field_count, tag_at}

  pub record EntrySoFar (start : ℕ) (group : Group) (depth : ℕ) (at_start : Bool) (seen : List ℕ) (cursor : ℕ) (events : List Event) (unparseable : Bool) : Type 0 where
    pub whole : scan_entry input true group depth [] start ≡ after_fields events unparseable (scan_entry input at_start group depth seen cursor)

  pub entry-begins : (start : ℕ) (group : Group) (depth : ℕ) → EntrySoFar start group depth true [] start [] false
  entry-begins start group depth = record { whole = refl }

  pub record GroupSoFar (index : ℕ) (group : Group) (depth : ℕ) (enclosing : ℕ → Bool) (entries cursor : ℕ) (events : List Event) (unparseable : Bool) : Type 0 where
    pub whole : walk_group input group depth enclosing index
        ≡ after_entries layout group depth (count_at fields index) events unparseable (walk_entries input group depth enclosing (count_at fields index) entries cursor)

  module _ (rules : LayoutRules layout) where
    open rules use {Valid}

    -- ---- scan_entry

    module _ (start : ℕ) (group : Group) (depth : ℕ) (at_start : Bool) (seen : List ℕ) (cursor : ℕ) (events : List Event) (unparseable : Bool)
        (valid : Valid group) (so_far : EntrySoFar start group depth at_start seen cursor events unparseable) where
      pub entry-ends : entry_stops input at_start group cursor ≡ true
          → scan_entry input true group depth [] start ≡ record { events = events; next = cursor; unparseable = unparseable; seen = length seen }
      entry-ends stopped = so_far.whole ∙ rw (scan_entry-stops input rules at_start group depth seen cursor valid stopped, append-nil, or-false)

      module _ (going_on : entry_stops input at_start group cursor ≡ false) (repeated : Bool) (is-repeated : tag_at cursor ∈ᵇ seen ≡ repeated) where
        pub entry-takes_field : nested_group group (tag_at cursor) ≡ None
            → EntrySoFar start group depth false (insert_if repeated (tag_at cursor) seen) (suc cursor) (events ++ repeated_tag layout group depth (tag_at cursor) repeated) (unparseable || repeated)
        entry-takes_field none-nested =
            let rest = scan_entry input false group depth (insert_if repeated (tag_at cursor) seen) (suc cursor) in
            record {
              whole =
                  so_far.whole
                  ∙ rw (
                    scan_entry-plain input rules at_start group depth seen cursor valid going_on none-nested,
                    is-repeated,
                    append_assoc events (repeated_tag layout group depth (tag_at cursor) repeated) rest.events,
                    or_assoc unparseable repeated rest.unparseable,
                  );
            }

        pub entry-takes_group : (inner : Group) → nested_group group (tag_at cursor) ≡ Some inner
            → (walk : WalkedGroup) → walk ≡ walk_group input inner (suc depth) (is_member group) cursor
            → EntrySoFar start group depth false (insert_if repeated (tag_at cursor) seen) walk.next
            ((events ++ repeated_tag layout group depth (tag_at cursor) repeated) ++ walk.events) (unparseable || repeated)
        entry-takes_group inner found walk walked =
            let rest = scan_entry input false group depth (insert_if repeated (tag_at cursor) seen) walk.next in
            record {
              whole =
                  so_far.whole
                  ∙ rw (
                    scan_entry-nested input rules at_start group depth seen cursor valid going_on inner found walk walked,
                    is-repeated,
                    append_assoc (events ++ repeated_tag layout group depth (tag_at cursor) repeated) walk.events rest.events,
                    append_assoc events (repeated_tag layout group depth (tag_at cursor) repeated) (walk.events ++ rest.events),
                    or_assoc unparseable repeated rest.unparseable,
                  );
            }

    -- ---- walk_group

    module _ (index : ℕ) (group : Group) (depth : ℕ) (enclosing : ℕ → Bool) (valid : Valid group) where
      module _ (inside : index < field_count) (shallow : depth ≤ depth_limit) where
        pub group-begins : member_leads input group enclosing (count_at fields index) (suc index) ≡ false
            → GroupSoFar index group depth enclosing 0 (suc index) (event layout group depth Enter ∷ bad_count layout group depth index (count_at fields index)) false
        group-begins no_lead = record { whole = walk_group-entries_follow input rules group depth enclosing index valid inside shallow no_lead }

        pub group-leads : member_leads input group enclosing (count_at fields index) (suc index) ≡ true
            → (entry : ScannedEntry) → entry ≡ scan_entry input true group depth [] (suc index)
            → GroupSoFar index group depth enclosing 1 entry.next
            ((event layout group depth Enter ∷ bad_count layout group depth index (count_at fields index)) ++ leading_entry layout group depth (tag_at (suc index)) entry) true
        group-leads leads entry scanned = record {
          whole = walk_group-member_leads input rules group depth enclosing index valid inside shallow leads entry scanned ∙ simp append_assoc;
        }

      module _ (entries cursor : ℕ) (events : List Event) (unparseable : Bool) (so_far : GroupSoFar index group depth enclosing entries cursor events unparseable) where
        pub group-takes_entry : entry_begins input group enclosing (count_at fields index) entries cursor ≡ true
            → (entry : ScannedEntry) → entry ≡ scan_entry input true group depth [] cursor
            → GroupSoFar index group depth enclosing (suc entries) entry.next
            ((events ++ entry.events) ++ (event layout group depth (Close entries entry.seen) ∷ [])) (unparseable || entry.unparseable)
        group-takes_entry begins entry scanned =
            let rest = walk_entries input group depth enclosing (count_at fields index) (suc entries) entry.next in
            record {
              whole =
                  so_far.whole
                  ∙ rw (
                    walk_entries-goes_on input rules group depth enclosing (count_at fields index) entries cursor valid begins entry scanned,
                    or_assoc unparseable entry.unparseable rest.unparseable,
                  ) (simp append_assoc);
            }

        pub group_ends_lem : entry_begins input group enclosing (count_at fields index) entries cursor ≡ false
            → walk_group input group depth enclosing index ≡ record { events = events ++ ended layout group depth (count_at fields index) unparseable entries; next = cursor }
        group_ends_lem no_other = so_far.whole ∙ rw (walk_entries-ends input rules group depth enclosing (count_at fields index) entries cursor valid no_other, or-false)
