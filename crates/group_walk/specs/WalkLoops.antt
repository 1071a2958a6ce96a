-- The loops of `scan_entry`, `scan_wide` and `walk_group` on words: what is done (`GroupWalkLaws/Loops.antt` of group_reading) is written, and the
-- set stands for the tags seen. Assumes nothing.
--
--   EntryWritten ..   the loop of `scan_entry` and `scan_wide`: the fields before the cursor are taken
--   GroupWritten ..   the loop of `walk_group`: so many entries are taken, the last one up to the cursor
use Rattle.std.specs.Prelude.{◌≡◌, refl, ℕ, suc, ◌+◌, ◌*◌, ◌-◌, ◌≤◌, ◌<◌, Bool, true, false, not, ◌||◌, ◌⊎◌, List, [], ◌∷◌, ◌++◌, eqb, length, Option, Some, None}
use Rattle.std.proofs.Common.{sym, ap, subst, ◌∙◌, true≢false, ⊎_elim, append_assoc, append-nil, arith, add-one, eq-eqb, ne_eqb}
use Rattle.std.proofs.Math.Decide.{ℕ_discrete}
use Rattle.layouts.specs.Limits.{gate_limits}
use Rattle.layouts.specs.LayoutWords.{group_count, level_members, count_tag_at}
use Rattle.layouts.specs.LayoutCheckFacts.{Passed}
use Rattle.events.specs.declared.event.Kind.TheVariants.{Enter, Close, Delim, Deep}
use Rattle.events.specs.declared.event.Event.{Event}
use Rattle.ascii.specs.Membership.{◌∈ᵇ◌}
use Rattle.entry_tags.specs.EntryTags.{no_ranks, holds_rank, insert_rank, rank_count, TagsSeen}
use Rattle.ascii.specs.Membership.{insert_if}
use Rattle.entry_tags.specs.EntryTagsLaws.{seen-empty, seen-count, seen-holds, seen-insert}
use Rattle.field_table.specs.FieldTable.{row_count, tag_of, fields_of}
use Rattle.field_table.specs.WalkInput.{Input, count_at, event}
use Rattle.events.specs.EventSpaceLaws.{Wrote, wrote_none, wrote_then}
use Rattle.group_reading.specs.GroupSteps.{member_leads, entry_begins, entry_stops}
use Rattle.group_reading.specs.GroupStepsLaws.{entry_stops-within, entry_stops-first, entry_begins-delimiter, member_leads-taken}
use Rattle.group_reading.specs.GroupWalk.{WalkedGroup, ScannedEntry, bad_count, repeated_tag, leading_entry, walk_group, scan_entry}
use Rattle.group_reading.specs.GroupWalkLaws.Equations.{walk_group-outside, walk_group-too_deep}
use Rattle.group_reading.specs.GroupWalkLaws.EventBound.{walk_group-passes, walk_group-few_events}
use Rattle.group_reading.specs.GroupWalkLaws.Loops.{EntrySoFar, entry-begins, entry-ends, entry-takes_field, entry-takes_group, GroupSoFar, group-begins, group-leads, group-takes_entry, group_ends_lem}
use Rattle.walk_steps.specs.WalkWords.{among, layout_of, group_of, input_of}
use Rattle.walk_steps.specs.WalkWordsLaws.{rank_of}
use Rattle.walk_steps.specs.WalkWordsLaws.{member-found, rank_of_found, rank_of_low, rank_of_apart, group_of_number, layout_of_rules}
use Rattle.walk_steps.specs.WordStepsLaws.{FieldHere}
use Rattle.walk_steps.specs.WrittenEvents.{tag_event, begun_by, repeat_by, left_by}
use Rattle.walk_steps.specs.WrittenEventsLaws.{begun-few, repeat_few, begun-is, repeat_is, left_is}
use Rattle.group_walk.specs.WalkPromises.{Walks, Scans}

not-not : (a : Bool) → not (not a) ≡ a
not-not true = refl
not-not false = refl

-- the same states, with the numbers that code has
module _ (input : Input) where
  moved-entry : {start : ℕ} {group : input.layout.Group} {depth : ℕ} {seen : List ℕ} {next : ℕ} {events : List Event} {unparseable : Bool}
      → EntrySoFar input start group depth false seen next events unparseable
      → (at_start : Bool) → at_start ≡ false → (next' : ℕ) → next' ≡ next → (unparseable' : Bool) → unparseable' ≡ unparseable
      → EntrySoFar input start group depth at_start seen next' events unparseable'
  moved-entry so_far at_start is-start next' is-next unparseable' is-unparseable = rw (is-start, is-next, is-unparseable) so_far

  moved-group : {index : ℕ} {group : input.layout.Group} {depth : ℕ} {enclosing : ℕ → Bool} {entries next : ℕ} {events : List Event} {unparseable : Bool}
      → GroupSoFar input index group depth enclosing entries next events unparseable
      → (entries' : ℕ) → entries' ≡ entries → (next' : ℕ) → next' ≡ next → (unparseable' : Bool) → unparseable' ≡ unparseable
      → GroupSoFar input index group depth enclosing entries' next' events unparseable'
  moved-group so_far entries' is-entries next' is-next unparseable' is-unparseable = rw (is-entries, is-next, is-unparseable) so_far

-- ---- an entry

module _ (words fields message : List ℕ) (group start depth : ℕ) (before : List ℕ) (at : ℕ) where
  pub record EntryWritten (width : ℕ) (after tags : List ℕ) (cursor : ℕ) (unparseable : Bool) (to : ℕ) : Type 0 where
    pub done : List Event
    pub seen : List ℕ
    pub so_far : EntrySoFar (input_of words fields message) start group depth (eqb cursor start) seen cursor done unparseable
    pub kept : TagsSeen tags width (length (level_members words (1 + group))) (among (level_members words (1 + group))) (rank_of (level_members words (1 + group))) seen
    pub wrote : Wrote before after at to done
    pub ahead : start ≤ cursor
    pub within : cursor ≤ row_count fields
    pub room : to + 25 * start ≤ at + 25 * cursor
    pub gain : start < cursor → to + 5 + 25 * start ≤ at + 25 * cursor

module _ (words fields message : List ℕ) (passed : Passed gate_limits words) (group : ℕ) (valid : group < group_count words) (start depth : ℕ) (before : List ℕ) (at : ℕ) where
  pub entry-starts : (width : ℕ) (tags : List ℕ) → tags ≡ no_ranks width → length (level_members words (1 + group)) ≤ 64 * width → start < row_count fields
      → EntryWritten words fields message group start depth before at width before tags start false at
  entry-starts width tags empty fits inside = record {
    done = [];
    seen = [];
    so_far = rw (eq-eqb start start refl) (entry-begins (input_of words fields message) start group depth);
    kept =
        rw empty
        (seen-empty width (length (level_members words (1 + group))) (among (level_members words (1 + group))) (rank_of (level_members words (1 + group)))
        (rank_of_low (level_members words (1 + group))) (rank_of_apart (level_members words (1 + group))) fits);
    wrote = wrote_none before at;
    ahead = omega arith;
    within = omega arith;
    room = omega arith;
    gain = λ later. absurd (omega arith);
  }

  module _ (width : ℕ) (after tags : List ℕ) (cursor : ℕ) (unparseable : Bool) (to : ℕ) (written : EntryWritten words fields message group start depth before at width after tags cursor unparseable to) where
    module _ (rank tag : ℕ) (here : FieldHere words fields message group start cursor rank tag) where
      pub field_inside : cursor < row_count fields
      field_inside = entry_stops-within (input_of words fields message) (eqb cursor start) group cursor here.goes_on

      is_member : among (level_members words (1 + group)) (tag_of fields cursor) ≡ true
      is_member = rw (← here.tag_is) (member-found (level_members words (1 + group)) tag rank here.ranked)

      rank_is : rank ≡ rank_of (level_members words (1 + group)) (tag_of fields cursor)
      rank_is = rw (← here.tag_is) (rank_of_found (level_members words (1 + group)) tag rank here.ranked)

      pub rank_low : rank < length (level_members words (1 + group))
      rank_low = omega (arith, rank_is, rank_of_low (level_members words (1 + group)) (tag_of fields cursor) is_member)

      -- whether the tag repeats
      abbrev repeats : Bool
      repeats = tag_of fields cursor ∈ᵇ written.seen

      module _ (tags' : List ℕ) (fresh : Bool) (inserted : tags' ≡ insert_rank tags rank) (is-fresh : fresh ≡ not (holds_rank tags rank)) where
        held : holds_rank tags rank ≡ repeats
        held =
            ap (holds_rank tags) rank_is
            ∙ (seen-holds width (length (level_members words (1 + group))) (among (level_members words (1 + group))) (rank_of (level_members words (1 + group)))
            (rank_of_low (level_members words (1 + group))) (rank_of_apart (level_members words (1 + group))) tags written.seen written.kept (tag_of fields cursor) is_member)

        fresh_repeats : fresh ≡ not repeats
        fresh_repeats = is-fresh ∙ ap not held

        kept_next : TagsSeen tags' width (length (level_members words (1 + group))) (among (level_members words (1 + group))) (rank_of (level_members words (1 + group)))
            (insert_if repeats (tag_of fields cursor) written.seen)
        kept_next =
            subst (λ (set : List ℕ).
            TagsSeen set width (length (level_members words (1 + group))) (among (level_members words (1 + group))) (rank_of (level_members words (1 + group)))
            (insert_if repeats (tag_of fields cursor) written.seen))
            (sym (inserted ∙ ap (insert_rank tags) rank_is))
            (seen-insert width (length (level_members words (1 + group))) (among (level_members words (1 + group))) (rank_of (level_members words (1 + group)))
            (rank_of_low (level_members words (1 + group))) (rank_of_apart (level_members words (1 + group))) tags written.seen written.kept (tag_of fields cursor) is_member)

        module _ (count_tag_lem : ℕ) (is-count-tag : count_tag_lem ≡ count_tag_at words group) (between : List ℕ) (middle : ℕ)
            (wrote-repeat : Wrote after between to middle (repeat_by count_tag_lem depth tag fresh)) where
          pub repeat_room : middle ≤ to + 5
          repeat_room = omega (arith, wrote-repeat.next_is, repeat_few count_tag_lem depth tag fresh)

          wrote-repeated : Wrote after between to middle (repeated_tag (layout_of words) group depth (tag_of fields cursor) repeats)
          wrote-repeated =
              let same : repeat_by count_tag_lem depth tag fresh ≡ repeated_tag (layout_of words) group depth (tag_of fields cursor) repeats =
              repeat_is (layout_of words) group count_tag_lem is-count-tag depth tag repeats fresh fresh_repeats ∙ rw here.tag_is in
              rw same at wrote-repeat

          module _ (unparseable' : Bool) (is-unparseable : unparseable' ≡ (unparseable || not fresh)) where
            spoilt_is : unparseable' ≡ (unparseable || repeats)
            spoilt_is = is-unparseable ∙ ap (λ (other : Bool). unparseable || other) (ap not fresh_repeats ∙ not-not repeats)

            pub entry-adds_plain : group_of words (1 + group) (tag_of fields cursor) ≡ None → EntryWritten words fields message group start depth before at width between tags' (cursor + 1) unparseable' middle
            entry-adds_plain no_group =
                let later : eqb (cursor + 1) start ≡ false = ne_eqb (cursor + 1) start (λ (same : cursor + 1 ≡ start). omega (arith, same, written.ahead)) in
                record {
                  done = written.done ++ repeated_tag (layout_of words) group depth (tag_of fields cursor) repeats;
                  seen = insert_if repeats (tag_of fields cursor) written.seen;
                  so_far =
                      moved-entry (input_of words fields message)
                      (entry-takes_field (input_of words fields message) (layout_of_rules words passed) start group depth (eqb cursor start) written.seen cursor written.done unparseable
                      valid written.so_far here.goes_on repeats refl no_group)
                      (eqb (cursor + 1) start) later (cursor + 1) (add-one cursor) unparseable' spoilt_is;
                  kept = kept_next;
                  wrote = wrote_then written.wrote wrote-repeated;
                  ahead = omega (arith, written.ahead);
                  within = omega (arith, field_inside);
                  room = omega (arith, written.room, repeat_room);
                  gain = λ later. omega (arith, written.room, repeat_room);
                }

            module _ (inner : ℕ) (nests : group_of words (1 + group) (tag_of fields cursor) ≡ Some inner) where
              pub inner-valid : inner < group_count words
              inner-valid = group_of_number words passed (1 + group) (tag_of fields cursor) inner (omega arith) nests

              module _ (after' : List ℕ) (members : List ℕ) (to' next : ℕ) (are-members : members ≡ level_members words (1 + group))
                  (walks : Walks words fields message members inner cursor (depth + 1) between after' middle to' next) where
                abbrev walked : WalkedGroup
                walked = walk_group (input_of words fields message) inner (suc depth) (among (level_members words (1 + group))) cursor

                same-walk : walk_group (input_of words fields message) inner (depth + 1) (among members) cursor ≡ walked
                same-walk =
                    ap (λ (below : ℕ). walk_group (input_of words fields message) inner below (among members) cursor) (add-one depth)
                    ∙ ap (λ (around : List ℕ). walk_group (input_of words fields message) inner (suc depth) (among around) cursor) are-members

                walked_next : next ≡ walked.next
                walked_next = walks.next_is ∙ ap (λ (walk : WalkedGroup). walk.next) same-walk

                walked_on : (cursor < walked.next) × (walked.next ≤ row_count fields)
                walked_on =
                    walk_group-passes (input_of words fields message) (layout_of_rules words passed) inner (suc depth) (among (level_members words (1 + group))) cursor inner-valid
                    field_inside

                walked-few : 5 * length walked.events + 10 + 25 * cursor ≤ 25 * walked.next
                walked-few =
                    let few =
                    walk_group-few_events (input_of words fields message) (layout_of_rules words passed) inner (suc depth) (among (level_members words (1 + group))) cursor inner-valid
                    field_inside in
                    omega (arith, walked_on.0, few)

                wrote-walked : Wrote between after' middle to' walked.events
                wrote-walked = rw same-walk at walks.wrote

                pub nested-moves : cursor < next
                nested-moves = omega (arith, walked_next, walked_on.0)

                pub entry-adds_nested : EntryWritten words fields message group start depth before at width after' tags' next unparseable' to'
                entry-adds_nested =
                    let later : eqb next start ≡ false = ne_eqb next start (λ (same : next ≡ start). omega (arith, same, written.ahead, nested-moves)) in
                    record {
                      done = (written.done ++ repeated_tag (layout_of words) group depth (tag_of fields cursor) repeats) ++ walked.events;
                      seen = insert_if repeats (tag_of fields cursor) written.seen;
                      so_far =
                          moved-entry (input_of words fields message)
                          (entry-takes_group (input_of words fields message) (layout_of_rules words passed) start group depth (eqb cursor start) written.seen cursor written.done unparseable
                          valid written.so_far here.goes_on repeats refl inner nests walked refl)
                          (eqb next start) later next walked_next unparseable' spoilt_is;
                      kept = kept_next;
                      wrote = wrote_then (wrote_then written.wrote wrote-repeated) wrote-walked;
                      ahead = omega (arith, written.ahead, nested-moves);
                      within = omega (arith, walked_next, walked_on.1);
                      room = omega (arith, walked_next, written.room, repeat_room, wrote-walked.next_is, walked-few);
                      gain = λ later. omega (arith, walked_next, written.room, repeat_room, wrote-walked.next_is, walked-few);
                    }

    -- the entry ends before the cursor
    pub entry-stopped : entry_stops (input_of words fields message) true group start ≡ false → entry_stops (input_of words fields message) (eqb cursor start) group cursor ≡ true
        → (count : ℕ) → count ≡ rank_count tags (length (level_members words (1 + group))) → Scans words fields message group start depth before after at to cursor count unparseable
    entry-stopped taken stopped count counted =
        let whole =
        entry-ends (input_of words fields message) (layout_of_rules words passed) start group depth (eqb cursor start) written.seen cursor written.done unparseable valid written.so_far
        stopped in
        let later : start < cursor = moved (ℕ_discrete cursor start) in
        let distinct =
        seen-count width (length (level_members words (1 + group))) (among (level_members words (1 + group))) (rank_of (level_members words (1 + group)))
        (rank_of_low (level_members words (1 + group))) (rank_of_apart (level_members words (1 + group))) tags written.seen written.kept in
        record {
          wrote = rw whole written.wrote;
          next_is = sym (ap (λ (entry : ScannedEntry). entry.next) whole);
          seen_is = counted ∙ distinct ∙ sym (ap (λ (entry : ScannedEntry). entry.seen) whole);
          unparseable_is = sym (ap (λ (entry : ScannedEntry). entry.unparseable) whole);
          moves = later;
          within = written.within;
          few = written.gain later;
        }
      where
        moved : Dec (cursor ≡ start) → start < cursor
        moved (yes same) =
            let stopped' : entry_stops (input_of words fields message) true group start ≡ true = rw (eq-eqb cursor start same, same) at stopped in
            absurd (true≢false (sym stopped' ∙ taken))
        moved (no differ) = omega (arith, differ, written.ahead)

-- ---- a group

regroup : (these those others last : List Event) → ((these ++ those) ++ others) ++ last ≡ these ++ ((those ++ others) ++ last)
regroup these those others last = simp append_assoc

-- the events at the start of a group
abbrev opened : (words fields message : List ℕ) (group depth index : ℕ) → List Event
opened words fields message group depth index =
    event (layout_of words) group depth Enter ∷ bad_count (layout_of words) group depth index (count_at (fields_of fields message) index)

-- `before` and `at` are those behind the events at the start of the group
module _ (words fields message enclosing : List ℕ) (group index depth : ℕ) (before : List ℕ) (at : ℕ) where
  pub record GroupWritten (after : List ℕ) (to cursor entries : ℕ) (unparseable : Bool) : Type 0 where
    pub done : List Event
    pub wrote : Wrote before after at to done
    -- all events of the group so far
    pub events : List Event
    pub events_are : events ≡ opened words fields message group depth index ++ done
    -- where no entry is taken yet, that is so if no member leads
    pub so_far : (entries ≡ 0 → member_leads (input_of words fields message) group (among enclosing) (count_at (fields_of fields message) index) cursor ≡ false)
        → GroupSoFar (input_of words fields message) index group depth (among enclosing) entries cursor events unparseable
    pub first : entries ≡ 0 → (cursor ≡ suc index) × (done ≡ [])
    pub ahead : entries + index < cursor
    pub within : cursor ≤ row_count fields
    pub room : to + 10 ≤ 25 * cursor
    pub lead_room : entries ≡ 0 → to + 15 ≤ 25 * cursor

  -- an entry opens at the cursor, by its delimiter or by a member that leads: the events written then, and what the scan of the entry adds
  pub record EntryOpened (count_tag_lem cursor entries : ℕ) (between : List ℕ) (middle : ℕ) (spoilt : Bool) : Type 0 where
    pub inside : cursor < row_count fields
    pub taken : entry_stops (input_of words fields message) true group cursor ≡ false
    pub room : middle + 10 ≤ 25 * cursor
    pub adds : (after₁ : List ℕ) (to₁ next seen : ℕ) (unparseable : Bool) → Scans words fields message group cursor depth between after₁ middle to₁ next seen unparseable
        → (after₂ : List ℕ) (to₂ : ℕ) → Wrote after₁ after₂ to₁ to₂ (tag_event count_tag_lem depth (Close entries seen) ∷ [])
        → (unparseable' : Bool) → unparseable' ≡ (spoilt || unparseable)
        → GroupWritten after₂ to₂ next (entries + 1) unparseable'

module _ (words fields message enclosing : List ℕ) (passed : Passed gate_limits words) (group : ℕ) (valid : group < group_count words) (index depth : ℕ) where
  module _ (before : List ℕ) (at : ℕ) where
    module _ (inside : index < row_count fields) (shallow : depth ≤ 32) (declared : Option ℕ) (is-count : declared ≡ count_at (fields_of fields message) index)
        (count_tag_lem : ℕ) (is-count-tag : count_tag_lem ≡ count_tag_at words group) where
      pub group-starts : at + 15 ≤ 25 * (index + 1) → GroupWritten words fields message enclosing group index depth before at before at (index + 1) 0 false
      group-starts room =
          record {
            done = [];
            wrote = wrote_none before at;
            events = opened words fields message group depth index;
            events_are = sym (append-nil (opened words fields message group depth index));
            so_far = λ no_lead.
                rw add-one
                (group-begins (input_of words fields message) (layout_of_rules words passed) index group depth (among enclosing) valid inside shallow (rw (add-one index) at (no_lead refl)));
            first = λ none_yet. (omega arith, refl);
            ahead = omega arith;
            within = omega arith;
            room = omega arith;
            lead_room = λ none_yet. omega arith;
          }

      module _ (after : List ℕ) (to cursor entries : ℕ) (unparseable : Bool) (written : GroupWritten words fields message enclosing group index depth before at after to cursor entries unparseable) where
        -- another entry begins
        module _ (begins : entry_begins (input_of words fields message) group (among enclosing) declared entries cursor ≡ true) where
          pub entry-inside : cursor < row_count fields
          entry-inside = (entry_begins-delimiter (input_of words fields message) group (among enclosing) declared entries cursor begins).0

          pub entry-taken : entry_stops (input_of words fields message) true group cursor ≡ false
          entry-taken =
              let facts = entry_begins-delimiter (input_of words fields message) group (among enclosing) declared entries cursor begins in
              entry_stops-first (input_of words fields message) group cursor ((layout_of_rules words passed).delimiter_member group valid) facts.0 facts.1

          module _ (no_lead : entries ≡ 0 → member_leads (input_of words fields message) group (among enclosing) declared cursor ≡ false)
              (after₁ : List ℕ) (to₁ next seen : ℕ) (spoilt : Bool) (scans : Scans words fields message group cursor depth after after₁ to to₁ next seen spoilt)
              (after₂ : List ℕ) (to₂ : ℕ) (wrote-close : Wrote after₁ after₂ to₁ to₂ (tag_event count_tag_lem depth (Close entries seen) ∷ []))
              (unparseable' : Bool) (is-unparseable : unparseable' ≡ (unparseable || spoilt)) where
            abbrev entry_here : ScannedEntry
            entry_here = scan_entry (input_of words fields message) true group depth [] cursor

            pub group-adds_entry : GroupWritten words fields message enclosing group index depth before at after₂ to₂ next (entries + 1) unparseable'
            group-adds_entry =
                let close-is = wrote-close.next_is in
                let few = scans.few in
                record {
                  done = (written.done ++ entry_here.events) ++ (event (layout_of words) group depth (Close entries entry_here.seen) ∷ []);
                  wrote = wrote_then (wrote_then written.wrote scans.wrote) (rw (is-count-tag, scans.seen_is) at wrote-close);
                  events = (written.events ++ entry_here.events) ++ (event (layout_of words) group depth (Close entries entry_here.seen) ∷ []);
                  events_are =
                      ap (λ (all : List Event). (all ++ entry_here.events) ++ (event (layout_of words) group depth (Close entries entry_here.seen) ∷ [])) written.events_are
                      ∙ regroup (opened words fields message group depth index) written.done entry_here.events (event (layout_of words) group depth (Close entries entry_here.seen) ∷ []);
                  so_far = λ _.
                      moved-group (input_of words fields message)
                      (group-takes_entry (input_of words fields message) (layout_of_rules words passed) index group depth (among enclosing) valid entries cursor written.events unparseable
                      (written.so_far (rw is-count at no_lead)) (rw is-count at begins) entry_here refl)
                      (entries + 1) (add-one entries) next scans.next_is unparseable' (is-unparseable ∙ ap (λ (other : Bool). unparseable || other) scans.unparseable_is);
                  first = λ (none_yet : entries + 1 ≡ 0). absurd (omega (arith, none_yet));
                  ahead = omega (arith, written.ahead, scans.moves);
                  within = scans.within;
                  room = omega (arith, written.room, few, close-is);
                  lead_room = λ (none_yet : entries + 1 ≡ 0). absurd (omega (arith, none_yet));
                }

        -- a member leads
        module _ (none_yet : entries ≡ 0) (leads : member_leads (input_of words fields message) group (among enclosing) declared cursor ≡ true) where
          pub lead-taken : entry_stops (input_of words fields message) true group cursor ≡ false
          lead-taken = member_leads-taken (input_of words fields message) group (among enclosing) declared cursor leads

          pub lead-inside : cursor < row_count fields
          lead-inside = entry_stops-within (input_of words fields message) true group cursor lead-taken

          module _ (tag : ℕ) (is-tag : tag ≡ tag_of fields cursor) (between : List ℕ) (middle : ℕ) (wrote-delim : Wrote after between to middle (tag_event count_tag_lem depth (Delim tag) ∷ [])) where
            pub delim_room : middle + 10 ≤ 25 * cursor
            delim_room = omega (arith, written.lead_room none_yet, wrote-delim.next_is)

            module _ (after₁ : List ℕ) (to₁ next seen : ℕ) (spoilt : Bool) (scans : Scans words fields message group cursor depth between after₁ middle to₁ next seen spoilt)
                (after₂ : List ℕ) (to₂ : ℕ) (wrote-close : Wrote after₁ after₂ to₁ to₂ (tag_event count_tag_lem depth (Close entries seen) ∷ [])) where
              abbrev entry_first : ScannedEntry
              entry_first = scan_entry (input_of words fields message) true group depth [] (suc index)

              at_first : cursor ≡ suc index
              at_first = (written.first none_yet).0

              wrote-leading : Wrote before after₂ at to₂ (leading_entry (layout_of words) group depth (tag_of fields (suc index)) entry_first)
              wrote-leading =
                  wrote_then (rw (written.first none_yet).1 at written.wrote)
                  (wrote_then (rw (is-count-tag, is-tag, at_first) at wrote-delim)
                  (wrote_then (rw at_first at scans.wrote) (rw (is-count-tag, none_yet, scans.seen_is, at_first) at wrote-close)))

              pub group-adds_lead : GroupWritten words fields message enclosing group index depth before at after₂ to₂ next (entries + 1) true
              group-adds_lead =
                  let close-is = wrote-close.next_is in
                  let few = scans.few in
                  let fits = delim_room in
                  record {
                    done = leading_entry (layout_of words) group depth (tag_of fields (suc index)) entry_first;
                    wrote = wrote-leading;
                    events = opened words fields message group depth index ++ leading_entry (layout_of words) group depth (tag_of fields (suc index)) entry_first;
                    events_are = refl;
                    so_far = λ _.
                        moved-group (input_of words fields message)
                        (group-leads (input_of words fields message) (layout_of_rules words passed) index group depth (among enclosing) valid inside shallow (rw (is-count, at_first) at leads) entry_first
                        refl)
                        (entries + 1) (omega (arith, none_yet)) next
                        (scans.next_is ∙ ap (λ (place : ℕ). (scan_entry (input_of words fields message) true group depth [] place).next) at_first) true refl;
                    first = λ (none_yet : entries + 1 ≡ 0). absurd (omega (arith, none_yet));
                    ahead = omega (arith, written.ahead, scans.moves);
                    within = scans.within;
                    room = omega (arith, fits, few, close-is);
                    lead_room = λ (none_yet : entries + 1 ≡ 0). absurd (omega (arith, none_yet));
                  }

        -- either way an entry opens
        pub entry-opens : entry_begins (input_of words fields message) group (among enclosing) declared entries cursor ≡ true
            → (entries ≡ 0 → member_leads (input_of words fields message) group (among enclosing) declared cursor ≡ false)
            → (between : List ℕ) → between ≡ after → (middle : ℕ) → middle ≡ to → (spoilt : Bool) → spoilt ≡ unparseable
            → EntryOpened words fields message enclosing group index depth before at count_tag_lem cursor entries between middle spoilt
        entry-opens begins no_lead between is-between middle is-middle spoilt is-spoilt = rw (is-between, is-middle, is-spoilt) (record {
          inside = entry-inside begins;
          taken = entry-taken begins;
          room = written.room;
          adds = group-adds_entry begins no_lead;
        })

        pub lead-opens : (none_yet : entries ≡ 0) (leads : member_leads (input_of words fields message) group (among enclosing) declared cursor ≡ true)
            → (tag : ℕ) → tag ≡ tag_of fields cursor → (after' : List ℕ) (to' : ℕ) → Wrote after after' to to' (tag_event count_tag_lem depth (Delim tag) ∷ [])
            → (between : List ℕ) → between ≡ after' → (middle : ℕ) → middle ≡ to' → (spoilt : Bool) → spoilt ≡ true
            → EntryOpened words fields message enclosing group index depth before at count_tag_lem cursor entries between middle spoilt
        lead-opens none_yet leads tag is-tag after' to' wrote-delim between is-between middle is-middle spoilt is-spoilt = rw (is-between, is-middle, is-spoilt) (record {
          inside = lead-inside none_yet leads;
          taken = lead-taken none_yet leads;
          room = delim_room none_yet leads tag is-tag after' to' wrote-delim;
          adds = λ after₁ to₁ next seen here scans after₂ to₂ wrote-close unparseable' is-unparseable.
              rw is-unparseable (group-adds_lead none_yet leads tag is-tag after' to' wrote-delim after₁ to₁ next seen here scans after₂ to₂ wrote-close);
        })

        pub one-opens : {A B : Type 0} (between : List ℕ) (middle : ℕ) (spoilt : Bool)
            → (A → EntryOpened words fields message enclosing group index depth before at count_tag_lem cursor entries between middle spoilt)
            → (B → EntryOpened words fields message enclosing group index depth before at count_tag_lem cursor entries between middle spoilt)
            → A ⊎ B → EntryOpened words fields message enclosing group index depth before at count_tag_lem cursor entries between middle spoilt
        one-opens between middle spoilt by-delimiter by-member came = ⊎_elim by-delimiter by-member came

        -- the group ends before the cursor
        pub group-ended : entry_begins (input_of words fields message) group (among enclosing) declared entries cursor ≡ false
            → (entries ≡ 0 → member_leads (input_of words fields message) group (among enclosing) declared cursor ≡ false)
            → (before₀ : List ℕ) (at₀ : ℕ) → Wrote before₀ before at₀ at (begun_by count_tag_lem depth index declared)
            → (after₁ : List ℕ) (to₁ : ℕ) → Wrote after after₁ to to₁ (left_by count_tag_lem depth declared unparseable entries)
            → Walks words fields message enclosing group index depth before₀ after₁ at₀ to₁ cursor
        group-ended no_other no_lead before₀ at₀ wrote-begun after₁ to₁ wrote-left =
            let walk =
            group_ends_lem (input_of words fields message) (layout_of_rules words passed) index group depth (among enclosing) valid entries cursor written.events unparseable
            (written.so_far (rw is-count at no_lead)) (rw is-count at no_other) in
            let begun : Wrote before₀ before at₀ at (opened words fields message group depth index) =
            rw (begun-is (layout_of words) group count_tag_lem is-count-tag depth index declared, is-count) at wrote-begun in
            record {
              wrote =
                  rw (walk, written.events_are)
                  (wrote_then (wrote_then begun written.wrote) (rw (left_is (layout_of words) group count_tag_lem is-count-tag depth declared unparseable entries, is-count) at wrote-left));
              next_is = sym (ap (λ (walk : WalkedGroup). walk.next) walk);
            }

  -- ---- where there is no loop

  pub walk_outside : row_count fields ≤ index → (space : List ℕ) (at : ℕ) → Walks words fields message enclosing group index depth space space at at index
  walk_outside over space at =
      let walk = walk_group-outside (input_of words fields message) (layout_of_rules words passed) group depth (among enclosing) index over in
      record {
        wrote = rw walk (wrote_none space at);
        next_is = sym (ap (λ (walk : WalkedGroup). walk.next) walk);
      }

  pub walk_too_deep : index < row_count fields → 32 < depth → (count_tag_lem : ℕ) → count_tag_lem ≡ count_tag_at words group
      → (before after : List ℕ) (at next : ℕ) → Wrote before after at next (tag_event count_tag_lem depth Deep ∷ []) → Walks words fields message enclosing group index depth before after at next (index + 1)
  walk_too_deep inside deep count_tag_lem is-count-tag before after at next wrote =
      let walk = walk_group-too_deep (input_of words fields message) (layout_of_rules words passed) group depth (among enclosing) index valid inside deep in
      record {
        wrote = rw (walk, ← is-count-tag) wrote;
        next_is = omega (arith, ap (λ (walk : WalkedGroup). walk.next) walk);
      }

-- the place behind the events at the start of a group
pub begun-room : (tag depth index : ℕ) (declared : Option ℕ) {before after : List ℕ} {at next : ℕ} → Wrote before after at next (begun_by tag depth index declared) → at ≤ 25 * index
    → next + 15 ≤ 25 * (index + 1)
begun-room tag depth index declared wrote room = omega (arith, wrote.next_is, begun-few tag depth index declared)
