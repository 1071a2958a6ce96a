-- What the call `walk_group` tells of a top group (document 01, 'Reading of a group'): for lent layout words that pass the check, an accepted field
-- table, a position inside it, a top group, and space for the events of its walk. The call is meant by its contract: it answers `walked_of` and leaves
-- `events_in` (`WalkCall.antt`). The readings are those of `GroupReading.antt` of group_reading at the words' input (`WalkWords.antt`). Assumes nothing.
-- That a group's number, its members, its delimiter and its nested groups are those of the layout with whose arrangement the words begin is
-- `top-group_read` and `walk_reads_layout` (`LayoutLookups.antt` of walk_steps).
--
--   is_fault_number number          the number is that of a kind of fault event
--   NoFaultWords space count      none of the first `count` events in the words is a fault event
--   CallFinds ..                  what the call tells
--   call-finds-readings           that it does
use Rattle.std.specs.Prelude.{◌≡◌, refl, ◌↔◌, ℕ, zero, suc, ◌+◌, ◌*◌, ◌-◌, ◌≤◌, ◌<◌, Bool, true, false, List, [], ◌∷◌, ◌++◌, length, get_or, take, drop, Some, Ok}
use Rattle.std.proofs.Common.{sym, ap, subst, ◌∙◌, arith, take_at, drop_at}
use borrow.Author.Tests.{le-leb}
use Rattle.layouts.specs.Limits.{gate_limits}
use Rattle.layouts.specs.LayoutCheck.{is_layout}
use Rattle.layouts.specs.LayoutCheckFacts.{Passed, is_layout-passed}
use Rattle.events.specs.declared.event.Event.{Event}
use Rattle.ascii.specs.Membership.{◌∈ᵇ◌}
use Rattle.events.specs.Events.{kind_number, is_fault, NoFault, of_groups, event_words, events_words}
use Rattle.events.specs.EventsLaws.{no_fault_of_groups}
use Rattle.events.specs.EventSpaceLaws.{events_words-length}
use Rattle.field_table.specs.FieldTable.{row_count, table_check_of}
use Rattle.group_reading.specs.GroupWalk.{WalkedGroup, walk_group}
use Rattle.group_reading.specs.GroupReading.{Reading, reading_events}
use Rattle.group_reading.specs.ReadingTheorem.{FindsReadings, walk_finds_readings}
use Rattle.group_reading.specs.ReadingTheorem.Complete.{reading-walked}
use Rattle.walk_steps.specs.WalkWords.{group_of, input_of, top_members}
use Rattle.walk_steps.specs.WalkWordsLaws.{group_of_number, layout_of_rules}
use Rattle.walk.specs.WalkCall.{top_walk, needed_for, walked_of, events_in}

-- "Kinds 2, 3, 4, 6, 7 are the fault events."
abbrev pub is_fault_number : ℕ → Bool
is_fault_number number = number ∈ᵇ (2 ∷ 3 ∷ 4 ∷ 6 ∷ 7 ∷ [])

abbrev pub NoFaultWords : List ℕ → ℕ → Type 0
NoFaultWords space count = (number : ℕ) → number < count → is_fault_number (get_or space (5 * number) 0) ≡ false

-- ---- the words of events without a fault

no_fault_words : (events : List Event) (rest : List ℕ) → NoFault events → NoFaultWords (events_words events ++ rest) (length events)
unfolding events_words event_words
no_fault_words [] rest good number inside = absurd (omega arith)
no_fault_words (event ∷ events) rest good zero inside = good.0
no_fault_words (event ∷ events) rest good (suc number) inside =
    let place : 5 * suc number ≡ suc (suc (suc (suc (suc (5 * number))))) = omega arith in
    rw place (no_fault_words events rest good.1 number (omega arith))

words-no_fault : (events : List Event) (rest : List ℕ) → NoFaultWords (events_words events ++ rest) (length events) → NoFault events
unfolding events_words event_words
words-no_fault [] rest good = tt
words-no_fault (event ∷ events) rest good = (
  good 0 (omega arith),
  words-no_fault events rest (λ number inside.
      let place : 5 * suc number ≡ suc (suc (suc (suc (suc (5 * number))))) = omega arith in
      rw place at (good (suc number) (omega arith))),
)

-- ---- the theorem

module _ (words fields message : List ℕ) (position tag : ℕ) (space : List ℕ) where
  -- what the call tells of the top group of this number
  pub record CallFinds (group : ℕ) : Type 0 where
    -- it gives a position, and has written so many events
    pub next : ℕ
    pub count : ℕ
    pub answer : walked_of words fields message position tag space ≡ Ok (record { position = next; words = (5 * count) })
    -- there is no fault event exactly where some stretch from the position on is a reading
    pub no_fault : NoFaultWords (events_in words fields message position tag space) count ↔ ((past : ℕ) × Reading (input_of words fields message) group 0 (top_members words) position past)
    -- that stretch is the only one
    pub one_stretch : (past past' : ℕ) → Reading (input_of words fields message) group 0 (top_members words) position past
        → Reading (input_of words fields message) group 0 (top_members words) position past' → past ≡ past'
    -- and it has one derivation
    pub one_derivation : (past : ℕ) (read read' : Reading (input_of words fields message) group 0 (top_members words) position past) → read ≡ read'
    -- the position given back is right behind it
    pub behind : (past : ℕ) → Reading (input_of words fields message) group 0 (top_members words) position past → next ≡ past
    -- the words written are those of the reading's own events, its enters, closes and leaves, in order
    pub written : (past : ℕ) (read : Reading (input_of words fields message) group 0 (top_members words) position past)
        → take (5 * count) (events_in words fields message position tag space) ≡ events_words (reading_events (input_of words fields message) read)
    -- the words behind them are as they were
    pub kept : drop (5 * count) (events_in words fields message position tag space) ≡ drop (5 * count) space

  module _ (right : is_layout gate_limits words ≡ true) (table : table_check_of fields (length message) ≡ Ok tt) (inside : position < row_count fields)
      (group : ℕ) (there : group_of words 0 tag ≡ Some group) (room : needed_for (top_walk words fields message group position) ≤ length space) where
    answered : walked_of words fields message position tag space ≡ Ok (record { position = (top_walk words fields message group position).next; words = needed_for (top_walk words fields message group position) })
    unfolding walked_of
    answered = rw (right, table, there, le-leb (needed_for (top_walk words fields message group position)) (length space) room)

    left : events_in words fields message position tag space
        ≡ events_words (top_walk words fields message group position).events ++ drop (needed_for (top_walk words fields message group position)) space
    unfolding events_in
    left = rw (right, table, there, le-leb (needed_for (top_walk words fields message group position)) (length space) room)

    passed : Passed gate_limits words
    passed = is_layout-passed gate_limits words right

    finds : FindsReadings (input_of words fields message) group (top_members words) position
    finds =
        walk_finds_readings (input_of words fields message) (layout_of_rules words passed) group (top_members words) position (group_of_number words passed 0 tag group (omega arith) there) inside

    walked : (past : ℕ) (read : Reading (input_of words fields message) group 0 (top_members words) position past)
        → top_walk words fields message group position ≡ record { events = reading_events (input_of words fields message) read; next = past }
    unfolding walk_group
    walked past read =
        reading-walked (input_of words fields message) (layout_of_rules words passed) read (group_of_number words passed 0 tag group (omega arith) there) (3 * (row_count fields - position) + 1) (omega arith)

    written_all : take (needed_for (top_walk words fields message group position)) (events_in words fields message position tag space)
        ≡ events_words (top_walk words fields message group position).events
    written_all =
        ap (take (needed_for (top_walk words fields message group position))) left
        ∙ take_at (events_words (top_walk words fields message group position).events) _ (needed_for (top_walk words fields message group position))
        (events_words-length (top_walk words fields message group position).events)

    kept-all : drop (needed_for (top_walk words fields message group position)) (events_in words fields message position tag space)
        ≡ drop (needed_for (top_walk words fields message group position)) space
    kept-all =
        ap (drop (needed_for (top_walk words fields message group position))) left
        ∙ drop_at (events_words (top_walk words fields message group position).events) _ (needed_for (top_walk words fields message group position))
        (events_words-length (top_walk words fields message group position).events)

    -- demand 3: the call finds exactly the readings of the group
    pub call_finds_readings : CallFinds group
    call_finds_readings = record {
      next = (top_walk words fields message group position).next;
      count = length (top_walk words fields message group position).events;
      answer = answered;
      no_fault = (
        λ good.
            finds.no_fault.0
            ((no_fault_of_groups (top_walk words fields message group position).events).1
            (words-no_fault (top_walk words fields message group position).events _
            (subst (λ (held : List ℕ). NoFaultWords held (length (top_walk words fields message group position).events)) left good))),
        λ some-reading.
            subst (λ (held : List ℕ). NoFaultWords held (length (top_walk words fields message group position).events)) (sym left)
            (no_fault_words (top_walk words fields message group position).events _
            ((no_fault_of_groups (top_walk words fields message group position).events).0 (finds.no_fault.1 some-reading))),
      );
      one_stretch = finds.one_stretch;
      one_derivation = finds.one_derivation;
      behind = finds.position;
      written = λ past read. written_all ∙ ap (λ (walk : WalkedGroup). events_words walk.events) (walked past read);
      kept = kept-all;
    }
