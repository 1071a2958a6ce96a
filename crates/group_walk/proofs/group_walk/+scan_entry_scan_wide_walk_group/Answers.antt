-- The cycle of calls {scan_entry, scan_wide, walk_group}: each call falls on the fields left and the depth left. The invariants are `EntryWritten` and
-- `GroupWritten`, and the laws those of specs/WalkLoops.antt; `scan_wide` differs from `scan_entry` in the number of words of its set.
use mathlib.Core.Path.{◌≡◌, refl, sym, ap, ◌∙◌}
use Prim.Native.Nat.{◌+◌, ◌-◌, ◌*◌, ◌≤◌}
use mathlib.Core.List.{List}
use native.Mathlib.Omega.{arith}
use lib.ListN.{length}
use Rattle.entry_tags.specs.EntryTags.{rank_count}
use Rattle.events.specs.EventSpaceLaws.{wrote-length}
use Rattle.layouts.specs.Limits.{gate_limits}
use Rattle.layouts.specs.LayoutCheckFacts.{is_layout-passed}
use Rattle.field_table.specs.FieldTable.{row_count}
use Rattle.field_table.specs.FieldTableLaws.{accepted-few}
use Rattle.walk_steps.specs.WalkWordsLaws.{level-length, members-few_here}
use Rattle.walk_steps.specs.WordStepsLaws.{level-step, level-turn, entry-stops, entry-plain, entry-nested, turn-over, turn-entry, turn-lead}
use Rattle.group_walk.specs.WalkLoops.{EntryWritten, entry-starts, field_inside, rank_low, repeat_room, entry-adds_plain, inner-valid, nested-moves, entry-adds_nested, entry-stopped, GroupWritten, group-starts, entry-opens, lead-opens, EntryOpened, one-opens, group-ended, walk_outside, walk_too_deep, begun-room}
use borrow.Author.Rules.{rules}
use Prim.Native.Nat.{ℕ, ◌<◌}
use Rattle.group_walk.proofs.group_walk.+scan_entry_scan_wide_walk_group.Goals as goal
use Rattle.group_walk.proofs.group_walk.+scan_entry_scan_wide_walk_group.Goals.{walk_group-in-Entry, walk_group-in-Lead}

-- loop {
pub scan_entry-loop-rank-init : goal.scan_entry-loop-rank-init
scan_entry-loop-rank-init t c = entry-starts c.args.layout.words.now c.args.table.fields.now c.args.table.message.now (is_layout-passed gate_limits _ c.args.layout.passed) c.args.group c.requires.asks.valid c.args.start c.args.depth c.args.events.now c.args.at 4 _ c.new-seen.ensures (omega (arith, c.requires.asks.few_members_lem)) c.requires.asks.inside

-- let (with, fresh) = seen.insert_rank(rank);
pub scan_entry-insert_rank-fresh-requires : goal.scan_entry-insert_rank-fresh-requires
scan_entry-insert_rank-fresh-requires t c = omega (arith, rank_low c.args.layout.words.now c.args.table.fields.now c.args.table.message.now (is_layout-passed gate_limits _ c.args.layout.passed) c.args.group c.requires.asks.valid c.args.start c.args.depth c.args.events.now c.args.at 4 _ _ c.loop-rank.cursor _ _ c.loop-rank.invariant _ _ (entry-plain c.args.layout.words.now c.args.table.fields.now c.args.table.message.now c.args.group c.args.start c.loop-rank.cursor _ (level-step c.args.layout.words.now c.args.group _ _ _ _ c.requires.spec.members_are c.requires.spec.delimiter_is c.requires.spec.tags_are c.requires.spec.first_is c.args.table.fields.now c.args.start c.loop-rank.cursor _ c.step_at.ensures) _ _ c.in-Plain.is).0, (level-length c.args.layout.words.now (1 + c.args.group) _ c.requires.spec.members_are), c.requires.asks.few_members_lem)

-- to = put_repeat(events, to, tag, depth, member, inserted.fresh);
pub scan_entry-put_repeat-to-requires : goal.scan_entry-put_repeat-to-requires
scan_entry-put_repeat-to-requires t c = omega (arith, c.loop-rank.invariant.room, c.loop-rank.invariant.within, c.requires.asks.room, (accepted-few _ _ c.args.table.accepted))

-- cursor += 1;
pub scan_entry-overflow_add-cursor : goal.scan_entry-overflow_add-cursor
scan_entry-overflow_add-cursor t c = omega (arith, c.loop-rank.invariant.within, (accepted-few _ _ c.args.table.accepted))

-- loop {
pub scan_entry-loop-rank-smaller-in-Plain : goal.scan_entry-loop-rank-smaller-in-Plain
scan_entry-loop-rank-smaller-in-Plain t c = omega (arith, field_inside c.args.layout.words.now c.args.table.fields.now c.args.table.message.now (is_layout-passed gate_limits _ c.args.layout.passed) c.args.group c.requires.asks.valid c.args.start c.args.depth c.args.events.now c.args.at 4 _ _ c.loop-rank.cursor _ _ c.loop-rank.invariant _ _ (entry-plain c.args.layout.words.now c.args.table.fields.now c.args.table.message.now c.args.group c.args.start c.loop-rank.cursor _ (level-step c.args.layout.words.now c.args.group _ _ _ _ c.requires.spec.members_are c.requires.spec.delimiter_is c.requires.spec.tags_are c.requires.spec.first_is c.args.table.fields.now c.args.start c.loop-rank.cursor _ c.step_at.ensures) _ _ c.in-Plain.is).0)

pub scan_entry-loop-rank-preserved-in-Plain : goal.scan_entry-loop-rank-preserved-in-Plain
scan_entry-loop-rank-preserved-in-Plain t c = entry-adds_plain c.args.layout.words.now c.args.table.fields.now c.args.table.message.now (is_layout-passed gate_limits _ c.args.layout.passed) c.args.group c.requires.asks.valid c.args.start c.args.depth c.args.events.now c.args.at 4 _ _ c.loop-rank.cursor _ _ c.loop-rank.invariant _ _ (entry-plain c.args.layout.words.now c.args.table.fields.now c.args.table.message.now c.args.group c.args.start c.loop-rank.cursor _ (level-step c.args.layout.words.now c.args.group _ _ _ _ c.requires.spec.members_are c.requires.spec.delimiter_is c.requires.spec.tags_are c.requires.spec.first_is c.args.table.fields.now c.args.start c.loop-rank.cursor _ c.step_at.ensures) _ _ c.in-Plain.is).0 _ _ c.insert_rank-fresh.ensures.tags c.insert_rank-fresh.ensures.fresh _ c.requires.spec.count_tag_is _ _ c.put_repeat-to.ensures _ refl (entry-plain c.args.layout.words.now c.args.table.fields.now c.args.table.message.now c.args.group c.args.start c.loop-rank.cursor _ (level-step c.args.layout.words.now c.args.group _ _ _ _ c.requires.spec.members_are c.requires.spec.delimiter_is c.requires.spec.tags_are c.requires.spec.first_is c.args.table.fields.now c.args.start c.loop-rank.cursor _ c.step_at.ensures) _ _ c.in-Plain.is).1

-- let (with, fresh) = seen.insert_rank(rank);
pub scan_entry-insert_rank-fresh-requires-in-Nested : goal.scan_entry-insert_rank-fresh-requires-in-Nested
scan_entry-insert_rank-fresh-requires-in-Nested t c = omega (arith, rank_low c.args.layout.words.now c.args.table.fields.now c.args.table.message.now (is_layout-passed gate_limits _ c.args.layout.passed) c.args.group c.requires.asks.valid c.args.start c.args.depth c.args.events.now c.args.at 4 _ _ c.loop-rank.cursor _ _ c.loop-rank.invariant _ _ (entry-nested c.args.layout.words.now c.args.table.fields.now c.args.table.message.now c.args.group c.args.start c.loop-rank.cursor _ (level-step c.args.layout.words.now c.args.group _ _ _ _ c.requires.spec.members_are c.requires.spec.delimiter_is c.requires.spec.tags_are c.requires.spec.first_is c.args.table.fields.now c.args.start c.loop-rank.cursor _ c.step_at.ensures) _ _ _ c.in-Nested.is).0, (level-length c.args.layout.words.now (1 + c.args.group) _ c.requires.spec.members_are), c.requires.asks.few_members_lem)

-- to = put_repeat(events, to, tag, depth, member, inserted.fresh);
pub scan_entry-put_repeat-to-requires-in-Nested : goal.scan_entry-put_repeat-to-requires-in-Nested
scan_entry-put_repeat-to-requires-in-Nested t c = omega (arith, c.loop-rank.invariant.room, c.loop-rank.invariant.within, c.requires.asks.room, (accepted-few _ _ c.args.table.accepted))

-- let below = depth + 1;
pub scan_entry-overflow_add-below : goal.scan_entry-overflow_add-below
scan_entry-overflow_add-below t c = omega (arith, c.requires.asks.shallow)

-- let nested = walk_group(
pub scan_entry-walk_group-nested-requires : goal.scan_entry-walk_group-nested-requires
scan_entry-walk_group-nested-requires t c = let inside = field_inside c.args.layout.words.now c.args.table.fields.now c.args.table.message.now (is_layout-passed gate_limits _ c.args.layout.passed) c.args.group c.requires.asks.valid c.args.start c.args.depth c.args.events.now c.args.at 4 _ _ c.loop-rank.cursor _ _ c.loop-rank.invariant _ _ (entry-nested c.args.layout.words.now c.args.table.fields.now c.args.table.message.now c.args.group c.args.start c.loop-rank.cursor _ (level-step c.args.layout.words.now c.args.group _ _ _ _ c.requires.spec.members_are c.requires.spec.delimiter_is c.requires.spec.tags_are c.requires.spec.first_is c.args.table.fields.now c.args.start c.loop-rank.cursor _ c.step_at.ensures) _ _ _ c.in-Nested.is).0 in
    let repeats = repeat_room c.args.layout.words.now c.args.table.fields.now c.args.table.message.now (is_layout-passed gate_limits _ c.args.layout.passed) c.args.group c.requires.asks.valid c.args.start c.args.depth c.args.events.now c.args.at 4 _ _ c.loop-rank.cursor _ _ c.loop-rank.invariant _ _ (entry-nested c.args.layout.words.now c.args.table.fields.now c.args.table.message.now c.args.group c.args.start c.loop-rank.cursor _ (level-step c.args.layout.words.now c.args.group _ _ _ _ c.requires.spec.members_are c.requires.spec.delimiter_is c.requires.spec.tags_are c.requires.spec.first_is c.args.table.fields.now c.args.start c.loop-rank.cursor _ c.step_at.ensures) _ _ _ c.in-Nested.is).0 _ _ c.insert_rank-fresh-in-Nested.ensures.tags c.insert_rank-fresh-in-Nested.ensures.fresh _ c.requires.spec.count_tag_is _ _ c.put_repeat-to-in-Nested.ensures in (
      omega (arith, c.decreases, inside, c.loop-rank.invariant.ahead, c.requires.asks.shallow),
      record {
        valid = inner-valid c.args.layout.words.now c.args.table.fields.now c.args.table.message.now (is_layout-passed gate_limits _ c.args.layout.passed) c.args.group c.requires.asks.valid c.args.start c.args.depth c.args.events.now c.args.at 4 _ _ c.loop-rank.cursor _ _ c.loop-rank.invariant _ _ (entry-nested c.args.layout.words.now c.args.table.fields.now c.args.table.message.now c.args.group c.args.start c.loop-rank.cursor _ (level-step c.args.layout.words.now c.args.group _ _ _ _ c.requires.spec.members_are c.requires.spec.delimiter_is c.requires.spec.tags_are c.requires.spec.first_is c.args.table.fields.now c.args.start c.loop-rank.cursor _ c.step_at.ensures) _ _ _ c.in-Nested.is).0 _ _ c.insert_rank-fresh-in-Nested.ensures.tags c.insert_rank-fresh-in-Nested.ensures.fresh _ c.requires.spec.count_tag_is _ _ c.put_repeat-to-in-Nested.ensures _ refl _ (entry-nested c.args.layout.words.now c.args.table.fields.now c.args.table.message.now c.args.group c.args.start c.loop-rank.cursor _ (level-step c.args.layout.words.now c.args.group _ _ _ _ c.requires.spec.members_are c.requires.spec.delimiter_is c.requires.spec.tags_are c.requires.spec.first_is c.args.table.fields.now c.args.start c.loop-rank.cursor _ c.step_at.ensures) _ _ _ c.in-Nested.is).1;
        shallow = omega (arith, c.requires.asks.shallow);
        room = omega (arith, repeats, c.loop-rank.invariant.room, c.requires.asks.room);
      },
    )

-- loop {
pub scan_entry-loop-rank-smaller : goal.scan_entry-loop-rank-smaller
scan_entry-loop-rank-smaller t c = let inside = field_inside c.args.layout.words.now c.args.table.fields.now c.args.table.message.now (is_layout-passed gate_limits _ c.args.layout.passed) c.args.group c.requires.asks.valid c.args.start c.args.depth c.args.events.now c.args.at 4 _ _ c.loop-rank.cursor _ _ c.loop-rank.invariant _ _ (entry-nested c.args.layout.words.now c.args.table.fields.now c.args.table.message.now c.args.group c.args.start c.loop-rank.cursor _ (level-step c.args.layout.words.now c.args.group _ _ _ _ c.requires.spec.members_are c.requires.spec.delimiter_is c.requires.spec.tags_are c.requires.spec.first_is c.args.table.fields.now c.args.start c.loop-rank.cursor _ c.step_at.ensures) _ _ _ c.in-Nested.is).0 in
    omega (arith, inside, nested-moves c.args.layout.words.now c.args.table.fields.now c.args.table.message.now (is_layout-passed gate_limits _ c.args.layout.passed) c.args.group c.requires.asks.valid c.args.start c.args.depth c.args.events.now c.args.at 4 _ _ c.loop-rank.cursor _ _ c.loop-rank.invariant _ _ (entry-nested c.args.layout.words.now c.args.table.fields.now c.args.table.message.now c.args.group c.args.start c.loop-rank.cursor _ (level-step c.args.layout.words.now c.args.group _ _ _ _ c.requires.spec.members_are c.requires.spec.delimiter_is c.requires.spec.tags_are c.requires.spec.first_is c.args.table.fields.now c.args.start c.loop-rank.cursor _ c.step_at.ensures) _ _ _ c.in-Nested.is).0 _ _ c.insert_rank-fresh-in-Nested.ensures.tags c.insert_rank-fresh-in-Nested.ensures.fresh _ c.requires.spec.count_tag_is _ _ c.put_repeat-to-in-Nested.ensures _ refl _ (entry-nested c.args.layout.words.now c.args.table.fields.now c.args.table.message.now c.args.group c.args.start c.loop-rank.cursor _ (level-step c.args.layout.words.now c.args.group _ _ _ _ c.requires.spec.members_are c.requires.spec.delimiter_is c.requires.spec.tags_are c.requires.spec.first_is c.args.table.fields.now c.args.start c.loop-rank.cursor _ c.step_at.ensures) _ _ _ c.in-Nested.is).1 _ _ _ _ c.requires.spec.members_are c.walk_group-nested.ensures)

pub scan_entry-loop-rank-preserved : goal.scan_entry-loop-rank-preserved
scan_entry-loop-rank-preserved t c = entry-adds_nested c.args.layout.words.now c.args.table.fields.now c.args.table.message.now (is_layout-passed gate_limits _ c.args.layout.passed) c.args.group c.requires.asks.valid c.args.start c.args.depth c.args.events.now c.args.at 4 _ _ c.loop-rank.cursor _ _ c.loop-rank.invariant _ _ (entry-nested c.args.layout.words.now c.args.table.fields.now c.args.table.message.now c.args.group c.args.start c.loop-rank.cursor _ (level-step c.args.layout.words.now c.args.group _ _ _ _ c.requires.spec.members_are c.requires.spec.delimiter_is c.requires.spec.tags_are c.requires.spec.first_is c.args.table.fields.now c.args.start c.loop-rank.cursor _ c.step_at.ensures) _ _ _ c.in-Nested.is).0 _ _ c.insert_rank-fresh-in-Nested.ensures.tags c.insert_rank-fresh-in-Nested.ensures.fresh _ c.requires.spec.count_tag_is _ _ c.put_repeat-to-in-Nested.ensures _ refl _ (entry-nested c.args.layout.words.now c.args.table.fields.now c.args.table.message.now c.args.group c.args.start c.loop-rank.cursor _ (level-step c.args.layout.words.now c.args.group _ _ _ _ c.requires.spec.members_are c.requires.spec.delimiter_is c.requires.spec.tags_are c.requires.spec.first_is c.args.table.fields.now c.args.start c.loop-rank.cursor _ c.step_at.ensures) _ _ _ c.in-Nested.is).1 _ _ _ _ c.requires.spec.members_are c.walk_group-nested.ensures

-- let count = seen.close(members.len());
pub scan_entry-close-count-requires : goal.scan_entry-close-count-requires
scan_entry-close-count-requires t c = omega (arith, (level-length c.args.layout.words.now (1 + c.args.group) _ c.requires.spec.members_are), c.requires.asks.few_members_lem)

-- fn scan_entry<'a>(
pub scan_entry-shape_of-events : goal.scan_entry-shape_of-events
scan_entry-shape_of-events t c = wrote-length c.loop-rank.invariant.wrote

pub scan_entry-returns : goal.scan_entry-returns
scan_entry-returns t c = entry-stopped c.args.layout.words.now c.args.table.fields.now c.args.table.message.now (is_layout-passed gate_limits _ c.args.layout.passed) c.args.group c.requires.asks.valid c.args.start c.args.depth c.args.events.now c.args.at 4 _ _ c.loop-rank.cursor _ _ c.loop-rank.invariant c.requires.asks.taken (entry-stops c.args.layout.words.now c.args.table.fields.now c.args.table.message.now c.args.group c.args.start c.loop-rank.cursor _ (level-step c.args.layout.words.now c.args.group _ _ _ _ c.requires.spec.members_are c.requires.spec.delimiter_is c.requires.spec.tags_are c.requires.spec.first_is c.args.table.fields.now c.args.start c.loop-rank.cursor _ c.step_at.ensures) c.in-Stop.is) _ (c.close-count.ensures ∙ ap (rank_count _) (level-length c.args.layout.words.now (1 + c.args.group) _ c.requires.spec.members_are))

-- loop {
pub scan_wide-loop-rank-init : goal.scan_wide-loop-rank-init
scan_wide-loop-rank-init t c = entry-starts c.args.layout.words.now c.args.table.fields.now c.args.table.message.now (is_layout-passed gate_limits _ c.args.layout.passed) c.args.group c.requires.asks.valid c.args.start c.args.depth c.args.events.now c.args.at 128 _ c.new-seen.ensures (omega (arith, c.requires.asks.few_members_lem)) c.requires.asks.inside

-- let (with, fresh) = seen.insert_rank(rank);
pub scan_wide-insert_rank-fresh-requires : goal.scan_wide-insert_rank-fresh-requires
scan_wide-insert_rank-fresh-requires t c = omega (arith, rank_low c.args.layout.words.now c.args.table.fields.now c.args.table.message.now (is_layout-passed gate_limits _ c.args.layout.passed) c.args.group c.requires.asks.valid c.args.start c.args.depth c.args.events.now c.args.at 128 _ _ c.loop-rank.cursor _ _ c.loop-rank.invariant _ _ (entry-plain c.args.layout.words.now c.args.table.fields.now c.args.table.message.now c.args.group c.args.start c.loop-rank.cursor _ (level-step c.args.layout.words.now c.args.group _ _ _ _ c.requires.spec.members_are c.requires.spec.delimiter_is c.requires.spec.tags_are c.requires.spec.first_is c.args.table.fields.now c.args.start c.loop-rank.cursor _ c.step_at.ensures) _ _ c.in-Plain.is).0, (level-length c.args.layout.words.now (1 + c.args.group) _ c.requires.spec.members_are), c.requires.asks.few_members_lem)

-- to = put_repeat(events, to, tag, depth, member, inserted.fresh);
pub scan_wide-put_repeat-to-requires : goal.scan_wide-put_repeat-to-requires
scan_wide-put_repeat-to-requires t c = omega (arith, c.loop-rank.invariant.room, c.loop-rank.invariant.within, c.requires.asks.room, (accepted-few _ _ c.args.table.accepted))

-- cursor += 1;
pub scan_wide-overflow_add-cursor : goal.scan_wide-overflow_add-cursor
scan_wide-overflow_add-cursor t c = omega (arith, c.loop-rank.invariant.within, (accepted-few _ _ c.args.table.accepted))

-- loop {
pub scan_wide-loop-rank-smaller-in-Plain : goal.scan_wide-loop-rank-smaller-in-Plain
scan_wide-loop-rank-smaller-in-Plain t c = omega (arith, field_inside c.args.layout.words.now c.args.table.fields.now c.args.table.message.now (is_layout-passed gate_limits _ c.args.layout.passed) c.args.group c.requires.asks.valid c.args.start c.args.depth c.args.events.now c.args.at 128 _ _ c.loop-rank.cursor _ _ c.loop-rank.invariant _ _ (entry-plain c.args.layout.words.now c.args.table.fields.now c.args.table.message.now c.args.group c.args.start c.loop-rank.cursor _ (level-step c.args.layout.words.now c.args.group _ _ _ _ c.requires.spec.members_are c.requires.spec.delimiter_is c.requires.spec.tags_are c.requires.spec.first_is c.args.table.fields.now c.args.start c.loop-rank.cursor _ c.step_at.ensures) _ _ c.in-Plain.is).0)

pub scan_wide-loop-rank-preserved-in-Plain : goal.scan_wide-loop-rank-preserved-in-Plain
scan_wide-loop-rank-preserved-in-Plain t c = entry-adds_plain c.args.layout.words.now c.args.table.fields.now c.args.table.message.now (is_layout-passed gate_limits _ c.args.layout.passed) c.args.group c.requires.asks.valid c.args.start c.args.depth c.args.events.now c.args.at 128 _ _ c.loop-rank.cursor _ _ c.loop-rank.invariant _ _ (entry-plain c.args.layout.words.now c.args.table.fields.now c.args.table.message.now c.args.group c.args.start c.loop-rank.cursor _ (level-step c.args.layout.words.now c.args.group _ _ _ _ c.requires.spec.members_are c.requires.spec.delimiter_is c.requires.spec.tags_are c.requires.spec.first_is c.args.table.fields.now c.args.start c.loop-rank.cursor _ c.step_at.ensures) _ _ c.in-Plain.is).0 _ _ c.insert_rank-fresh.ensures.tags c.insert_rank-fresh.ensures.fresh _ c.requires.spec.count_tag_is _ _ c.put_repeat-to.ensures _ refl (entry-plain c.args.layout.words.now c.args.table.fields.now c.args.table.message.now c.args.group c.args.start c.loop-rank.cursor _ (level-step c.args.layout.words.now c.args.group _ _ _ _ c.requires.spec.members_are c.requires.spec.delimiter_is c.requires.spec.tags_are c.requires.spec.first_is c.args.table.fields.now c.args.start c.loop-rank.cursor _ c.step_at.ensures) _ _ c.in-Plain.is).1

-- let (with, fresh) = seen.insert_rank(rank);
pub scan_wide-insert_rank-fresh-requires-in-Nested : goal.scan_wide-insert_rank-fresh-requires-in-Nested
scan_wide-insert_rank-fresh-requires-in-Nested t c = omega (arith, rank_low c.args.layout.words.now c.args.table.fields.now c.args.table.message.now (is_layout-passed gate_limits _ c.args.layout.passed) c.args.group c.requires.asks.valid c.args.start c.args.depth c.args.events.now c.args.at 128 _ _ c.loop-rank.cursor _ _ c.loop-rank.invariant _ _ (entry-nested c.args.layout.words.now c.args.table.fields.now c.args.table.message.now c.args.group c.args.start c.loop-rank.cursor _ (level-step c.args.layout.words.now c.args.group _ _ _ _ c.requires.spec.members_are c.requires.spec.delimiter_is c.requires.spec.tags_are c.requires.spec.first_is c.args.table.fields.now c.args.start c.loop-rank.cursor _ c.step_at.ensures) _ _ _ c.in-Nested.is).0, (level-length c.args.layout.words.now (1 + c.args.group) _ c.requires.spec.members_are), c.requires.asks.few_members_lem)

-- to = put_repeat(events, to, tag, depth, member, inserted.fresh);
pub scan_wide-put_repeat-to-requires-in-Nested : goal.scan_wide-put_repeat-to-requires-in-Nested
scan_wide-put_repeat-to-requires-in-Nested t c = omega (arith, c.loop-rank.invariant.room, c.loop-rank.invariant.within, c.requires.asks.room, (accepted-few _ _ c.args.table.accepted))

-- let below = depth + 1;
pub scan_wide-overflow_add-below : goal.scan_wide-overflow_add-below
scan_wide-overflow_add-below t c = omega (arith, c.requires.asks.shallow)

-- let nested = walk_group(
pub scan_wide-walk_group-nested-requires : goal.scan_wide-walk_group-nested-requires
scan_wide-walk_group-nested-requires t c = let inside = field_inside c.args.layout.words.now c.args.table.fields.now c.args.table.message.now (is_layout-passed gate_limits _ c.args.layout.passed) c.args.group c.requires.asks.valid c.args.start c.args.depth c.args.events.now c.args.at 128 _ _ c.loop-rank.cursor _ _ c.loop-rank.invariant _ _ (entry-nested c.args.layout.words.now c.args.table.fields.now c.args.table.message.now c.args.group c.args.start c.loop-rank.cursor _ (level-step c.args.layout.words.now c.args.group _ _ _ _ c.requires.spec.members_are c.requires.spec.delimiter_is c.requires.spec.tags_are c.requires.spec.first_is c.args.table.fields.now c.args.start c.loop-rank.cursor _ c.step_at.ensures) _ _ _ c.in-Nested.is).0 in
    let repeats = repeat_room c.args.layout.words.now c.args.table.fields.now c.args.table.message.now (is_layout-passed gate_limits _ c.args.layout.passed) c.args.group c.requires.asks.valid c.args.start c.args.depth c.args.events.now c.args.at 128 _ _ c.loop-rank.cursor _ _ c.loop-rank.invariant _ _ (entry-nested c.args.layout.words.now c.args.table.fields.now c.args.table.message.now c.args.group c.args.start c.loop-rank.cursor _ (level-step c.args.layout.words.now c.args.group _ _ _ _ c.requires.spec.members_are c.requires.spec.delimiter_is c.requires.spec.tags_are c.requires.spec.first_is c.args.table.fields.now c.args.start c.loop-rank.cursor _ c.step_at.ensures) _ _ _ c.in-Nested.is).0 _ _ c.insert_rank-fresh-in-Nested.ensures.tags c.insert_rank-fresh-in-Nested.ensures.fresh _ c.requires.spec.count_tag_is _ _ c.put_repeat-to-in-Nested.ensures in (
      omega (arith, c.decreases, inside, c.loop-rank.invariant.ahead, c.requires.asks.shallow),
      record {
        valid = inner-valid c.args.layout.words.now c.args.table.fields.now c.args.table.message.now (is_layout-passed gate_limits _ c.args.layout.passed) c.args.group c.requires.asks.valid c.args.start c.args.depth c.args.events.now c.args.at 128 _ _ c.loop-rank.cursor _ _ c.loop-rank.invariant _ _ (entry-nested c.args.layout.words.now c.args.table.fields.now c.args.table.message.now c.args.group c.args.start c.loop-rank.cursor _ (level-step c.args.layout.words.now c.args.group _ _ _ _ c.requires.spec.members_are c.requires.spec.delimiter_is c.requires.spec.tags_are c.requires.spec.first_is c.args.table.fields.now c.args.start c.loop-rank.cursor _ c.step_at.ensures) _ _ _ c.in-Nested.is).0 _ _ c.insert_rank-fresh-in-Nested.ensures.tags c.insert_rank-fresh-in-Nested.ensures.fresh _ c.requires.spec.count_tag_is _ _ c.put_repeat-to-in-Nested.ensures _ refl _ (entry-nested c.args.layout.words.now c.args.table.fields.now c.args.table.message.now c.args.group c.args.start c.loop-rank.cursor _ (level-step c.args.layout.words.now c.args.group _ _ _ _ c.requires.spec.members_are c.requires.spec.delimiter_is c.requires.spec.tags_are c.requires.spec.first_is c.args.table.fields.now c.args.start c.loop-rank.cursor _ c.step_at.ensures) _ _ _ c.in-Nested.is).1;
        shallow = omega (arith, c.requires.asks.shallow);
        room = omega (arith, repeats, c.loop-rank.invariant.room, c.requires.asks.room);
      },
    )

-- loop {
pub scan_wide-loop-rank-smaller : goal.scan_wide-loop-rank-smaller
scan_wide-loop-rank-smaller t c = let inside = field_inside c.args.layout.words.now c.args.table.fields.now c.args.table.message.now (is_layout-passed gate_limits _ c.args.layout.passed) c.args.group c.requires.asks.valid c.args.start c.args.depth c.args.events.now c.args.at 128 _ _ c.loop-rank.cursor _ _ c.loop-rank.invariant _ _ (entry-nested c.args.layout.words.now c.args.table.fields.now c.args.table.message.now c.args.group c.args.start c.loop-rank.cursor _ (level-step c.args.layout.words.now c.args.group _ _ _ _ c.requires.spec.members_are c.requires.spec.delimiter_is c.requires.spec.tags_are c.requires.spec.first_is c.args.table.fields.now c.args.start c.loop-rank.cursor _ c.step_at.ensures) _ _ _ c.in-Nested.is).0 in
    omega (arith, inside, nested-moves c.args.layout.words.now c.args.table.fields.now c.args.table.message.now (is_layout-passed gate_limits _ c.args.layout.passed) c.args.group c.requires.asks.valid c.args.start c.args.depth c.args.events.now c.args.at 128 _ _ c.loop-rank.cursor _ _ c.loop-rank.invariant _ _ (entry-nested c.args.layout.words.now c.args.table.fields.now c.args.table.message.now c.args.group c.args.start c.loop-rank.cursor _ (level-step c.args.layout.words.now c.args.group _ _ _ _ c.requires.spec.members_are c.requires.spec.delimiter_is c.requires.spec.tags_are c.requires.spec.first_is c.args.table.fields.now c.args.start c.loop-rank.cursor _ c.step_at.ensures) _ _ _ c.in-Nested.is).0 _ _ c.insert_rank-fresh-in-Nested.ensures.tags c.insert_rank-fresh-in-Nested.ensures.fresh _ c.requires.spec.count_tag_is _ _ c.put_repeat-to-in-Nested.ensures _ refl _ (entry-nested c.args.layout.words.now c.args.table.fields.now c.args.table.message.now c.args.group c.args.start c.loop-rank.cursor _ (level-step c.args.layout.words.now c.args.group _ _ _ _ c.requires.spec.members_are c.requires.spec.delimiter_is c.requires.spec.tags_are c.requires.spec.first_is c.args.table.fields.now c.args.start c.loop-rank.cursor _ c.step_at.ensures) _ _ _ c.in-Nested.is).1 _ _ _ _ c.requires.spec.members_are c.walk_group-nested.ensures)

pub scan_wide-loop-rank-preserved : goal.scan_wide-loop-rank-preserved
scan_wide-loop-rank-preserved t c = entry-adds_nested c.args.layout.words.now c.args.table.fields.now c.args.table.message.now (is_layout-passed gate_limits _ c.args.layout.passed) c.args.group c.requires.asks.valid c.args.start c.args.depth c.args.events.now c.args.at 128 _ _ c.loop-rank.cursor _ _ c.loop-rank.invariant _ _ (entry-nested c.args.layout.words.now c.args.table.fields.now c.args.table.message.now c.args.group c.args.start c.loop-rank.cursor _ (level-step c.args.layout.words.now c.args.group _ _ _ _ c.requires.spec.members_are c.requires.spec.delimiter_is c.requires.spec.tags_are c.requires.spec.first_is c.args.table.fields.now c.args.start c.loop-rank.cursor _ c.step_at.ensures) _ _ _ c.in-Nested.is).0 _ _ c.insert_rank-fresh-in-Nested.ensures.tags c.insert_rank-fresh-in-Nested.ensures.fresh _ c.requires.spec.count_tag_is _ _ c.put_repeat-to-in-Nested.ensures _ refl _ (entry-nested c.args.layout.words.now c.args.table.fields.now c.args.table.message.now c.args.group c.args.start c.loop-rank.cursor _ (level-step c.args.layout.words.now c.args.group _ _ _ _ c.requires.spec.members_are c.requires.spec.delimiter_is c.requires.spec.tags_are c.requires.spec.first_is c.args.table.fields.now c.args.start c.loop-rank.cursor _ c.step_at.ensures) _ _ _ c.in-Nested.is).1 _ _ _ _ c.requires.spec.members_are c.walk_group-nested.ensures

-- let count = seen.close(members.len());
pub scan_wide-close-count-requires : goal.scan_wide-close-count-requires
scan_wide-close-count-requires t c = omega (arith, (level-length c.args.layout.words.now (1 + c.args.group) _ c.requires.spec.members_are), c.requires.asks.few_members_lem)

-- fn scan_wide<'a>(
pub scan_wide-shape_of-events : goal.scan_wide-shape_of-events
scan_wide-shape_of-events t c = wrote-length c.loop-rank.invariant.wrote

pub scan_wide-returns : goal.scan_wide-returns
scan_wide-returns t c = entry-stopped c.args.layout.words.now c.args.table.fields.now c.args.table.message.now (is_layout-passed gate_limits _ c.args.layout.passed) c.args.group c.requires.asks.valid c.args.start c.args.depth c.args.events.now c.args.at 128 _ _ c.loop-rank.cursor _ _ c.loop-rank.invariant c.requires.asks.taken (entry-stops c.args.layout.words.now c.args.table.fields.now c.args.table.message.now c.args.group c.args.start c.loop-rank.cursor _ (level-step c.args.layout.words.now c.args.group _ _ _ _ c.requires.spec.members_are c.requires.spec.delimiter_is c.requires.spec.tags_are c.requires.spec.first_is c.args.table.fields.now c.args.start c.loop-rank.cursor _ c.step_at.ensures) c.in-Stop.is) _ (c.close-count.ensures ∙ ap (rank_count _) (level-length c.args.layout.words.now (1 + c.args.group) _ c.requires.spec.members_are))

-- return GroupEnd { next: index, at };
pub walk_group-returns-then-len-index : goal.walk_group-returns-then-len-index
walk_group-returns-then-len-index t c = walk_outside c.args.layout.words.now c.args.table.fields.now c.args.table.message.now c.args.enclosing.words.now (is_layout-passed gate_limits _ c.args.layout.passed) c.args.group c.requires.valid c.args.index c.args.depth (omega (arith, c.len.ensures, c.if-len-index.true)) _ _

-- let spec = group_spec(layout, group);
pub walk_group-group_spec-spec-requires : goal.walk_group-group_spec-spec-requires
walk_group-group_spec-spec-requires t c = c.requires.valid

-- let deep = put_event(events, at, tag, depth, Kind::Deep);
pub walk_group-put_event-deep-requires : goal.walk_group-put_event-deep-requires
walk_group-put_event-deep-requires t c = omega (arith, c.requires.room, c.len.ensures, c.if-len-index.false, (accepted-few _ _ c.args.table.accepted))

-- let next = index + 1;
pub walk_group-overflow_add-next : goal.walk_group-overflow_add-next
walk_group-overflow_add-next t c = omega (arith, c.len.ensures, c.if-len-index.false, (accepted-few _ _ c.args.table.accepted))

-- return GroupEnd { next, at: deep };
pub walk_group-shape_of-events-then-depth-gt32 : goal.walk_group-shape_of-events-then-depth-gt32
walk_group-shape_of-events-then-depth-gt32 t c = wrote-length c.put_event-deep.ensures

pub walk_group-returns-then-depth-gt32 : goal.walk_group-returns-then-depth-gt32
walk_group-returns-then-depth-gt32 t c = walk_too_deep c.args.layout.words.now c.args.table.fields.now c.args.table.message.now c.args.enclosing.words.now (is_layout-passed gate_limits _ c.args.layout.passed) c.args.group c.requires.valid c.args.index c.args.depth (omega (arith, c.len.ensures, c.if-len-index.false)) c.if-depth-gt32.true _ c.group_spec-spec.ensures.count_tag_is _ _ _ _ c.put_event-deep.ensures

-- let mut to = put_start(events, at, tag, depth, index, declared);
pub walk_group-put_start-to-requires : goal.walk_group-put_start-to-requires
walk_group-put_start-to-requires t c = omega (arith, c.requires.room, c.len.ensures, c.if-len-index.false, (accepted-few _ _ c.args.table.accepted))

-- let mut cursor = index + 1;
pub walk_group-overflow_add-cursor : goal.walk_group-overflow_add-cursor
walk_group-overflow_add-cursor t c = omega (arith, c.len.ensures, c.if-len-index.false, (accepted-few _ _ c.args.table.accepted))

-- loop {
pub walk_group-loop-member-init : goal.walk_group-loop-member-init
walk_group-loop-member-init t c = group-starts c.args.layout.words.now c.args.table.fields.now c.args.table.message.now c.args.enclosing.words.now (is_layout-passed gate_limits _ c.args.layout.passed) c.args.group c.requires.valid c.args.index c.args.depth _ _ (omega (arith, c.len.ensures, c.if-len-index.false)) c.if-depth-gt32.false c.count_at-declared.result c.count_at-declared.ensures _ c.group_spec-spec.ensures.count_tag_is (begun-room c.group_spec-spec.result.count_tag c.args.depth c.args.index c.count_at-declared.result c.put_start-to.ensures c.requires.room)

-- to = put_event(events, to, tag, depth, Kind::Delim(member));
pub walk_group-put_event-to-requires : goal.walk_group-put_event-to-requires
walk_group-put_event-to-requires t c = omega (arith, c.loop-member.invariant.room, c.loop-member.invariant.within, (accepted-few _ _ c.args.table.accepted))

-- let entry = scan_entry(fields, message, words, group, cursor, depth, events, to);
pub walk_group-scan_entry-entry-requires : goal.walk_group-scan_entry-entry-requires
walk_group-scan_entry-entry-requires t c = let opened : EntryOpened c.args.layout.words.now c.args.table.fields.now c.args.table.message.now c.args.enclosing.words.now c.args.group c.args.index c.args.depth c.put_start-to.new.events c.put_start-to.result c.group_spec-spec.result.count_tag c.loop-member.cursor c.loop-member.entries c.match-opening_at.events c.match-opening_at.to c.match-opening_at.unparseable =
    elim c.match-opening_at.branch [
      | walk_group-in-Entry w ↦ let begins = turn-entry c.args.layout.words.now c.args.table.fields.now c.args.table.message.now c.args.enclosing.words.now c.args.group c.count_at-declared.result c.loop-member.entries c.loop-member.cursor _ (level-turn c.args.layout.words.now c.args.group _ _ c.group_spec-spec.ensures.members_are c.group_spec-spec.ensures.delimiter_is c.args.table.fields.now c.args.enclosing.words.now c.count_at-declared.result c.loop-member.entries c.loop-member.cursor _ c.opening_at.ensures) w.in-Entry.is in entry-opens c.args.layout.words.now c.args.table.fields.now c.args.table.message.now c.args.enclosing.words.now (is_layout-passed gate_limits _ c.args.layout.passed) c.args.group c.requires.valid c.args.index c.args.depth _ _ (omega (arith, c.len.ensures, c.if-len-index.false)) c.if-depth-gt32.false c.count_at-declared.result c.count_at-declared.ensures _ c.group_spec-spec.ensures.count_tag_is _ _ c.loop-member.cursor c.loop-member.entries c.loop-member.unparseable c.loop-member.invariant begins.0 begins.1 _ w.events-is _ w.to-is _ w.unparseable-is
      | walk_group-in-Lead w ↦ let leads = turn-lead c.args.layout.words.now c.args.table.fields.now c.args.table.message.now c.args.enclosing.words.now c.args.group c.count_at-declared.result c.loop-member.entries c.loop-member.cursor _ (level-turn c.args.layout.words.now c.args.group _ _ c.group_spec-spec.ensures.members_are c.group_spec-spec.ensures.delimiter_is c.args.table.fields.now c.args.enclosing.words.now c.count_at-declared.result c.loop-member.entries c.loop-member.cursor _ c.opening_at.ensures) _ w.in-Lead.is in lead-opens c.args.layout.words.now c.args.table.fields.now c.args.table.message.now c.args.enclosing.words.now (is_layout-passed gate_limits _ c.args.layout.passed) c.args.group c.requires.valid c.args.index c.args.depth _ _ (omega (arith, c.len.ensures, c.if-len-index.false)) c.if-depth-gt32.false c.count_at-declared.result c.count_at-declared.ensures _ c.group_spec-spec.ensures.count_tag_is _ _ c.loop-member.cursor c.loop-member.entries c.loop-member.unparseable c.loop-member.invariant leads.0 leads.1 _ leads.2 _ _ w.put_event-to.ensures _ w.events-is _ w.to-is _ w.unparseable-is
    ] in (
      omega (arith, c.decreases, opened.inside, c.loop-member.invariant.ahead),
      (
        record {
          valid = c.requires.valid;
          few_members_lem = omega (arith, (level-length c.args.layout.words.now (1 + c.args.group) _ c.group_spec-spec.ensures.members_are), c.if-spec-le256.true);
          taken = opened.taken;
          inside = opened.inside;
          shallow = c.if-depth-gt32.false;
          room = opened.room;
        },
        c.group_spec-spec.ensures,
      ),
    )

-- to = put_event(events, entry.at, tag, depth, close);
pub walk_group-put_event-to-requires-then-spec-le256 : goal.walk_group-put_event-to-requires-then-spec-le256
walk_group-put_event-to-requires-then-spec-le256 t c = let opened : EntryOpened c.args.layout.words.now c.args.table.fields.now c.args.table.message.now c.args.enclosing.words.now c.args.group c.args.index c.args.depth c.put_start-to.new.events c.put_start-to.result c.group_spec-spec.result.count_tag c.loop-member.cursor c.loop-member.entries c.match-opening_at.events c.match-opening_at.to c.match-opening_at.unparseable =
    elim c.match-opening_at.branch [
      | walk_group-in-Entry w ↦ let begins = turn-entry c.args.layout.words.now c.args.table.fields.now c.args.table.message.now c.args.enclosing.words.now c.args.group c.count_at-declared.result c.loop-member.entries c.loop-member.cursor _ (level-turn c.args.layout.words.now c.args.group _ _ c.group_spec-spec.ensures.members_are c.group_spec-spec.ensures.delimiter_is c.args.table.fields.now c.args.enclosing.words.now c.count_at-declared.result c.loop-member.entries c.loop-member.cursor _ c.opening_at.ensures) w.in-Entry.is in entry-opens c.args.layout.words.now c.args.table.fields.now c.args.table.message.now c.args.enclosing.words.now (is_layout-passed gate_limits _ c.args.layout.passed) c.args.group c.requires.valid c.args.index c.args.depth _ _ (omega (arith, c.len.ensures, c.if-len-index.false)) c.if-depth-gt32.false c.count_at-declared.result c.count_at-declared.ensures _ c.group_spec-spec.ensures.count_tag_is _ _ c.loop-member.cursor c.loop-member.entries c.loop-member.unparseable c.loop-member.invariant begins.0 begins.1 _ w.events-is _ w.to-is _ w.unparseable-is
      | walk_group-in-Lead w ↦ let leads = turn-lead c.args.layout.words.now c.args.table.fields.now c.args.table.message.now c.args.enclosing.words.now c.args.group c.count_at-declared.result c.loop-member.entries c.loop-member.cursor _ (level-turn c.args.layout.words.now c.args.group _ _ c.group_spec-spec.ensures.members_are c.group_spec-spec.ensures.delimiter_is c.args.table.fields.now c.args.enclosing.words.now c.count_at-declared.result c.loop-member.entries c.loop-member.cursor _ c.opening_at.ensures) _ w.in-Lead.is in lead-opens c.args.layout.words.now c.args.table.fields.now c.args.table.message.now c.args.enclosing.words.now (is_layout-passed gate_limits _ c.args.layout.passed) c.args.group c.requires.valid c.args.index c.args.depth _ _ (omega (arith, c.len.ensures, c.if-len-index.false)) c.if-depth-gt32.false c.count_at-declared.result c.count_at-declared.ensures _ c.group_spec-spec.ensures.count_tag_is _ _ c.loop-member.cursor c.loop-member.entries c.loop-member.unparseable c.loop-member.invariant leads.0 leads.1 _ leads.2 _ _ w.put_event-to.ensures _ w.events-is _ w.to-is _ w.unparseable-is
    ] in omega (arith, c.scan_entry-entry.ensures.few, c.scan_entry-entry.ensures.within, opened.room, (accepted-few _ _ c.args.table.accepted))

-- entries += 1;
pub walk_group-overflow_add-entries : goal.walk_group-overflow_add-entries
walk_group-overflow_add-entries t c = omega (arith, c.loop-member.invariant.ahead, c.loop-member.invariant.within, (accepted-few _ _ c.args.table.accepted))

-- loop {
pub walk_group-loop-member-smaller-then-spec-le256 : goal.walk_group-loop-member-smaller-then-spec-le256
walk_group-loop-member-smaller-then-spec-le256 t c = omega (arith, c.scan_entry-entry.ensures.moves, c.scan_entry-entry.ensures.within)

pub walk_group-loop-member-preserved-then-spec-le256 : goal.walk_group-loop-member-preserved-then-spec-le256
walk_group-loop-member-preserved-then-spec-le256 t c = let opened : EntryOpened c.args.layout.words.now c.args.table.fields.now c.args.table.message.now c.args.enclosing.words.now c.args.group c.args.index c.args.depth c.put_start-to.new.events c.put_start-to.result c.group_spec-spec.result.count_tag c.loop-member.cursor c.loop-member.entries c.match-opening_at.events c.match-opening_at.to c.match-opening_at.unparseable =
    elim c.match-opening_at.branch [
      | walk_group-in-Entry w ↦ let begins = turn-entry c.args.layout.words.now c.args.table.fields.now c.args.table.message.now c.args.enclosing.words.now c.args.group c.count_at-declared.result c.loop-member.entries c.loop-member.cursor _ (level-turn c.args.layout.words.now c.args.group _ _ c.group_spec-spec.ensures.members_are c.group_spec-spec.ensures.delimiter_is c.args.table.fields.now c.args.enclosing.words.now c.count_at-declared.result c.loop-member.entries c.loop-member.cursor _ c.opening_at.ensures) w.in-Entry.is in entry-opens c.args.layout.words.now c.args.table.fields.now c.args.table.message.now c.args.enclosing.words.now (is_layout-passed gate_limits _ c.args.layout.passed) c.args.group c.requires.valid c.args.index c.args.depth _ _ (omega (arith, c.len.ensures, c.if-len-index.false)) c.if-depth-gt32.false c.count_at-declared.result c.count_at-declared.ensures _ c.group_spec-spec.ensures.count_tag_is _ _ c.loop-member.cursor c.loop-member.entries c.loop-member.unparseable c.loop-member.invariant begins.0 begins.1 _ w.events-is _ w.to-is _ w.unparseable-is
      | walk_group-in-Lead w ↦ let leads = turn-lead c.args.layout.words.now c.args.table.fields.now c.args.table.message.now c.args.enclosing.words.now c.args.group c.count_at-declared.result c.loop-member.entries c.loop-member.cursor _ (level-turn c.args.layout.words.now c.args.group _ _ c.group_spec-spec.ensures.members_are c.group_spec-spec.ensures.delimiter_is c.args.table.fields.now c.args.enclosing.words.now c.count_at-declared.result c.loop-member.entries c.loop-member.cursor _ c.opening_at.ensures) _ w.in-Lead.is in lead-opens c.args.layout.words.now c.args.table.fields.now c.args.table.message.now c.args.enclosing.words.now (is_layout-passed gate_limits _ c.args.layout.passed) c.args.group c.requires.valid c.args.index c.args.depth _ _ (omega (arith, c.len.ensures, c.if-len-index.false)) c.if-depth-gt32.false c.count_at-declared.result c.count_at-declared.ensures _ c.group_spec-spec.ensures.count_tag_is _ _ c.loop-member.cursor c.loop-member.entries c.loop-member.unparseable c.loop-member.invariant leads.0 leads.1 _ leads.2 _ _ w.put_event-to.ensures _ w.events-is _ w.to-is _ w.unparseable-is
    ] in opened.adds _ _ _ _ _ c.scan_entry-entry.ensures _ _ c.put_event-to-then-spec-le256.ensures _ refl

-- let entry = scan_wide(fields, message, words, group, cursor, depth, events, to);
pub walk_group-scan_wide-entry-requires : goal.walk_group-scan_wide-entry-requires
walk_group-scan_wide-entry-requires t c = let opened : EntryOpened c.args.layout.words.now c.args.table.fields.now c.args.table.message.now c.args.enclosing.words.now c.args.group c.args.index c.args.depth c.put_start-to.new.events c.put_start-to.result c.group_spec-spec.result.count_tag c.loop-member.cursor c.loop-member.entries c.match-opening_at.events c.match-opening_at.to c.match-opening_at.unparseable =
    elim c.match-opening_at.branch [
      | walk_group-in-Entry w ↦ let begins = turn-entry c.args.layout.words.now c.args.table.fields.now c.args.table.message.now c.args.enclosing.words.now c.args.group c.count_at-declared.result c.loop-member.entries c.loop-member.cursor _ (level-turn c.args.layout.words.now c.args.group _ _ c.group_spec-spec.ensures.members_are c.group_spec-spec.ensures.delimiter_is c.args.table.fields.now c.args.enclosing.words.now c.count_at-declared.result c.loop-member.entries c.loop-member.cursor _ c.opening_at.ensures) w.in-Entry.is in entry-opens c.args.layout.words.now c.args.table.fields.now c.args.table.message.now c.args.enclosing.words.now (is_layout-passed gate_limits _ c.args.layout.passed) c.args.group c.requires.valid c.args.index c.args.depth _ _ (omega (arith, c.len.ensures, c.if-len-index.false)) c.if-depth-gt32.false c.count_at-declared.result c.count_at-declared.ensures _ c.group_spec-spec.ensures.count_tag_is _ _ c.loop-member.cursor c.loop-member.entries c.loop-member.unparseable c.loop-member.invariant begins.0 begins.1 _ w.events-is _ w.to-is _ w.unparseable-is
      | walk_group-in-Lead w ↦ let leads = turn-lead c.args.layout.words.now c.args.table.fields.now c.args.table.message.now c.args.enclosing.words.now c.args.group c.count_at-declared.result c.loop-member.entries c.loop-member.cursor _ (level-turn c.args.layout.words.now c.args.group _ _ c.group_spec-spec.ensures.members_are c.group_spec-spec.ensures.delimiter_is c.args.table.fields.now c.args.enclosing.words.now c.count_at-declared.result c.loop-member.entries c.loop-member.cursor _ c.opening_at.ensures) _ w.in-Lead.is in lead-opens c.args.layout.words.now c.args.table.fields.now c.args.table.message.now c.args.enclosing.words.now (is_layout-passed gate_limits _ c.args.layout.passed) c.args.group c.requires.valid c.args.index c.args.depth _ _ (omega (arith, c.len.ensures, c.if-len-index.false)) c.if-depth-gt32.false c.count_at-declared.result c.count_at-declared.ensures _ c.group_spec-spec.ensures.count_tag_is _ _ c.loop-member.cursor c.loop-member.entries c.loop-member.unparseable c.loop-member.invariant leads.0 leads.1 _ leads.2 _ _ w.put_event-to.ensures _ w.events-is _ w.to-is _ w.unparseable-is
    ] in (
      omega (arith, c.decreases, opened.inside, c.loop-member.invariant.ahead),
      (
        record {
          valid = c.requires.valid;
          few_members_lem = members-few_here c.args.layout.words.now (is_layout-passed gate_limits _ c.args.layout.passed) (1 + c.args.group) (omega (arith, c.requires.valid));
          taken = opened.taken;
          inside = opened.inside;
          shallow = c.if-depth-gt32.false;
          room = opened.room;
        },
        c.group_spec-spec.ensures,
      ),
    )

-- to = put_event(events, entry.at, tag, depth, close);
pub walk_group-put_event-to-requires-else-spec-le256 : goal.walk_group-put_event-to-requires-else-spec-le256
walk_group-put_event-to-requires-else-spec-le256 t c = let opened : EntryOpened c.args.layout.words.now c.args.table.fields.now c.args.table.message.now c.args.enclosing.words.now c.args.group c.args.index c.args.depth c.put_start-to.new.events c.put_start-to.result c.group_spec-spec.result.count_tag c.loop-member.cursor c.loop-member.entries c.match-opening_at.events c.match-opening_at.to c.match-opening_at.unparseable =
    elim c.match-opening_at.branch [
      | walk_group-in-Entry w ↦ let begins = turn-entry c.args.layout.words.now c.args.table.fields.now c.args.table.message.now c.args.enclosing.words.now c.args.group c.count_at-declared.result c.loop-member.entries c.loop-member.cursor _ (level-turn c.args.layout.words.now c.args.group _ _ c.group_spec-spec.ensures.members_are c.group_spec-spec.ensures.delimiter_is c.args.table.fields.now c.args.enclosing.words.now c.count_at-declared.result c.loop-member.entries c.loop-member.cursor _ c.opening_at.ensures) w.in-Entry.is in entry-opens c.args.layout.words.now c.args.table.fields.now c.args.table.message.now c.args.enclosing.words.now (is_layout-passed gate_limits _ c.args.layout.passed) c.args.group c.requires.valid c.args.index c.args.depth _ _ (omega (arith, c.len.ensures, c.if-len-index.false)) c.if-depth-gt32.false c.count_at-declared.result c.count_at-declared.ensures _ c.group_spec-spec.ensures.count_tag_is _ _ c.loop-member.cursor c.loop-member.entries c.loop-member.unparseable c.loop-member.invariant begins.0 begins.1 _ w.events-is _ w.to-is _ w.unparseable-is
      | walk_group-in-Lead w ↦ let leads = turn-lead c.args.layout.words.now c.args.table.fields.now c.args.table.message.now c.args.enclosing.words.now c.args.group c.count_at-declared.result c.loop-member.entries c.loop-member.cursor _ (level-turn c.args.layout.words.now c.args.group _ _ c.group_spec-spec.ensures.members_are c.group_spec-spec.ensures.delimiter_is c.args.table.fields.now c.args.enclosing.words.now c.count_at-declared.result c.loop-member.entries c.loop-member.cursor _ c.opening_at.ensures) _ w.in-Lead.is in lead-opens c.args.layout.words.now c.args.table.fields.now c.args.table.message.now c.args.enclosing.words.now (is_layout-passed gate_limits _ c.args.layout.passed) c.args.group c.requires.valid c.args.index c.args.depth _ _ (omega (arith, c.len.ensures, c.if-len-index.false)) c.if-depth-gt32.false c.count_at-declared.result c.count_at-declared.ensures _ c.group_spec-spec.ensures.count_tag_is _ _ c.loop-member.cursor c.loop-member.entries c.loop-member.unparseable c.loop-member.invariant leads.0 leads.1 _ leads.2 _ _ w.put_event-to.ensures _ w.events-is _ w.to-is _ w.unparseable-is
    ] in omega (arith, c.scan_wide-entry.ensures.few, c.scan_wide-entry.ensures.within, opened.room, (accepted-few _ _ c.args.table.accepted))

-- entries += 1;
pub walk_group-overflow_add-entries-else-spec-le256 : goal.walk_group-overflow_add-entries-else-spec-le256
walk_group-overflow_add-entries-else-spec-le256 t c = omega (arith, c.loop-member.invariant.ahead, c.loop-member.invariant.within, (accepted-few _ _ c.args.table.accepted))

-- loop {
pub walk_group-loop-member-smaller : goal.walk_group-loop-member-smaller
walk_group-loop-member-smaller t c = omega (arith, c.scan_wide-entry.ensures.moves, c.scan_wide-entry.ensures.within)

pub walk_group-loop-member-preserved : goal.walk_group-loop-member-preserved
walk_group-loop-member-preserved t c = let opened : EntryOpened c.args.layout.words.now c.args.table.fields.now c.args.table.message.now c.args.enclosing.words.now c.args.group c.args.index c.args.depth c.put_start-to.new.events c.put_start-to.result c.group_spec-spec.result.count_tag c.loop-member.cursor c.loop-member.entries c.match-opening_at.events c.match-opening_at.to c.match-opening_at.unparseable =
    elim c.match-opening_at.branch [
      | walk_group-in-Entry w ↦ let begins = turn-entry c.args.layout.words.now c.args.table.fields.now c.args.table.message.now c.args.enclosing.words.now c.args.group c.count_at-declared.result c.loop-member.entries c.loop-member.cursor _ (level-turn c.args.layout.words.now c.args.group _ _ c.group_spec-spec.ensures.members_are c.group_spec-spec.ensures.delimiter_is c.args.table.fields.now c.args.enclosing.words.now c.count_at-declared.result c.loop-member.entries c.loop-member.cursor _ c.opening_at.ensures) w.in-Entry.is in entry-opens c.args.layout.words.now c.args.table.fields.now c.args.table.message.now c.args.enclosing.words.now (is_layout-passed gate_limits _ c.args.layout.passed) c.args.group c.requires.valid c.args.index c.args.depth _ _ (omega (arith, c.len.ensures, c.if-len-index.false)) c.if-depth-gt32.false c.count_at-declared.result c.count_at-declared.ensures _ c.group_spec-spec.ensures.count_tag_is _ _ c.loop-member.cursor c.loop-member.entries c.loop-member.unparseable c.loop-member.invariant begins.0 begins.1 _ w.events-is _ w.to-is _ w.unparseable-is
      | walk_group-in-Lead w ↦ let leads = turn-lead c.args.layout.words.now c.args.table.fields.now c.args.table.message.now c.args.enclosing.words.now c.args.group c.count_at-declared.result c.loop-member.entries c.loop-member.cursor _ (level-turn c.args.layout.words.now c.args.group _ _ c.group_spec-spec.ensures.members_are c.group_spec-spec.ensures.delimiter_is c.args.table.fields.now c.args.enclosing.words.now c.count_at-declared.result c.loop-member.entries c.loop-member.cursor _ c.opening_at.ensures) _ w.in-Lead.is in lead-opens c.args.layout.words.now c.args.table.fields.now c.args.table.message.now c.args.enclosing.words.now (is_layout-passed gate_limits _ c.args.layout.passed) c.args.group c.requires.valid c.args.index c.args.depth _ _ (omega (arith, c.len.ensures, c.if-len-index.false)) c.if-depth-gt32.false c.count_at-declared.result c.count_at-declared.ensures _ c.group_spec-spec.ensures.count_tag_is _ _ c.loop-member.cursor c.loop-member.entries c.loop-member.unparseable c.loop-member.invariant leads.0 leads.1 _ leads.2 _ _ w.put_event-to.ensures _ w.events-is _ w.to-is _ w.unparseable-is
    ] in opened.adds _ _ _ _ _ c.scan_wide-entry.ensures _ _ c.put_event-to-else-spec-le256.ensures _ refl

-- let past = put_end(events, to, tag, depth, declared, unparseable, entries);
pub walk_group-put_end-past-requires : goal.walk_group-put_end-past-requires
walk_group-put_end-past-requires t c = omega (arith, c.loop-member.invariant.room, c.loop-member.invariant.within, (accepted-few _ _ c.args.table.accepted))

-- pub fn walk_group<'a>(
pub walk_group-shape_of-events : goal.walk_group-shape_of-events
walk_group-shape_of-events t c = wrote-length c.put_end-past.ensures ∙ wrote-length c.loop-member.invariant.wrote ∙ wrote-length c.put_start-to.ensures

pub walk_group-returns : goal.walk_group-returns
walk_group-returns t c = group-ended c.args.layout.words.now c.args.table.fields.now c.args.table.message.now c.args.enclosing.words.now (is_layout-passed gate_limits _ c.args.layout.passed) c.args.group c.requires.valid c.args.index c.args.depth _ _ (omega (arith, c.len.ensures, c.if-len-index.false)) c.if-depth-gt32.false c.count_at-declared.result c.count_at-declared.ensures _ c.group_spec-spec.ensures.count_tag_is _ _ c.loop-member.cursor c.loop-member.entries c.loop-member.unparseable c.loop-member.invariant (turn-over c.args.layout.words.now c.args.table.fields.now c.args.table.message.now c.args.enclosing.words.now c.args.group c.count_at-declared.result c.loop-member.entries c.loop-member.cursor _ (level-turn c.args.layout.words.now c.args.group _ _ c.group_spec-spec.ensures.members_are c.group_spec-spec.ensures.delimiter_is c.args.table.fields.now c.args.enclosing.words.now c.count_at-declared.result c.loop-member.entries c.loop-member.cursor _ c.opening_at.ensures) c.in-Over.is).0 (turn-over c.args.layout.words.now c.args.table.fields.now c.args.table.message.now c.args.enclosing.words.now c.args.group c.count_at-declared.result c.loop-member.entries c.loop-member.cursor _ (level-turn c.args.layout.words.now c.args.group _ _ c.group_spec-spec.ensures.members_are c.group_spec-spec.ensures.delimiter_is c.args.table.fields.now c.args.enclosing.words.now c.count_at-declared.result c.loop-member.entries c.loop-member.cursor _ c.opening_at.ensures) c.in-Over.is).1 _ _ c.put_start-to.ensures _ _ c.put_end-past.ensures
