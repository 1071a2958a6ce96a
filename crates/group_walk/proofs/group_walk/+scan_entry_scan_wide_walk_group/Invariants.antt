-- The cycle of calls {scan_entry, scan_wide, walk_group}: each call falls on the fields left and the depth left. The invariants are `EntryWritten` and
-- `GroupWritten`, and the laws those of specs/WalkLoops.antt; `scan_wide` differs from `scan_entry` in the number of words of its set.
use mathlib.Core.Path.{◌≡◌, sym, ap, ◌∙◌}
use Prim.Native.Nat.{◌+◌, ◌-◌, ◌*◌, ◌≤◌}
use Rattle.field_table.specs.FieldTable.{row_count}
use Rattle.group_walk.specs.WalkLoops.{EntryWritten, GroupWritten}
use Prim.Native.Nat.{ℕ, ◌<◌}
use Rattle.group_walk.proofs.group_walk.+scan_entry_scan_wide_walk_group.Given as goal

abbrev pub decreases-scan_entry : goal.decreases-scan_entry
decreases-scan_entry l = (row_count l.table.fields.now - l.start) + (33 - l.depth)

abbrev pub decreases-scan_wide : goal.decreases-scan_wide
decreases-scan_wide l = (row_count l.table.fields.now - l.start) + (33 - l.depth)

abbrev pub decreases-walk_group : goal.decreases-walk_group
decreases-walk_group l = (row_count l.table.fields.now - l.index) + (33 - l.depth)

abbrev pub invariant-scan_entry-loop-rank : goal.invariant-scan_entry-loop-rank
invariant-scan_entry-loop-rank l = EntryWritten l.layout.words.now l.table.fields.now l.table.message.now l.group l.start l.depth l.initial.events l.at 4 l.events l.seen.words l.cursor l.unparseable l.to

abbrev pub decreases-scan_entry-loop-rank : goal.decreases-scan_entry-loop-rank
decreases-scan_entry-loop-rank l = row_count l.table.fields.now - l.cursor

abbrev pub invariant-scan_wide-loop-rank : goal.invariant-scan_wide-loop-rank
invariant-scan_wide-loop-rank l = EntryWritten l.layout.words.now l.table.fields.now l.table.message.now l.group l.start l.depth l.initial.events l.at 128 l.events l.seen.words l.cursor l.unparseable l.to

abbrev pub decreases-scan_wide-loop-rank : goal.decreases-scan_wide-loop-rank
decreases-scan_wide-loop-rank l = row_count l.table.fields.now - l.cursor

abbrev pub invariant-walk_group-loop-member : goal.invariant-walk_group-loop-member
invariant-walk_group-loop-member l = GroupWritten l.layout.words.now l.table.fields.now l.table.message.now l.enclosing.words.now l.group l.index l.depth l.initial.events l.initial.to l.events l.to l.cursor l.entries l.unparseable

abbrev pub decreases-walk_group-loop-member : goal.decreases-walk_group-loop-member
decreases-walk_group-loop-member l = row_count l.table.fields.now - l.cursor
