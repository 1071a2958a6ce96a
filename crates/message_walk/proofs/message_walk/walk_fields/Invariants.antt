-- `message_walk::message_walk::walk_fields` meets its contract. The loop's invariant is `TurnsWritten` (specs/MessageTurnLaws.antt).
use mathlib.Core.Path.{sym, ap, ◌∙◌}
use Prim.Native.Nat.{ℕ, ◌-◌}
use native.Mathlib.Omega.{arith}
use lib.ListN.{length, length-replicate}
use Rattle.field_table.specs.FieldTable.{row_count}
use Rattle.events.specs.EventSpaceLaws.{wrote-length}
use Rattle.message_level.specs.SeenTags.{seen_words}
use Rattle.message_walk.specs.MessageTurnLaws.{TurnsWritten, turns_start, turn-asks, turn-moves, turns_more, turns_over}
use borrow.Author.Rules.{rules}
use Rattle.message_walk.proofs.message_walk.walk_fields.Given as goal

abbrev pub invariant-loop-index : goal.invariant-loop-index
invariant-loop-index l = TurnsWritten l.defined.tags.words.now l.layout.words.now l.table.fields.now l.table.message.now l.initial.events l.seen l.events l.index l.at

abbrev pub decreases-loop-index : goal.decreases-loop-index
decreases-loop-index l = row_count l.table.fields.now - l.index
