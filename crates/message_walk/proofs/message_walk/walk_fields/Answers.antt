-- `message_walk::message_walk::walk_fields` meets its contract. The loop's invariant is `TurnsWritten` (specs/MessageTurnLaws.antt).
use mathlib.Core.Path.{sym, ap, ◌∙◌}
use Prim.Native.Nat.{ℕ, ◌-◌}
use native.Mathlib.Omega.{arith}
use lib.ListN.{length, length-replicate}
use Rattle.field_table.specs.FieldTable.{row_count}
use Rattle.events.specs.EventSpaceLaws.{wrote-length}
use Rattle.message_level.specs.SeenTags.{seen_words}
use Rattle.message_walk.specs.MessageTurnLaws.{lent_of, TurnsWritten, turns_start, turn-asks, turn-moves, turns_more, turns_over}
use borrow.Author.Rules.{rules}
use Rattle.message_walk.proofs.message_walk.walk_fields.Goals as goal

-- while index < rows {
pub loop-index-init : goal.loop-index-init
loop-index-init c = turns_start c.args.defined.now.tags.words.now c.args.layout.words.now c.args.table.fields.now c.args.table.message.now c.args.events.now (lent_of c.args.defined.now.tags.ascends c.args.defined.now.few_tags c.args.layout.passed c.args.layout.few_groups c.args.table.accepted) _ c.requires

-- let end = walk_field(defined, layout, fields, message, index, seen, events, at);
pub walk_field-end-requires : goal.walk_field-end-requires
walk_field-end-requires c = turn-asks c.args.defined.now.tags.words.now c.args.layout.words.now c.args.table.fields.now c.args.table.message.now c.args.events.now (lent_of c.args.defined.now.tags.ascends c.args.defined.now.few_tags c.args.layout.passed c.args.layout.few_groups c.args.table.accepted) _ _ c.loop-index.index c.loop-index.at c.loop-index.invariant (omega (arith, c.loop-index-test.true, c.len-rows.ensures))

-- while index < rows {
pub loop-index-smaller : goal.loop-index-smaller
loop-index-smaller c = omega (arith, turn-moves c.args.defined.now.tags.words.now c.args.layout.words.now c.args.table.fields.now c.args.table.message.now c.args.events.now (lent_of c.args.defined.now.tags.ascends c.args.defined.now.few_tags c.args.layout.passed c.args.layout.few_groups c.args.table.accepted) _ _ c.loop-index.index c.loop-index.at c.loop-index.invariant (omega (arith, c.loop-index-test.true, c.len-rows.ensures)) _ _ _ _ c.walk_field-end.ensures, c.loop-index-test.true, c.len-rows.ensures)

pub loop-index-preserved : goal.loop-index-preserved
loop-index-preserved c = turns_more c.args.defined.now.tags.words.now c.args.layout.words.now c.args.table.fields.now c.args.table.message.now c.args.events.now (lent_of c.args.defined.now.tags.ascends c.args.defined.now.few_tags c.args.layout.passed c.args.layout.few_groups c.args.table.accepted) _ _ c.loop-index.index c.loop-index.at c.loop-index.invariant (omega (arith, c.loop-index-test.true, c.len-rows.ensures)) _ _ _ _ c.walk_field-end.ensures

-- pub fn walk_fields(
pub shape_of-seen : goal.shape_of-seen
shape_of-seen c = c.loop-index.invariant.kept.stands.wide ∙ sym (ap length c.requires ∙ length-replicate {A = ℕ} seen_words 0)

pub shape_of-events : goal.shape_of-events
shape_of-events c = wrote-length c.loop-index.invariant.wrote

pub returns : goal.returns
returns c = turns_over c.args.defined.now.tags.words.now c.args.layout.words.now c.args.table.fields.now c.args.table.message.now c.args.events.now (lent_of c.args.defined.now.tags.ascends c.args.defined.now.few_tags c.args.layout.passed c.args.layout.few_groups c.args.table.accepted) _ _ c.loop-index.index c.loop-index.at c.loop-index.invariant (omega (arith, c.loop-index-test.false, c.len-rows.ensures))
