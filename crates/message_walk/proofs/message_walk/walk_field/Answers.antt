-- `message_walk::message_walk::walk_field` meets its contract. The laws are those of specs/MessageTurnLaws.antt.
use native.Mathlib.Omega.{arith}
use Rattle.field_table.specs.FieldTableLaws.{accepted-few}
use Rattle.message_walk.specs.MessageTurnLaws.{lent_of, turn-skips, rank_inside, twice-room, turn-taken}
use borrow.Author.Rules.{rules}
use Rattle.message_walk.proofs.message_walk.walk_field.Goals as goal

-- return GroupEnd { next, at };
pub returns-in_default : goal.returns-in_default
returns-in_default c = λ tags kept. turn-skips c.args.defined.now.tags.words.now c.args.layout.words.now c.args.table.fields.now c.args.table.message.now (lent_of c.args.defined.now.tags.ascends c.args.defined.now.few_tags c.args.layout.passed c.args.layout.few_groups c.args.table.accepted) c.args.seen.now c.args.index c.args.at c.requires _ c.tag_at-tag.ensures _ (λ ascends. c.binary_search.ensures) c.in_default.is _ tags kept

-- let fresh = insert(seen, rank);
pub insert-fresh-requires : goal.insert-fresh-requires
insert-fresh-requires c = rank_inside c.args.defined.now.tags.words.now c.args.layout.words.now c.args.table.fields.now c.args.table.message.now (lent_of c.args.defined.now.tags.ascends c.args.defined.now.few_tags c.args.layout.passed c.args.layout.few_groups c.args.table.accepted) c.args.seen.now c.args.index c.args.at c.requires _ c.tag_at-tag.ensures _ (λ ascends. c.binary_search.ensures) _ c.in-Some.is

-- walk_place(layout, fields, message, index, tag, events, to)
pub walk_place-requires : goal.walk_place-requires
walk_place-requires c = record { inside = c.requires.inside; tag_is = c.tag_at-tag.ensures; room = omega (arith, twice-room c.args.defined.now.tags.words.now c.args.layout.words.now c.args.table.fields.now c.args.table.message.now (lent_of c.args.defined.now.tags.ascends c.args.defined.now.few_tags c.args.layout.passed c.args.layout.few_groups c.args.table.accepted) c.args.seen.now c.args.index c.args.at c.requires _ c.tag_at-tag.ensures _ (λ ascends. c.binary_search.ensures) _ c.in-Some.is _ _ c.insert-fresh.ensures.outcome c.insert-fresh.ensures.memory _ _ _ c.put_twice-to.ensures, c.requires.room) }

pub returns : goal.returns
returns c = λ tags kept. turn-taken c.args.defined.now.tags.words.now c.args.layout.words.now c.args.table.fields.now c.args.table.message.now (lent_of c.args.defined.now.tags.ascends c.args.defined.now.few_tags c.args.layout.passed c.args.layout.few_groups c.args.table.accepted) c.args.seen.now c.args.index c.args.at c.requires _ c.tag_at-tag.ensures _ (λ ascends. c.binary_search.ensures) _ c.in-Some.is _ _ c.insert-fresh.ensures.outcome c.insert-fresh.ensures.memory _ _ _ c.put_twice-to.ensures _ _ _ c.walk_place.ensures tags kept

pub put_twice-to-requires : goal.put_twice-to-requires
put_twice-to-requires c = omega (arith, c.requires.inside, c.requires.room, accepted-few _ _ c.args.table.accepted)
