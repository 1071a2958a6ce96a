-- `message_walk::message_walk::walk_place` meets its contract. The laws are those of specs/MessageTurnLaws.antt.
use native.Mathlib.Omega.{arith}
use Rattle.walk_steps.specs.WalkWordsLaws.{top-ascends}
use Rattle.layouts.specs.Limits.{gate_limits}
use Rattle.layouts.specs.LayoutCheckFacts.{is_layout-passed}
use Rattle.field_table.specs.FieldTableLaws.{accepted-few}
use Rattle.message_walk.specs.MessageTurnLaws.{place-plain, group-valid, place-group}
use borrow.Author.Rules.{rules}
use Rattle.message_walk.proofs.message_walk.walk_place.Goals as goal

pub returns-in_default : goal.returns-in_default
returns-in_default c = place-plain c.args.layout.words.now c.args.table.fields.now c.args.table.message.now (is_layout-passed gate_limits _ c.args.layout.passed) c.args.index c.args.tag c.args.at c.requires _ c.top_group.ensures c.in_default.is _ _ _ c.put_foreign-past.ensures

-- walk_group(fields, message, layout, top, group, index, 0, events, at)
pub walk_group-requires : goal.walk_group-requires
walk_group-requires c = record {
  valid = group-valid c.args.layout.words.now c.args.table.fields.now c.args.table.message.now (is_layout-passed gate_limits _ c.args.layout.passed) c.args.index c.args.tag c.args.at c.requires _ c.top_group.ensures _ c.in-Some.is;
  shallow = omega arith;
  room = c.requires.room;
}

pub returns : goal.returns
returns c = place-group c.args.layout.words.now c.args.table.fields.now c.args.table.message.now (is_layout-passed gate_limits _ c.args.layout.passed) c.args.index c.args.tag c.args.at c.requires _ c.top_group.ensures _ c.in-Some.is _ c.members_at-top.ensures _ _ _ _ c.walk_group.ensures

pub put_foreign-past-requires : goal.put_foreign-past-requires
put_foreign-past-requires c = omega (arith, c.requires.inside, c.requires.room, accepted-few _ _ c.args.table.accepted)
