-- `walk::walk_call::count_first` meets its contract. The laws are those of specs/WalkCallLaws.antt.
use native.Mathlib.Omega.{arith}
use Rattle.layouts.specs.Limits.{gate_limits}
use Rattle.layouts.specs.LayoutCheckFacts.{is_layout-passed}
use Rattle.walk.specs.WalkCallLaws.{space_short, space-holds}
use borrow.Author.Rules.{rules}
use Rattle.walk.proofs.walk_call.count_first.Goals as goal

-- let counted = group_walk::group_walk::walk_group(
pub walk_group-counted-requires : goal.walk_group-counted-requires
walk_group-counted-requires c = record { valid = c.requires; shallow = omega arith; room = omega arith }

pub returns-then-events-needed : goal.returns-then-events-needed
returns-then-events-needed c = record {
  outcome = (space_short c.args.layout.words.now c.args.table.fields.now c.args.table.message.now (is_layout-passed gate_limits _ c.args.layout.passed) c.args.group c.args.position c.requires _ c.members_at-top.ensures c.args.events.now _ _ _ c.walk_group-counted.ensures c.if-events-needed.true).0;
  memory = (space_short c.args.layout.words.now c.args.table.fields.now c.args.table.message.now (is_layout-passed gate_limits _ c.args.layout.passed) c.args.group c.args.position c.requires _ c.members_at-top.ensures c.args.events.now _ _ _ c.walk_group-counted.ensures c.if-events-needed.true).1;
}

-- let end = group_walk::group_walk::walk_group(
pub walk_group-end-requires : goal.walk_group-end-requires
walk_group-end-requires c = record { valid = c.requires; shallow = omega arith; room = omega arith }

pub returns : goal.returns
returns c = record {
  outcome = (space-holds c.args.layout.words.now c.args.table.fields.now c.args.table.message.now (is_layout-passed gate_limits _ c.args.layout.passed) c.args.group c.args.position c.requires _ c.members_at-top.ensures c.args.events.now _ _ _ c.walk_group-counted.ensures c.if-events-needed.false _ _ _ c.walk_group-end.ensures).0;
  memory = (space-holds c.args.layout.words.now c.args.table.fields.now c.args.table.message.now (is_layout-passed gate_limits _ c.args.layout.passed) c.args.group c.args.position c.requires _ c.members_at-top.ensures c.args.events.now _ _ _ c.walk_group-counted.ensures c.if-events-needed.false _ _ _ c.walk_group-end.ensures).1;
}
