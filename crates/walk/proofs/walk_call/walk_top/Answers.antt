-- `walk::walk_call::walk_top` meets its contract. The laws are those of specs/WalkCallLaws.antt.
use native.Mathlib.Omega.{arith}
use Rattle.layouts.specs.Limits.{gate_limits}
use Rattle.layouts.specs.LayoutCheckFacts.{is_layout-passed}
use Rattle.walk.specs.WalkCallLaws.{refused-group, group-valid, group-found, needs_few, walk_answers}
use borrow.Author.Rules.{rules}
use Rattle.walk.proofs.walk_call.walk_top.Goals as goal

pub returns-in_default : goal.returns-in_default
returns-in_default c = record {
  outcome = (refused-group c.args.layout.words.now c.args.table.fields.now c.args.table.message.now c.args.position c.args.tag c.args.events.now _ c.top_group.ensures c.in_default.is).0;
  memory = (refused-group c.args.layout.words.now c.args.table.fields.now c.args.table.message.now c.args.position c.args.tag c.args.events.now _ c.top_group.ensures c.in_default.is).1;
}

-- return count_first(layout, fields, message, position, group, events);
pub count_first-requires : goal.count_first-requires
count_first-requires c = (group-valid c.args.layout.words.now c.args.table.fields.now c.args.table.message.now c.args.position c.args.tag c.args.events.now _ c.top_group.ensures _ c.in-Some.is (is_layout-passed gate_limits _ c.args.layout.passed))

pub returns-then-events-most : goal.returns-then-events-most
returns-then-events-most c = record {
  outcome = (group-found c.args.layout.words.now c.args.table.fields.now c.args.table.message.now c.args.position c.args.tag c.args.events.now _ c.top_group.ensures _ c.in-Some.is _ _ c.count_first.ensures.outcome c.count_first.ensures.memory).0;
  memory = (group-found c.args.layout.words.now c.args.table.fields.now c.args.table.message.now c.args.position c.args.tag c.args.events.now _ c.top_group.ensures _ c.in-Some.is _ _ c.count_first.ensures.outcome c.count_first.ensures.memory).1;
}

-- let end = group_walk::group_walk::walk_group(
pub walk_group-end-requires : goal.walk_group-end-requires
walk_group-end-requires c = record { valid = (group-valid c.args.layout.words.now c.args.table.fields.now c.args.table.message.now c.args.position c.args.tag c.args.events.now _ c.top_group.ensures _ c.in-Some.is (is_layout-passed gate_limits _ c.args.layout.passed)); shallow = omega arith; room = omega arith }

pub returns : goal.returns
returns c = record {
  outcome = (let answers = walk_answers c.args.layout.words.now c.args.table.fields.now c.args.table.message.now (is_layout-passed gate_limits _ c.args.layout.passed) _ c.args.position (group-valid c.args.layout.words.now c.args.table.fields.now c.args.table.message.now c.args.position c.args.tag c.args.events.now _ c.top_group.ensures _ c.in-Some.is (is_layout-passed gate_limits _ c.args.layout.passed)) _ c.members_at-top.ensures _ _ _ _ c.walk_group-end.ensures (omega (arith, needs_few c.args.layout.words.now c.args.table.fields.now c.args.table.message.now (is_layout-passed gate_limits _ c.args.layout.passed) _ c.args.position (group-valid c.args.layout.words.now c.args.table.fields.now c.args.table.message.now c.args.position c.args.tag c.args.events.now _ c.top_group.ensures _ c.in-Some.is (is_layout-passed gate_limits _ c.args.layout.passed)), c.most_words-most.ensures, c.if-events-most.false)) in
      group-found c.args.layout.words.now c.args.table.fields.now c.args.table.message.now c.args.position c.args.tag c.args.events.now _ c.top_group.ensures _ c.in-Some.is _ _ answers.0 answers.1).0;
  memory = (let answers = walk_answers c.args.layout.words.now c.args.table.fields.now c.args.table.message.now (is_layout-passed gate_limits _ c.args.layout.passed) _ c.args.position (group-valid c.args.layout.words.now c.args.table.fields.now c.args.table.message.now c.args.position c.args.tag c.args.events.now _ c.top_group.ensures _ c.in-Some.is (is_layout-passed gate_limits _ c.args.layout.passed)) _ c.members_at-top.ensures _ _ _ _ c.walk_group-end.ensures (omega (arith, needs_few c.args.layout.words.now c.args.table.fields.now c.args.table.message.now (is_layout-passed gate_limits _ c.args.layout.passed) _ c.args.position (group-valid c.args.layout.words.now c.args.table.fields.now c.args.table.message.now c.args.position c.args.tag c.args.events.now _ c.top_group.ensures _ c.in-Some.is (is_layout-passed gate_limits _ c.args.layout.passed)), c.most_words-most.ensures, c.if-events-most.false)) in
      group-found c.args.layout.words.now c.args.table.fields.now c.args.table.message.now c.args.position c.args.tag c.args.events.now _ c.top_group.ensures _ c.in-Some.is _ _ answers.0 answers.1).1;
}
