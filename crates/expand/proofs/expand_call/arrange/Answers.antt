-- `expand::expand_call::arrange` meets its contract: the parts are gathered, counted, and written where there is room. The laws are those of
-- specs/ExpandCallLaws.antt.
use native.Mathlib.Omega.{arith}
use Rattle.expand.specs.ExpandCallLaws.{layout-short, layout-asks, layout-written}
use Rattle.expand.proofs.expand_call.arrange.Goals as goal

pub returns-then-layout-needed : goal.returns-then-layout-needed
returns-then-layout-needed c = record {
  outcome = (layout-short c.args.trace.now _ _ _ c.args.nodes c.gather-all.result c.gather-all.ensures (omega (arith, c.requires.1, c.gather-all.auto.members)) (omega (arith, c.requires.2, c.gather-all.auto.required)) c.requires.3 c.args.layout.now c.if-layout-needed.true).0;
  memory = (layout-short c.args.trace.now _ _ _ c.args.nodes c.gather-all.result c.gather-all.ensures (omega (arith, c.requires.1, c.gather-all.auto.members)) (omega (arith, c.requires.2, c.gather-all.auto.required)) c.requires.3 c.args.layout.now c.if-layout-needed.true).1;
}

-- put_layout(
pub put_layout-requires : goal.put_layout-requires
put_layout-requires c = layout-asks c.args.trace.now _ _ _ c.args.nodes c.gather-all.result c.gather-all.ensures (omega (arith, c.requires.1, c.gather-all.auto.members)) (omega (arith, c.requires.2, c.gather-all.auto.required)) c.requires.3 c.args.layout.now (omega (arith, c.if-layout-needed.false))

pub returns : goal.returns
returns c = record {
  outcome = (layout-written c.args.trace.now _ _ _ c.args.nodes c.gather-all.result c.gather-all.ensures (omega (arith, c.requires.1, c.gather-all.auto.members)) (omega (arith, c.requires.2, c.gather-all.auto.required)) c.requires.3 c.args.layout.now (omega (arith, c.if-layout-needed.false)) _ c.put_layout.ensures).0;
  memory = (layout-written c.args.trace.now _ _ _ c.args.nodes c.gather-all.result c.gather-all.ensures (omega (arith, c.requires.1, c.gather-all.auto.members)) (omega (arith, c.requires.2, c.gather-all.auto.required)) c.requires.3 c.args.layout.now (omega (arith, c.if-layout-needed.false)) _ c.put_layout.ensures).1;
}
