-- `expansion::builder::spend` meets its contract, a case at a time, by the laws of specs/TraceLaws.antt.
use Rattle.expansion.specs.TraceLaws.{spends_deep, spends_node, spends_over, node-grows, grown_grows, stopped_grows}
use Rattle.expansion.proofs.builder.spend.Goals as goal

pub returns-then-depth_left-eq0 : goal.returns-then-depth_left-eq0
returns-then-depth_left-eq0 c = record { change = spends_deep _ _ _ c.if-depth_left-eq0.true; grows = stopped_grows _ _ }

pub returns-then-builder-ge-NODES : goal.returns-then-builder-ge-NODES
returns-then-builder-ge-NODES c = record { change = spends_over _ _ _ c.if-depth_left-eq0.false c.if-builder-ge-NODES.true; grows = stopped_grows _ _ }

pub returns : goal.returns
returns c = record {
  change = spends_node _ _ _ c.if-depth_left-eq0.false c.if-builder-ge-NODES.false;
  grows = grown_grows _ _ (node-grows _ c.args.name c.requires c.if-builder-ge-NODES.false);
}
