-- `expansion::builder::add_required` meets its contract, within the limit and over it, by the laws of specs/TraceLaws.antt.
use Rattle.expansion.specs.TraceLaws.{adds_required, adds-required_full, adds-required_over, required-grows, grown_grows, stopped_grows}
use Rattle.expansion.proofs.builder.add_required.Goals as goal

pub returns-then-builder-ge-REQUIRED : goal.returns-then-builder-ge-REQUIRED
returns-then-builder-ge-REQUIRED c = record {
  change = adds-required_over _ _ _ c.ranges.tag.fits c.requires c.if-builder-ge-REQUIRED.true;
  grows = stopped_grows _ _;
}

pub returns-then-builder-trace : goal.returns-then-builder-trace
returns-then-builder-trace c = record {
  change = adds-required_full _ _ _ c.ranges.tag.fits c.requires c.if-builder-ge-REQUIRED.false c.if-builder-trace.true;
  grows = stopped_grows _ _;
}

pub returns : goal.returns
returns c = record {
  change = rw c.from.ensures (adds_required _ _ _ c.ranges.tag.fits c.requires c.if-builder-ge-REQUIRED.false c.if-builder-trace.false);
  grows = grown_grows _ _ (required-grows _ c.args.trace.now c.args.tag c.ranges.tag.fits c.requires c.if-builder-ge-REQUIRED.false);
}
