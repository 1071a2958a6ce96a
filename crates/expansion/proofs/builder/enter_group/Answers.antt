-- `expansion::builder::enter_group` meets its contract, within the limit and over it, by the laws of specs/TraceLaws.antt.
use Rattle.expansion.specs.TraceLaws.{enters, enters-full, enters-over, enter_grows, grown_grows, stopped_grows}
use Rattle.expansion.specs.StepsLaws.{entering-word}
use Rattle.expansion.proofs.builder.enter_group.Goals as goal

pub returns-then-builder-ge-MEMBERS : goal.returns-then-builder-ge-MEMBERS
returns-then-builder-ge-MEMBERS c = record {
  change = enters-over _ _ _ _ _ 0 c.ranges.delimiter.fits c.requires c.if-builder-ge-MEMBERS.true;
  grows = stopped_grows _ _;
}

pub returns-then-builder-trace : goal.returns-then-builder-trace
returns-then-builder-trace c = record {
  change = enters-full _ _ _ _ _ 0 c.ranges.delimiter.fits c.requires c.if-builder-ge-MEMBERS.false c.if-builder-trace.true;
  grows = stopped_grows _ _;
}

pub returns : goal.returns
returns c = record {
  change = rw (c.from.ensures, c.from-2.ensures) (enters _ _ _ _ _ _ c.ranges.delimiter.fits c.requires (entering-word c.args.count c.args.required c.ranges.count.fits) c.if-builder-ge-MEMBERS.false c.if-builder-trace.false);
  grows = grown_grows _ _ (enter_grows _ c.args.trace.now c.args.count c.args.required c.args.delimiter 0 c.ranges.delimiter.fits c.requires c.if-builder-ge-MEMBERS.false);
}
