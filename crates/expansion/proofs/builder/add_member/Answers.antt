-- `expansion::builder::add_member` meets its contract, within the limit and over it, by the laws of specs/TraceLaws.antt.
use Rattle.expansion.specs.TraceLaws.{adds_member, adds-member_full, adds-member_over, member-grows, grown_grows, stopped_grows}
use Rattle.expansion.proofs.builder.add_member.Goals as goal

pub returns-then-builder-ge-MEMBERS : goal.returns-then-builder-ge-MEMBERS
returns-then-builder-ge-MEMBERS c = record {
  change = adds-member_over _ _ _ c.ranges.tag.fits c.requires c.if-builder-ge-MEMBERS.true;
  grows = stopped_grows _ _;
}

pub returns-then-builder-trace : goal.returns-then-builder-trace
returns-then-builder-trace c = record {
  change = adds-member_full _ _ _ c.ranges.tag.fits c.requires c.if-builder-ge-MEMBERS.false c.if-builder-trace.true;
  grows = stopped_grows _ _;
}

pub returns : goal.returns
returns c = record {
  change = rw c.from.ensures (adds_member _ _ _ c.ranges.tag.fits c.requires c.if-builder-ge-MEMBERS.false c.if-builder-trace.false);
  grows = grown_grows _ _ (member-grows _ c.args.trace.now c.args.tag c.ranges.tag.fits c.requires c.if-builder-ge-MEMBERS.false);
}
