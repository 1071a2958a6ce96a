-- `expansion::builder::leave_group` meets its contract, by the laws of specs/TraceLaws.antt.
use Rattle.expansion.specs.TraceLaws.{leaves, leaves-full}
use Rattle.expansion.proofs.builder.leave_group.Goals as goal

pub returns-then-builder-trace : goal.returns-then-builder-trace
returns-then-builder-trace c = record { change = leaves-full _ _ _ c.ranges.delimiter.fits c.requires.0 c.requires.1 c.if-builder-trace.true }

pub returns : goal.returns
returns c = record { change = rw c.from.ensures (leaves _ _ _ c.ranges.delimiter.fits c.requires.0 c.requires.1 c.if-builder-trace.false) }
