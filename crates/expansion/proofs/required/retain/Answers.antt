-- `expansion::required::retain` meets its contract. The loop's invariant is `RetainSoFar`; the laws are those of specs/RetainedLaws.antt.
use mathlib.Core.Path.{sym, ◌∙◌}
use native.Mathlib.Omega.{arith}
use lib.Seq.{length-take-le}
use Rattle.expansion.specs.RetainedLaws.{retain_begins, retain_drops, retain_keeps, retain_ends}
use Rattle.std.proofs.Common.{◌<◌, length}
use Rattle.expansion.proofs.required.retain.Goals as goal
use Rattle.expansion.proofs.required.retain.Goals.{then-not-is_dropped, else-not-is_dropped}

-- for index in 0..required.len() {
pub loop-index-init : goal.loop-index-init
loop-index-init c = retain_begins _ _

pub slice_bounds-is_dropped-end-in-loop-index : goal.slice_bounds-is_dropped-end-in-loop-index
slice_bounds-is_dropped-end-in-loop-index c = sym (length-take-le c.loop-index.kept c.loop-index.required (omega (arith, c.loop-index.invariant.order, c.loop-index.invariant.within, c.loop-index.invariant.size)))

pub loop-index-preserved : goal.loop-index-preserved
loop-index-preserved c =
    let inside : c.loop-index.index < length c.loop-index.required = omega (arith, c.loop-index.auto.required, c.loop-index-test.true) in
    elim c.if-not-is_dropped.branch [
      | then-not-is_dropped w ↦ rw (w.required-is, w.kept-is) (retain_keeps _ _ _ _ _ c.loop-index.invariant inside (sym c.is_dropped.ensures ∙ w.if-not-is_dropped.true))
      | else-not-is_dropped w ↦ rw (w.required-is, w.kept-is) (retain_drops _ _ _ _ _ c.loop-index.invariant inside (sym c.is_dropped.ensures ∙ w.if-not-is_dropped.false))
    ]

-- pub fn retain(required: &mut [u32], delimiter: u32) -> usize
pub shape_of-required : goal.shape_of-required
shape_of-required c = c.loop-index.invariant.size

pub returns : goal.returns
returns c = record {
  outcome = (retain_ends _ _ _ _ _ c.loop-index.invariant (omega (arith, c.loop-index.invariant.size, c.loop-index-test.false))).0;
  memory = (retain_ends _ _ _ _ _ c.loop-index.invariant (omega (arith, c.loop-index.invariant.size, c.loop-index-test.false))).1;
}
