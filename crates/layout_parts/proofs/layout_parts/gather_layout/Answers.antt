-- `layout_parts::layout_parts::gather_layout` meets its contract. The loop's invariant is `GatherSoFar` (specs/GatherLoop.antt).
use mathlib.Core.Path.{refl, ◌∙◌}
use native.Mathlib.Omega.{arith}
use Rattle.layout_parts.specs.GatherLoop.{top-room, gather_begins, gather_ends, start-inside, number_inside, next-room, next-sizes, gather_goes_on}
use Rattle.layout_parts.proofs.layout_parts.gather_layout.Goals as goal

-- let mut parts = gather_level(text, 0, 0, members, required, rows, starts, none);
pub gather_level-parts-requires : goal.gather_level-parts-requires
gather_level-parts-requires c = top-room _ _ _ _ _ c.requires _ refl refl refl

-- while number < parts.groups {
pub loop-number-init : goal.loop-number-init
loop-number-init c = (gather_begins _ _ _ _ _ c.requires _ refl refl refl _ _ _ _ _ c.gather_level-parts.ensures, refl, refl, refl, refl)

pub bounds-starts-number : goal.bounds-starts-number
bounds-starts-number c = start-inside _ _ _ _ _ _ _ c.loop-number.invariant.0 c.loop-number-test.true

-- parts = gather_level(
pub gather_level-parts-requires-in-loop-number : goal.gather_level-parts-requires-in-loop-number
gather_level-parts-requires-in-loop-number c = next-room _ _ _ _ _ _ _ c.loop-number.invariant.0 c.loop-number-test.true _ refl

-- while number < parts.groups {
pub loop-number-smaller : goal.loop-number-smaller
loop-number-smaller c = omega (arith, number_inside _ _ _ _ _ _ _ c.loop-number.invariant.0 c.loop-number-test.true)

pub loop-number-preserved : goal.loop-number-preserved
loop-number-preserved c = (gather_goes_on _ _ _ _ _ _ _ c.loop-number.invariant.0 c.loop-number-test.true _ refl _ _ _ _ _ c.gather_level-parts-in-loop-number.ensures, (next-sizes _ _ _ _ _ _ _ c.loop-number.invariant.0 c.loop-number-test.true _ refl _ _ _ _ _ c.gather_level-parts-in-loop-number.ensures).0 ∙ c.loop-number.invariant.1, (next-sizes _ _ _ _ _ _ _ c.loop-number.invariant.0 c.loop-number-test.true _ refl _ _ _ _ _ c.gather_level-parts-in-loop-number.ensures).1 ∙ c.loop-number.invariant.2, (next-sizes _ _ _ _ _ _ _ c.loop-number.invariant.0 c.loop-number-test.true _ refl _ _ _ _ _ c.gather_level-parts-in-loop-number.ensures).2 ∙ c.loop-number.invariant.3, (next-sizes _ _ _ _ _ _ _ c.loop-number.invariant.0 c.loop-number-test.true _ refl _ _ _ _ _ c.gather_level-parts-in-loop-number.ensures).3 ∙ c.loop-number.invariant.4)

pub returns : goal.returns
returns c = gather_ends _ _ _ _ _ _ _ c.loop-number.invariant.0 c.loop-number-test.false
