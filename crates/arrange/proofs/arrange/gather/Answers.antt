-- `arrange::arrange::gather` meets its contract. The loop's invariant is `GatheredSoFar`; the laws are those of specs/ArrangeGatherLaws.antt.
use mathlib.Core.Path.{refl}
use native.Mathlib.Omega.{arith}
use lib.ListN.{set, length-set}
use Rattle.arrange.specs.ArrangeGatherLaws.{first-inside, gathered-begins, first-room, gathered-in}
use Rattle.arrange.proofs.arrange.gather.Goals as goal

-- rows[0] = 0;
pub bounds-rows-0 : goal.bounds-rows-0
bounds-rows-0 c = omega (arith, first-inside c.args.trace.now c.args.members.now c.args.required.now c.args.tags.now c.args.rows.now c.requires)

-- rows[2] = 0;
pub bounds-rows-2 : goal.bounds-rows-2
bounds-rows-2 c = omega (arith, first-inside c.args.trace.now c.args.members.now c.args.required.now c.args.tags.now c.args.rows.now c.requires, length-set c.args.rows.now 0 0)

-- rows[3] = 0;
pub bounds-rows-3 : goal.bounds-rows-3
bounds-rows-3 c = omega (arith, first-inside c.args.trace.now c.args.members.now c.args.required.now c.args.tags.now c.args.rows.now c.requires, length-set c.args.rows.now 0 0, length-set (set c.args.rows.now 0 0) 2 0)

-- while state.level < state.levels {
pub loop-state-init : goal.loop-state-init
loop-state-init c = (first-room c.args.trace.now c.args.members.now c.args.required.now c.args.tags.now c.args.rows.now c.requires, gathered-begins c.args.trace.now c.args.members.now c.args.required.now c.args.tags.now c.args.rows.now c.requires, refl, refl, refl, refl)

pub returns : goal.returns
returns c = gathered-in _ _ _ _ _ c.loop-state.invariant.1 c.loop-state-test.false c.loop-state.invariant.0.for_rows c.loop-state.invariant.0.for_members c.loop-state.invariant.0.for_required
