-- `arrange_level::arrange_level::behind_group` meets its contract. The loop's invariant is `PassedSoFar`; the laws are those of specs/ArrangeLevelLaws.antt.
use native.Mathlib.Omega.{arith}
use lib.ListN.{length}
use Rattle.expansion.specs.StepsLaws.{step-told, step-inside}
use Rattle.arrange_level.specs.ArrangeLevelLaws.{passed_over, passed-enters, passed-leaves, passed-leaves_last, passed-ends}
use Rattle.std.proofs.Common.{◌≡◌}
use Rattle.arrange_level.proofs.arrange_level.behind_group.Goals as goal
use Rattle.arrange_level.proofs.arrange_level.behind_group.Goals.{in-Enter, in-Leave+else-groups-eq1, in_default}

-- return index + 1;
pub returns-then-groups-eq1 : goal.returns-then-groups-eq1
returns-then-groups-eq1 c = passed-leaves_last _ _ _ _ c.loop-index.invariant c.loop-index-test.true (step-told _ _ _ c.from.ensures c.in-Leave.is).0 c.if-groups-eq1.true

pub loop-index-preserved : goal.loop-index-preserved
loop-index-preserved c =
    elim c.match-from.branch [
      | in-Enter w ↦ rw w.groups-is (passed-enters _ _ _ _ c.loop-index.invariant c.loop-index-test.true (step-told _ _ _ c.from.ensures w.in-Enter.is).0)
      | in-Leave+else-groups-eq1 w ↦ rw w.groups-is (passed-leaves _ _ _ _ c.loop-index.invariant c.loop-index-test.true (step-told _ _ _ c.from.ensures w.in-Leave.is).0 w.if-groups-eq1.false)
      | in_default w ↦
          let inside = step-inside _ _ c.from.ensures w.in_default.not-Enter w.in_default.not-Leave in
          rw w.groups-is (passed_over _ _ _ _ c.loop-index.invariant c.loop-index-test.true inside.0 inside.1)
    ]

-- pub fn behind_group(trace: &[u64], place: usize) -> usize
pub returns : goal.returns
returns c =
    let whole : length c.args.trace.now ≡ c.loop-index.index = omega (arith, c.loop-index.invariant.within, c.loop-index-test.false) in
    rw whole (passed-ends _ _ _ _ c.loop-index.invariant c.loop-index-test.false)
