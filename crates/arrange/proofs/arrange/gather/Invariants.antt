-- `arrange::arrange::gather` meets its contract. The loop's invariant is `GatheredSoFar`; the laws are those of specs/ArrangeGatherLaws.antt.
use mathlib.Core.Path.{◌≡◌}
use Prim.Native.Nat.{◌-◌}
use lib.ListN.{length}
use Rattle.arrange.specs.ArrangeGather.{level_count, GatherRoom, GatheredSoFar}
use Rattle.arrange.proofs.arrange.gather.Given as goal

abbrev pub invariant-loop-state : goal.invariant-loop-state
invariant-loop-state l = GatherRoom l.trace l.members l.required l.tags l.rows × GatheredSoFar l.trace l.members l.required l.rows l.state
    × (length l.members ≡ length l.initial.members) × (length l.required ≡ length l.initial.required) × (length l.tags ≡ length l.initial.tags) × (length l.rows ≡ length l.initial.rows)

abbrev pub decreases-loop-state : goal.decreases-loop-state
decreases-loop-state l = level_count l.trace - l.state.level
