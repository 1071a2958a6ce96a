-- `arrange_level::arrange_level::read_level` meets its contract. The loop's invariant is `ReadSoFar`; the laws are those of specs/ArrangeLevelLaws.antt.
use Prim.Native.Nat.{◌-◌}
use lib.ListN.{length}
use Rattle.arrange_level.specs.ArrangeLevelLaws.{ReadSoFar}
use Rattle.arrange_level.proofs.arrange_level.read_level.Given as goal

abbrev pub invariant-loop-place : goal.invariant-loop-place
invariant-loop-place l = ReadSoFar l.trace l.first l.initial.members l.member l.initial.required l.need l.initial.tags l.members l.required l.tags l.place l.past l.later l.group

abbrev pub decreases-loop-place : goal.decreases-loop-place
decreases-loop-place l = length l.trace - l.place
