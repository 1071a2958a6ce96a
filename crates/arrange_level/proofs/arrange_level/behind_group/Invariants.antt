-- `arrange_level::arrange_level::behind_group` meets its contract. The loop's invariant is `PassedSoFar`; the laws are those of specs/ArrangeLevelLaws.antt.
use Rattle.arrange_level.specs.ArrangeLevelLaws.{PassedSoFar}
use Rattle.arrange_level.proofs.arrange_level.behind_group.Given as goal

abbrev pub invariant-loop-index : goal.invariant-loop-index
invariant-loop-index l = PassedSoFar l.trace l.place l.groups l.index
