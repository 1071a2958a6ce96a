-- `expansion::required::retain` meets its contract. The loop's invariant is `RetainSoFar`; the laws are those of specs/RetainedLaws.antt.
use Rattle.expansion.specs.RetainedLaws.{RetainSoFar}
use Rattle.expansion.proofs.required.retain.Given as goal

abbrev pub invariant-loop-index : goal.invariant-loop-index
invariant-loop-index l = RetainSoFar l.delimiter l.initial.required l.required l.kept l.index
