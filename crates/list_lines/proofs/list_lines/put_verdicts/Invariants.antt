-- The digits before the index are written.
use Rattle.list_lines.specs.ListLinesLaws.{DigitsSoFar}
use Rattle.list_lines.proofs.list_lines.put_verdicts.Given as goal

abbrev pub invariant-loop-index : goal.invariant-loop-index
invariant-loop-index l = DigitsSoFar l.initial.out l.verdicts l.out l.at l.index
