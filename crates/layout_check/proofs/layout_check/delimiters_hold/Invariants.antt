-- `layout_check::layout_check::delimiters_hold` meets its contract. The loop's invariant is `DelimitersSoFar`; the laws are those of
-- layouts, specs/LayoutCheckLaws.antt.
use Rattle.layouts.specs.LayoutCheckLaws.{DelimitersSoFar}
use Rattle.layout_check.proofs.layout_check.delimiters_hold.Given as goal

abbrev pub invariant-loop-number : goal.invariant-loop-number
invariant-loop-number l = DelimitersSoFar l.groups l.words l.number
