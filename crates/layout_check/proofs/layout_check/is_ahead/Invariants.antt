-- `layout_check::layout_check::is_ahead`: the places before this one are ahead.
use Rattle.layouts.specs.LayoutCheckLaws.{AheadSoFar}
use Rattle.layout_check.proofs.layout_check.is_ahead.Given as goal

abbrev pub invariant-loop-place : goal.invariant-loop-place
invariant-loop-place l = AheadSoFar l.number l.places l.place-index l.passed
