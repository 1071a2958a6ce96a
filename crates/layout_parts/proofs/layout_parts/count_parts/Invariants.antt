-- `layout_parts::layout_parts::count_parts` meets its contract. The loop's invariant is `CountsSoFar` (specs/PartsLoops.antt).
use Rattle.std.proofs.Common.{◌≡◌}
use Rattle.layout_parts.specs.PartsLoops.{CountsSoFar}
use Rattle.layout_parts.proofs.layout_parts.count_parts.Given as goal

abbrev pub invariant-loop-line : goal.invariant-loop-line
invariant-loop-line l = (l.line-iterator.text.now ≡ l.layout.text.bytes.now) × CountsSoFar l.layout.text.bytes.now l.line-iterator.first l.parts.members l.parts.required l.parts.groups
