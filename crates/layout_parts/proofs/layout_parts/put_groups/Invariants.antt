-- `layout_parts::layout_parts::put_groups` meets its contract. The loop's invariant is `BlocksSoFar` (specs/PartsLoops.antt).
use Rattle.std.proofs.Common.{◌≡◌, ◌-◌, length}
use Rattle.layout_parts.specs.PartsLoops.{BlocksSoFar}
use Rattle.layout_parts.proofs.layout_parts.put_groups.Given as goal

abbrev pub invariant-loop-line : goal.invariant-loop-line
invariant-loop-line l = (l.lines.text.now ≡ l.text.bytes.now) × BlocksSoFar l.text.bytes.now l.first l.initial.rows l.initial.starts l.groups l.lines.first l.depth l.count l.rows l.starts

abbrev pub decreases-loop-line : goal.decreases-loop-line
decreases-loop-line l = length l.text.bytes.now - l.lines.first
