-- `layout_parts::layout_parts::put_tags` meets its contract. The loop's invariant is `TagsTaken` (specs/PartsLoops.antt).
use Rattle.std.proofs.Common.{◌≡◌, ◌-◌, length}
use Rattle.layout_parts.specs.PartsLoops.{TagsTaken}
use Rattle.layout_parts.proofs.layout_parts.put_tags.Given as goal

abbrev pub invariant-loop-next : goal.invariant-loop-next
invariant-loop-next l = (l.lines.text.now ≡ l.text) × (l.lines.first ≡ l.next) × TagsTaken l.text l.first l.required l.initial.tags l.count l.next l.index l.tags

abbrev pub decreases-loop-next : goal.decreases-loop-next
decreases-loop-next l = length l.text - l.next
