-- `layout_parts::layout_parts::gather_layout` meets its contract. The loop's invariant is `GatherSoFar` (specs/GatherLoop.antt).
use mathlib.Core.Path.{◌≡◌}
use Prim.Native.Nat.{◌-◌}
use lib.ListN.{length}
use Rattle.layouts.specs.Layout.{all_groups}
use Rattle.layout_text.specs.LayoutOfText.{layout_of}
use Rattle.layout_parts.specs.GatherLoop.{GatherSoFar}
use Rattle.layout_parts.proofs.layout_parts.gather_layout.Given as goal

abbrev pub invariant-loop-number : goal.invariant-loop-number
invariant-loop-number l = GatherSoFar l.text.bytes.now l.members l.required l.rows l.starts l.number l.parts × (length l.members ≡ length l.initial.members) × (length l.required ≡ length l.initial.required) × (length l.rows ≡ length l.initial.rows) × (length l.starts ≡ length l.initial.starts)

abbrev pub decreases-loop-number : goal.decreases-loop-number
decreases-loop-number l = length (all_groups (layout_of l.text.bytes.now)) - l.number
