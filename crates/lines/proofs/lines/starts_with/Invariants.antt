-- `lines::lines::starts_with` meets its contract: the key and the bytes agree up to the index (specs/LinesLaws.antt).
use mathlib.Core.Path.{◌≡◌}
use Prim.Native.Nat.{◌-◌, ◌≤◌}
use lib.ListN.{length, drop}
use Rattle.lines.specs.Lines.{starts_with}
use Rattle.lines.proofs.lines.starts_with.Given as goal

abbrev pub invariant-loop-index : goal.invariant-loop-index
invariant-loop-index l = (l.index ≤ length l.key) × (starts_with l.key l.bytes ≡ starts_with (drop l.index l.key) (drop l.index l.bytes))

abbrev pub decreases-loop-index : goal.decreases-loop-index
decreases-loop-index l = length l.key - l.index
