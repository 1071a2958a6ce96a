-- `dictionary::dictionary_check::take_lines` meets its contract. The loop's invariant is `TakesSoFar` and `Counted`; the laws are those of specs/DictionaryCheckLaws.antt.
use Prim.Native.Nat.{◌-◌}
use lib.ListN.{drop}
use Rattle.dictionary.specs.LineOrder.{state_of}
use Rattle.dictionary.specs.LinesTaken.{Counted}
use Rattle.dictionary.specs.DictionaryCheckLaws.{TakesSoFar}
use Rattle.dictionary.proofs.dictionary_check.take_lines.Given as goal

abbrev pub invariant-loop-done : goal.invariant-loop-done
invariant-loop-done l = TakesSoFar l.words l.lines (state_of l.standing l.counts) l.read.bytes l.done l.at × Counted l.done (drop 4 l.words) l.read.tags l.read.components l.read.messages

abbrev pub decreases-loop-done : goal.decreases-loop-done
decreases-loop-done l = l.lines - l.done
