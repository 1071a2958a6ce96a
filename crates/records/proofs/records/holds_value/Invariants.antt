-- `records::records::holds_value` meets its contract. The loop's invariant is `ValueSoFar`; the laws are those of specs/RecordsLaws.antt.
use Rattle.records.specs.RecordsLaws.{ValueSoFar}
use Rattle.records.proofs.records.holds_value.Given as goal

abbrev pub invariant-loop-word : goal.invariant-loop-word
invariant-loop-word l = ValueSoFar l.len l.words l.left l.word-index
