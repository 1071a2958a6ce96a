-- `ascending::dedup::dedup` meets its contract. The loop's invariant is `DedupSoFar`; the laws are those of specs/DedupLaws.antt.
use Rattle.ascending.specs.DedupLaws.{DedupSoFar}
use Rattle.ascending.proofs.dedup.dedup.Given as goal

abbrev pub invariant-loop-index : goal.invariant-loop-index
invariant-loop-index l = DedupSoFar l.initial.words l.words l.kept l.index
