-- `definitions::definitions::is_among` meets its contract. The laws are those of specs/AdmittedRecords.antt.
use Rattle.definitions.specs.AdmittedRecords.{AmongSoFar}
use Rattle.definitions.proofs.definitions.is_among.Given as goal

abbrev pub invariant-loop-record : goal.invariant-loop-record
invariant-loop-record l = AmongSoFar l.value l.records l.record-index
