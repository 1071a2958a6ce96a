-- `read_dictionary::read_dictionary::put_records` meets its contract. The loop's invariant is `RecordsSoFar`; the laws are those of specs/ReadDictionaryLaws.antt.
use Rattle.read_dictionary.specs.ReadDictionaryLaws.{RecordsSoFar}
use Rattle.read_dictionary.proofs.read_dictionary.put_records.Given as goal

abbrev pub invariant-loop-line : goal.invariant-loop-line
invariant-loop-line l = RecordsSoFar l.text l.initial.words l.line-iterator.rest.now l.words l.at
