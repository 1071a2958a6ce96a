-- `definitions::definitions::records_behind` meets its contract. The laws are those of specs/AdmittedRecords.antt.
use Rattle.definitions.specs.AdmittedRecords.{behind-lent}
use Rattle.definitions.proofs.definitions.records_behind.Goals as goal

-- Some([_, behind @ ..]) => behind,
pub returns-in-Some-len1-up : goal.returns-in-Some-len1-up
returns-in-Some-len1-up c = behind-lent c.args.dictionary.words.now c.args.number _ _ c.records.ensures.records c.in-Some-len1-up.ensures.lookup.0.2
