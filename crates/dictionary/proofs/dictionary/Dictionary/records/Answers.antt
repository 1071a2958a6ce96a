-- `dictionary::dictionary::Dictionary::records` meets its contract: the part that is cut is that of the records (specs/DictionaryRecords.antt).
use Rattle.std.proofs.Common.{arith, ◌∙◌}
use Rattle.dictionary.specs.DictionaryRecords.{records-lent}
use Rattle.dictionary.proofs.dictionary.Dictionary.records.Goals as goal

-- self.words[4..past].as_chunks::<RECORD>().0
pub returns-clause-records : goal.returns-clause-records
returns-clause-records c = c.as_chunks.ensures.front ∙ records-lent c.args.self.words.now (omega (arith, c.args.self.fits))
