-- `records::records::is_unused` meets its contract: words that are joined to 0 are each 0 (specs/RecordsLaws.antt).
use Rattle.std.proofs.Common.{ap, ◌∙◌}
use Rattle.ascii.specs.BytesLaws.{part_to_end}
use Rattle.records.specs.Records.{is_zero, is_unused}
use Rattle.records.specs.RecordsLaws.{unused-joined}
use Rattle.records.proofs.records.is_unused.Goals as goal

-- fn is_unused(used: usize, words: &Record) -> bool
pub returns : goal.returns
returns c = ap is_zero c.joined.ensures ∙ unused-joined c.args.used c.args.words.now c.told-words
