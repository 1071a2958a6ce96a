-- `records::records::letters_number` meets its contract: the letters are the first bytes of the word (specs/WordTextLaws.antt).
use Rattle.std.proofs.Common.{ap, ◌∙◌}
use Rattle.lines.specs.LineParts.{number_of}
use Rattle.records.specs.WordTextLaws.{letters-taken}
use Rattle.records.proofs.records.letters_number.Goals as goal

-- fn letters_number(word: u32) -> Option<u32>
pub returns : goal.returns
returns c = c.parse_number.ensures ∙ ap number_of (letters-taken c.args.word c.ranges.word.fits c.to_be_bytes-bytes.result c.to_be_bytes-bytes.ensures c.letters_length.result c.letters_length.ensures.length)
