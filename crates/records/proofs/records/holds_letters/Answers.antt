-- `records::records::holds_letters` meets its contract: letters or digits, and then 0 (specs/WordTextLaws.antt).
use Rattle.std.proofs.Common.{sym, ◌∙◌}
use Rattle.lines.specs.LineParts.{is_alphanumeric}
use Rattle.records.specs.WordTextLaws.{bytes_of-word, letters-split}
use Rattle.records.proofs.records.holds_letters.Goals as goal

-- fn holds_letters(word: u32) -> bool
pub returns-then-all_alphanumeric : goal.returns-then-all_alphanumeric
returns-then-all_alphanumeric c = sym (letters-split c.args.word c.ranges.word.fits c.to_be_bytes-bytes.result c.to_be_bytes-bytes.ensures c.letters_length.result c.letters_length.ensures.length ∙ rw (← c.split_at.ensures.front, ← c.split_at.ensures.back, ← c.all_alphanumeric.ensures, c.if-all_alphanumeric.true, ← c.all_zero.ensures))

pub returns-else-all_alphanumeric : goal.returns-else-all_alphanumeric
returns-else-all_alphanumeric c = c.if-all_alphanumeric.false ∙ sym (letters-split c.args.word c.ranges.word.fits c.to_be_bytes-bytes.result c.to_be_bytes-bytes.ensures c.letters_length.result c.letters_length.ensures.length ∙ rw (← c.split_at.ensures.front, ← c.all_alphanumeric.ensures, c.if-all_alphanumeric.false))
