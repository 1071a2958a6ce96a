-- `records::records::letters_length` meets its contract: the letters end before the first byte that is 0 (specs/WordTextLaws.antt).
use Rattle.records.specs.WordTextLaws.{letters_length-one, letters_length-two, letters_length-three, letters_length-four}
use Rattle.records.proofs.records.letters_length.Goals as goal

-- pub fn letters_length(word: u32) -> u32
pub returns-then-byte1-eq0-clause-length : goal.returns-then-byte1-eq0-clause-length
returns-then-byte1-eq0-clause-length c = letters_length-one c.args.word (rw c.to_be_bytes.ensures at c.if-byte1-eq0.true)

pub returns-then-byte2-eq0-clause-length : goal.returns-then-byte2-eq0-clause-length
returns-then-byte2-eq0-clause-length c = letters_length-two c.args.word (rw c.to_be_bytes.ensures at c.if-byte1-eq0.false) (rw c.to_be_bytes.ensures at c.if-byte2-eq0.true)

pub returns-then-byte3-eq0-clause-length : goal.returns-then-byte3-eq0-clause-length
returns-then-byte3-eq0-clause-length c = letters_length-three c.args.word (rw c.to_be_bytes.ensures at c.if-byte1-eq0.false) (rw c.to_be_bytes.ensures at c.if-byte2-eq0.false) (rw c.to_be_bytes.ensures at c.if-byte3-eq0.true)

pub returns-else-byte3-eq0-clause-length : goal.returns-else-byte3-eq0-clause-length
returns-else-byte3-eq0-clause-length c = letters_length-four c.args.word (rw c.to_be_bytes.ensures at c.if-byte1-eq0.false) (rw c.to_be_bytes.ensures at c.if-byte2-eq0.false) (rw c.to_be_bytes.ensures at c.if-byte3-eq0.false)
