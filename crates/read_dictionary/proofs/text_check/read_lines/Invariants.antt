-- `read_dictionary::text_check::read_lines` meets its contract. The loop's invariant is `ReadSoFar`; the laws are those of specs/TextCheckLaws.antt and
-- of texts' specs/DictionaryTextLaws.antt.
use Rattle.read_dictionary.specs.TextCheckLaws.{ReadSoFar}
use Rattle.read_dictionary.proofs.text_check.read_lines.Given as goal

abbrev pub invariant-loop-line : goal.invariant-loop-line
invariant-loop-line l = ReadSoFar l.text.bytes.now l.line-iterator.rest.now l.state l.read l.tags l.components l.messages
