-- `texts::dictionary_text::first_again` meets its contract. The loop's invariant is `AgainSoFar`; every answer cites a law of specs/DictionaryTextLaws.antt.
use Rattle.texts.specs.DictionaryTextLaws.{AgainSoFar}
use Rattle.texts.proofs.dictionary_text.first_again.Given as goal

abbrev pub invariant-loop-line : goal.invariant-loop-line
invariant-loop-line l = AgainSoFar l.text.bytes.now l.line-iterator.rest.now l.seen l.known l.number
