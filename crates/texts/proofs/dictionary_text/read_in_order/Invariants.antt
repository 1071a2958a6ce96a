-- `texts::dictionary_text::read_in_order` meets its contract. The loop's invariant is `OrderSoFar`; every answer cites a law of specs/DictionaryTextLaws.antt.
use Rattle.texts.specs.DictionaryTextLaws.{OrderSoFar}
use Rattle.texts.proofs.dictionary_text.read_in_order.Given as goal

abbrev pub invariant-loop-line : goal.invariant-loop-line
invariant-loop-line l = OrderSoFar l.text.bytes.now l.line-iterator.rest.now l.state l.counts
