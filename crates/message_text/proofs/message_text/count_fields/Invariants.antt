-- `message_text::message_text::count_fields` meets its contract. The loop's invariant is `CountSoFar`; every answer cites a law of specs/MessageTextLaws.antt.
use Rattle.message_text.specs.MessageTextLaws.{CountSoFar}
use Rattle.message_text.proofs.message_text.count_fields.Given as goal

abbrev pub invariant-loop-line : goal.invariant-loop-line
invariant-loop-line l = CountSoFar l.text.bytes.now l.count l.line-iterator.rest.now
