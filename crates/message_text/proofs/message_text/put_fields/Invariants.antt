-- `message_text::message_text::put_fields` meets its contract. The loop's invariant is `RowsSoFar`; every answer cites a law of specs/MessageTextLaws.antt.
use Rattle.message_text.specs.MessageTextLaws.{RowsSoFar}
use Rattle.message_text.proofs.message_text.put_fields.Given as goal

abbrev pub invariant-loop-line : goal.invariant-loop-line
invariant-loop-line l = RowsSoFar l.text.bytes.now l.initial.fields l.fields l.at l.first l.line-iterator.rest.now
