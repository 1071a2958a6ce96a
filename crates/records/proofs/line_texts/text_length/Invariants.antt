-- `records::line_texts::text_length` meets its contract. The loop's invariant is `LengthSoFar`; the laws are those of specs/LineLengthLaws.antt.
use Rattle.std.proofs.Common.{◌+◌, ◌*◌}
use Rattle.records.specs.LineLengthLaws.{LengthSoFar}
use Rattle.records.proofs.line_texts.text_length.Given as goal

abbrev pub invariant-loop-number : goal.invariant-loop-number
invariant-loop-number l = LengthSoFar l.words l.lines l.total l.number (4 + 10 * l.number)
