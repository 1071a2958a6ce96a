-- `layout_text::layout_text::read_levels` meets its contract. The loop's invariant is `LevelsSoFar`; every answer cites a law of
-- specs/LayoutTextLaws.antt.
use Rattle.layout_text.specs.LayoutTextLaws.{LevelsSoFar}
use Rattle.layout_text.proofs.layout_text.read_levels.Given as goal

abbrev pub invariant-loop-line : goal.invariant-loop-line
invariant-loop-line l = LevelsSoFar l.text.bytes.now l.line-iterator.rest.now l.state l.lines
