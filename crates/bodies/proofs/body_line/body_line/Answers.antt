-- `bodies::body_line::body_line` meets its contract: the record lent is a line's. The laws are those of specs/BodyLines.antt.
use Rattle.bodies.specs.BodyLines.{tells-lent}
use Rattle.bodies.proofs.body_line.body_line.Goals as goal

pub returns : goal.returns
returns c = tells-lent c.args.dictionary.words.now c.args.dictionary.words32 c.args.dictionary.accepted c.args.number c.requires _ _ _ c.records.ensures.records c.line_from.ensures
