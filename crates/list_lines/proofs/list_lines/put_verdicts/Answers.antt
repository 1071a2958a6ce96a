-- `list_lines::list_lines::put_verdicts` meets its contract: the digits are written one after the other (specs/ListLinesLaws.antt).
use Rattle.list_lines.specs.ListLinesLaws.{digits-go_on, digits-end}
use Rattle.list_lines.proofs.list_lines.put_verdicts.Goals as goal

pub loop-index-preserved : goal.loop-index-preserved
loop-index-preserved c = digits-go_on _ _ _ _ _ c.loop-index.invariant c.loop-index-test.true

pub returns : goal.returns
returns c = digits-end _ _ _ _ _ c.loop-index.invariant c.loop-index-test.false
