-- `layouts::put_layout::put_tags` meets its contract.
use Rattle.layouts.specs.GatheredLayoutLaws.{tags-begin, tags-go_on, tags-end}
use Rattle.layouts.proofs.put_layout.put_tags.Goals as goal

-- for index in 0..tags.len() {
pub loop-index-init : goal.loop-index-init
loop-index-init c = tags-begin _ _ _

pub loop-index-preserved : goal.loop-index-preserved
loop-index-preserved c = tags-go_on _ _ _ _ _ c.loop-index.invariant c.loop-index-test.true

pub returns : goal.returns
returns c = tags-end _ _ _ _ _ c.loop-index.invariant c.loop-index-test.false
