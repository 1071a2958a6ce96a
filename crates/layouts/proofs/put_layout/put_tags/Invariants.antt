-- `layouts::put_layout::put_tags` meets its contract.
use Rattle.layouts.specs.GatheredLayoutLaws.{TagsSoFar}
use Rattle.layouts.proofs.put_layout.put_tags.Given as goal

abbrev pub invariant-loop-index : goal.invariant-loop-index
invariant-loop-index l = TagsSoFar l.initial.words l.tags l.to l.index l.words
