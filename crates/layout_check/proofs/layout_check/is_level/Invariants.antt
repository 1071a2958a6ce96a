-- `layout_check::layout_check::is_level`: the members before this one ascend, and the count tags before `met` were met among them.
use Rattle.layouts.specs.LayoutCheckLaws.{LevelSoFar}
use Rattle.layout_check.proofs.layout_check.is_level.Given as goal

abbrev pub invariant-loop-word : goal.invariant-loop-word
invariant-loop-word l = LevelSoFar l.members l.tags l.word-index l.least l.met
