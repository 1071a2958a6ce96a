-- `layout_check::layout_check::levels_hold` meets its contract. The loop's invariant is `LevelsSoFar`; the laws are those of
-- layouts, specs/LayoutCheckLaws.antt.
use Rattle.layouts.specs.LayoutCheckLaws.{LevelsSoFar}
use Rattle.layout_check.proofs.layout_check.levels_hold.Given as goal

abbrev pub invariant-loop-level : goal.invariant-loop-level
invariant-loop-level l = LevelsSoFar l.groups l.words l.level
