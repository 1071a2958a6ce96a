-- `layout_check::layout_check::levels_hold` meets its contract. The loop's invariant is `LevelsSoFar`; the laws are those of
-- layouts, specs/LayoutCheckLaws.antt.
use mathlib.Core.Path.{sym, ◌∙◌}
use native.Mathlib.Omega.{arith}
use borrow.Author.Tests.{not-true, not-false}
use Rattle.layouts.specs.LayoutCheckLaws.{levels_begin, levels_fail, levels_go_on, levels_end}
use Rattle.layout_check.proofs.layout_check.levels_hold.Goals as goal

-- while level < groups + 1 {
pub loop-level-init : goal.loop-level-init
loop-level-init c = levels_begin _ _

pub stretch_at-members-requires : goal.stretch_at-members-requires
stretch_at-members-requires c = c.requires.members c.loop-level.level (omega arith)

pub stretch_at-tags-requires : goal.stretch_at-tags-requires
stretch_at-tags-requires c = c.requires.count_tags c.loop-level.level (omega arith)

-- return false;
pub returns-then-not-is_level : goal.returns-then-not-is_level
returns-then-not-is_level c = sym (levels_fail _ _ _ c.loop-level.invariant c.loop-level-test.true _ _ c.stretch_at-members.ensures c.stretch_at-tags.ensures (sym c.is_level.ensures ∙ not-true _ c.if-not-is_level.true-raw))

pub loop-level-preserved : goal.loop-level-preserved
loop-level-preserved c = levels_go_on _ _ _ c.loop-level.invariant c.loop-level-test.true _ _ c.stretch_at-members.ensures c.stretch_at-tags.ensures (sym c.is_level.ensures ∙ not-false _ c.if-not-is_level.false-raw)

-- fn levels_hold(words: &[u32], groups: usize) -> bool
pub returns : goal.returns
returns c = sym (levels_end _ _ _ c.loop-level.invariant c.loop-level-test.false)
