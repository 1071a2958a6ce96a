-- `layout_check::layout_check::delimiters_hold` meets its contract. The loop's invariant is `DelimitersSoFar`; the laws are those of
-- layouts, specs/LayoutCheckLaws.antt.
use mathlib.Core.Path.{sym, refl, ◌∙◌}
use borrow.Author.Tests.{not-true, not-false}
use Rattle.layouts.specs.LayoutCheckLaws.{entry-stretch, delimiters-begin, delimiters-fail, delimiters-go_on, delimiters-end}
use Rattle.layout_check.proofs.layout_check.delimiters_hold.Goals as goal

-- while number < groups {
pub loop-number-init : goal.loop-number-init
loop-number-init c = delimiters-begin _ _

pub stretch_at-members-requires : goal.stretch_at-members-requires
stretch_at-members-requires c = entry-stretch _ _ c.requires c.loop-number.number c.loop-number-test.true

-- return false;
pub returns-then-not-is_member : goal.returns-then-not-is_member
returns-then-not-is_member c = sym (delimiters-fail _ _ _ c.loop-number.invariant c.loop-number-test.true c.requires.heads _ c.stretch_at-members.ensures _ refl (sym c.is_member.ensures ∙ not-true _ c.if-not-is_member.true-raw))

pub loop-number-preserved : goal.loop-number-preserved
loop-number-preserved c = delimiters-go_on _ _ _ c.loop-number.invariant c.loop-number-test.true c.requires.heads _ c.stretch_at-members.ensures _ refl (sym c.is_member.ensures ∙ not-false _ c.if-not-is_member.false-raw)

-- fn delimiters_hold(words: &[u32], groups: usize) -> bool
pub returns : goal.returns
returns c = sym (delimiters-end _ _ _ c.loop-number.invariant c.loop-number-test.false)
