-- `layout_rules::layout_rules::top_broken` meets its contract, a rule at a time (specs/OpenBlocksLaws.antt).
use mathlib.Core.Path.{sym, ◌∙◌}
use borrow.Author.Tests.{not-true, not-false}
use Rattle.ascending.specs.SearchLaws.{is_strictly_ascending-true}
use Rattle.layout_rules.specs.OpenBlocksLaws.{top-breaks_5, top-breaks_6, top-breaks_7, top-unbroken}
use Rattle.layout_rules.proofs.layout_rules.top_broken.Goals as goal

-- return Some((5, 0));
pub returns-then-not-is_strictly_ascending : goal.returns-then-not-is_strictly_ascending
returns-then-not-is_strictly_ascending c = sym (top-breaks_5 _ _ (sym c.is_strictly_ascending.ensures.outcome ∙ not-true _ c.if-not-is_strictly_ascending.true-raw))

-- return Some((6, 0));
pub returns-then-not-is_strictly_ascending-2 : goal.returns-then-not-is_strictly_ascending-2
returns-then-not-is_strictly_ascending-2 c = sym (top-breaks_6 _ _ (sym c.is_strictly_ascending.ensures.outcome ∙ not-false _ c.if-not-is_strictly_ascending.false-raw) (sym c.is_strictly_ascending-2.ensures.outcome ∙ not-true _ c.if-not-is_strictly_ascending-2.true-raw))

-- if !are_among(top, counts) {
pub are_among-requires : goal.are_among-requires
are_among-requires c = is_strictly_ascending-true _ (sym c.is_strictly_ascending-2.ensures.outcome ∙ not-false _ c.if-not-is_strictly_ascending-2.false-raw)

-- return Some((7, 0));
pub returns-then-not-are_among : goal.returns-then-not-are_among
returns-then-not-are_among c = sym (top-breaks_7 _ _ (sym c.is_strictly_ascending.ensures.outcome ∙ not-false _ c.if-not-is_strictly_ascending.false-raw) (sym c.is_strictly_ascending-2.ensures.outcome ∙ not-false _ c.if-not-is_strictly_ascending-2.false-raw) (sym c.are_among.ensures ∙ not-true _ c.if-not-are_among.true-raw))

-- fn top_broken(top: &[u32], counts: &[u32]) -> Option<(u32, u32)>
pub returns : goal.returns
returns c = sym (top-unbroken _ _ (sym c.is_strictly_ascending.ensures.outcome ∙ not-false _ c.if-not-is_strictly_ascending.false-raw) (sym c.is_strictly_ascending-2.ensures.outcome ∙ not-false _ c.if-not-is_strictly_ascending-2.false-raw) (sym c.are_among.ensures ∙ not-false _ c.if-not-are_among.false-raw))
