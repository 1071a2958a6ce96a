-- `layout_rules::layout_rules::group_broken` meets its contract, a rule at a time (specs/OpenBlocksLaws.antt).
use mathlib.Core.Path.{sym, ◌∙◌}
use borrow.Author.Tests.{not-true, not-false}
use Rattle.ascending.specs.SearchLaws.{is_strictly_ascending-true}
use Rattle.layout_rules.specs.OpenBlocksLaws.{group-breaks_1, group-breaks_2, group-breaks_3, group-breaks_4, group-unbroken}
use Rattle.layout_rules.proofs.layout_rules.group_broken.Goals as goal

-- return Some((1, count));
pub returns-then-not-is_strictly_ascending : goal.returns-then-not-is_strictly_ascending
returns-then-not-is_strictly_ascending c = sym (group-breaks_1 _ _ _ _ (sym c.is_strictly_ascending.ensures.outcome ∙ not-true _ c.if-not-is_strictly_ascending.true-raw))

-- if !is_member(members, delimiter) {
pub is_member-requires : goal.is_member-requires
is_member-requires c = is_strictly_ascending-true _ (sym c.is_strictly_ascending.ensures.outcome ∙ not-false _ c.if-not-is_strictly_ascending.false-raw)

-- return Some((2, count));
pub returns-then-not-is_member : goal.returns-then-not-is_member
returns-then-not-is_member c = sym (group-breaks_2 _ _ _ _ (sym c.is_strictly_ascending.ensures.outcome ∙ not-false _ c.if-not-is_strictly_ascending.false-raw) (sym c.is_member.ensures ∙ not-true _ c.if-not-is_member.true-raw))

-- return Some((3, count));
pub returns-then-not-is_strictly_ascending-2 : goal.returns-then-not-is_strictly_ascending-2
returns-then-not-is_strictly_ascending-2 c = sym (group-breaks_3 _ _ _ _ (sym c.is_strictly_ascending.ensures.outcome ∙ not-false _ c.if-not-is_strictly_ascending.false-raw) (sym c.is_member.ensures ∙ not-false _ c.if-not-is_member.false-raw) (sym c.is_strictly_ascending-2.ensures.outcome ∙ not-true _ c.if-not-is_strictly_ascending-2.true-raw))

-- if !are_among(members, tags) {
pub are_among-requires : goal.are_among-requires
are_among-requires c = is_strictly_ascending-true _ (sym c.is_strictly_ascending.ensures.outcome ∙ not-false _ c.if-not-is_strictly_ascending.false-raw)

-- return Some((4, count));
pub returns-then-not-are_among : goal.returns-then-not-are_among
returns-then-not-are_among c = sym (group-breaks_4 _ _ _ _ (sym c.is_strictly_ascending.ensures.outcome ∙ not-false _ c.if-not-is_strictly_ascending.false-raw) (sym c.is_member.ensures ∙ not-false _ c.if-not-is_member.false-raw) (sym c.is_strictly_ascending-2.ensures.outcome ∙ not-false _ c.if-not-is_strictly_ascending-2.false-raw) (sym c.are_among.ensures ∙ not-true _ c.if-not-are_among.true-raw))

-- fn group_broken(members: &[u32], delimiter: u32, tags: &[u32], count: u32) -> Option<(u32, u32)>
pub returns : goal.returns
returns c = sym (group-unbroken _ _ _ _ (sym c.is_strictly_ascending.ensures.outcome ∙ not-false _ c.if-not-is_strictly_ascending.false-raw) (sym c.is_member.ensures ∙ not-false _ c.if-not-is_member.false-raw) (sym c.is_strictly_ascending-2.ensures.outcome ∙ not-false _ c.if-not-is_strictly_ascending-2.false-raw) (sym c.are_among.ensures ∙ not-false _ c.if-not-are_among.false-raw))
