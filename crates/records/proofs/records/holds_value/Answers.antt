-- `records::records::holds_value` meets its contract. The loop's invariant is `ValueSoFar`; the laws are those of specs/RecordsLaws.antt.
use Rattle.std.proofs.Common.{sym, ◌∙◌}
use Rattle.records.specs.RecordsLaws.{value-begins, value-stops, value-goes_on, value-ends}
use Rattle.records.proofs.records.holds_value.Goals as goal

-- for word in words {
pub loop-word-init : goal.loop-word-init
loop-word-init c = value-begins _ _

-- return false;
pub returns-then-not-holds_visible_part : goal.returns-then-not-holds_visible_part
returns-then-not-holds_visible_part c = sym (value-stops _ _ _ _ c.loop-word.invariant c.loop-word-test.true (sym c.holds_visible_part.ensures ∙ c.if-not-holds_visible_part.true))

pub loop-word-preserved : goal.loop-word-preserved
loop-word-preserved c = value-goes_on _ _ _ _ c.loop-word.invariant c.loop-word-test.true _ (sym c.holds_visible_part.ensures ∙ c.if-not-holds_visible_part.false) c.saturating_sub-left.ensures

-- fn holds_value(len: u32, words: &[u32]) -> bool
pub returns : goal.returns
returns c = sym (value-ends _ _ _ _ c.loop-word.invariant c.loop-word-test.false)
