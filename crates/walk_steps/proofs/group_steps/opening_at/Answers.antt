-- `walk_steps::group_steps::opening_at` meets its contract: each test is one of `turn_at`, in its order. The laws are those of specs/WordStepsLaws.antt.
use native.Mathlib.Omega.{arith}
use Rattle.walk_steps.specs.WordStepsLaws.{turn-outside, turn-other, turn-ends, turn-begins}
use borrow.Author.Rules.{rules}
use Rattle.walk_steps.proofs.group_steps.opening_at.Goals as goal

-- return Turn::Over;
pub returns-then-row_count-cursor : goal.returns-then-row_count-cursor
returns-then-row_count-cursor c = turn-outside _ _ _ _ _ _ _ (omega (arith, c.row_count.ensures, c.if-row_count-cursor.true))

pub returns-then-tag-delimiter : goal.returns-then-tag-delimiter
returns-then-tag-delimiter c = turn-other _ _ _ _ _ _ _ (omega (arith, c.row_count.ensures, c.if-row_count-cursor.false)) _ c.tag_at-tag.ensures c.if-tag-delimiter.true _ c.lead_at.ensures

-- return Turn::Over;
pub returns-then-ends_group : goal.returns-then-ends_group
returns-then-ends_group c = turn-ends _ _ _ _ _ _ _ (omega (arith, c.row_count.ensures, c.if-row_count-cursor.false)) _ c.tag_at-tag.ensures c.if-tag-delimiter.false _ c.ends_group.ensures c.if-ends_group.true

-- pub fn opening_at(
pub returns : goal.returns
returns c = turn-begins _ _ _ _ _ _ _ (omega (arith, c.row_count.ensures, c.if-row_count-cursor.false)) _ c.tag_at-tag.ensures c.if-tag-delimiter.false _ c.ends_group.ensures c.if-ends_group.false
