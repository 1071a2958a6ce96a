-- `walk_steps::group_steps::step_at` meets its contract: each test is one of `entry_step`, in its order. The laws are those of specs/WordStepsLaws.antt.
use mathlib.Core.Path.{sym, ◌∙◌}
use native.Mathlib.Omega.{arith}
use Rattle.walk_steps.specs.WordStepsLaws.{step-outside, step-foreign, step-delimiter, step-taken, taken-first, taken-other}
use borrow.Author.Rules.{rules}
use Rattle.walk_steps.proofs.group_steps.step_at.Goals as goal

-- return EntryStep::Stop;
pub returns-then-row_count-cursor : goal.returns-then-row_count-cursor
returns-then-row_count-cursor c = step-outside _ _ _ _ _ _ _ (omega (arith, c.row_count.ensures, c.if-row_count-cursor.true))

pub returns-in_default : goal.returns-in_default
returns-in_default c = step-foreign _ _ _ _ _ _ _ (omega (arith, c.row_count.ensures, c.if-row_count-cursor.false)) _ c.tag_at-tag.ensures (sym c.binary_search.ensures ∙ c.in_default.is)

pub returns-then-cursor-start : goal.returns-then-cursor-start
returns-then-cursor-start c = step-taken _ _ _ _ _ _ _ (omega (arith, c.row_count.ensures, c.if-row_count-cursor.false)) _ c.tag_at-tag.ensures _ (sym c.binary_search.ensures ∙ c.in-Some.is)
    (taken-first c.args.cursor c.args.start c.tag_at-tag.result c.args.spec.delimiter c.if-cursor-start.true) _ c.taken_step.ensures

-- return EntryStep::Stop;
pub returns-then-tag-spec : goal.returns-then-tag-spec
returns-then-tag-spec c = step-delimiter _ _ _ _ _ _ _ (omega (arith, c.row_count.ensures, c.if-row_count-cursor.false)) _ c.tag_at-tag.ensures _ (sym c.binary_search.ensures ∙ c.in-Some.is)
    c.if-cursor-start.false c.if-tag-spec.true

-- pub fn step_at(
pub returns : goal.returns
returns c = step-taken _ _ _ _ _ _ _ (omega (arith, c.row_count.ensures, c.if-row_count-cursor.false)) _ c.tag_at-tag.ensures _ (sym c.binary_search.ensures ∙ c.in-Some.is)
    (taken-other c.args.cursor c.args.start c.tag_at-tag.result c.args.spec.delimiter c.if-tag-spec.false) _ c.taken_step-2.ensures
