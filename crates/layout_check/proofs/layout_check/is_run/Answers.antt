-- `layout_check::layout_check::is_run` meets its contract, by layouts, specs/LayoutCheckLaws.antt.
use mathlib.Core.Path.{sym}
use Rattle.layouts.specs.LayoutCheckLaws.{is_run-none, is_run-other, is_run-sorted}
use Rattle.layout_check.proofs.layout_check.is_run.Goals as goal

pub returns-in_default : goal.returns-in_default
returns-in_default c = sym (is_run-none _ _ c.in_default.len_below)

pub returns-then-place-first : goal.returns-then-place-first
returns-then-place-first c = is_run-sorted _ _ _ c.in-len1-up.len_at_least c.if-place-first.true c.is_sorted.ensures.cases

pub returns-else-place-first : goal.returns-else-place-first
returns-else-place-first c = is_run-other _ _ c.if-place-first.false
