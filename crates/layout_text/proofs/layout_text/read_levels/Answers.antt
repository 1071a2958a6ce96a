-- `layout_text::layout_text::read_levels` meets its contract. The loop's invariant is `LevelsSoFar`; every answer cites a law of
-- specs/LayoutTextLaws.antt.
use Rattle.std.proofs.Common.{sym, ◌∙◌}
use Rattle.std.proofs.lemmas.Result.{err_from_is_err_and}
use Rattle.layout_text.specs.LayoutTextLaws.{levels_begin, levels_stop, levels_break, levels_faulty, levels_turn}
use Rattle.layout_text.proofs.layout_text.read_levels.Goals as goal

pub loop-line-init : goal.loop-line-init
loop-line-init c = rw (c.into_iter-line-iterator.ensures.into_iter_gives, c.new-line-items.ensures) (levels_begin _)

pub returns-in_err-line : goal.returns-in_err-line
returns-in_err-line c = let same = err_from_is_err_and c.from_residual.result c.from_residual.ensures.1 in rw (same.1, same.2)
    (sym (levels_break _ _ _ _ c.loop-line.invariant _ _ c.in-Some.ensures.steps _ (sym c.ok_or.ensures.value ∙ c.in_err-line.was)))

pub returns-in_err-state : goal.returns-in_err-state
returns-in_err-state c = let same = err_from_is_err_and c.from_residual-in_err-state.result c.from_residual-in_err-state.ensures.1 in rw (same.1, same.2)
    (sym (levels_faulty _ _ _ _ c.loop-line.invariant _ _ c.in-Some.ensures.steps _ (sym c.ok_or.ensures.value ∙ c.in_ok-line.was) _ c.line_of.ensures _ (sym c.take_level_line.ensures ∙ c.in_err-state.was)))

pub loop-line-preserved : goal.loop-line-preserved
loop-line-preserved c =
    levels_turn _ _ _ _ c.loop-line.invariant _ _ c.in-Some.ensures.steps _ (sym c.ok_or.ensures.value ∙ c.in_ok-line.was) _ c.line_of.ensures _ (sym c.take_level_line.ensures ∙ c.in_ok-state.was)

pub returns : goal.returns
returns c = c.at_layout_end.ensures ∙ sym (levels_stop _ _ _ _ c.loop-line.invariant c.in-None.ensures.steps.0)
