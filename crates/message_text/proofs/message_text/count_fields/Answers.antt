-- `message_text::message_text::count_fields` meets its contract. The loop's invariant is `CountSoFar`; every answer cites a law of specs/MessageTextLaws.antt.
use Rattle.std.proofs.Common.{rules, sym, ◌∙◌}
use Rattle.std.proofs.lemmas.Result.{err_from_is_err_and}
use Rattle.message_text.specs.MessageTextLaws.{count-ends, count-stops, count-goes_on}
use Rattle.message_text.proofs.message_text.count_fields.Goals as goal

pub returns-in_err-ok_or : goal.returns-in_err-ok_or
returns-in_err-ok_or c = let same = err_from_is_err_and c.from_residual.result c.from_residual.ensures.1 in rw (same.1, same.2)
    (sym (count-stops _ _ _ c.loop-line.invariant c.in-Some.line _ c.in-Some.ensures.steps c.and_then.result (search rules) _ (sym c.ok_or.ensures.value ∙ c.in_err-ok_or.was)))

pub loop-line-preserved : goal.loop-line-preserved
loop-line-preserved c =
    count-goes_on _ _ _ c.loop-line.invariant c.in-Some.line _ c.in-Some.ensures.steps c.and_then.result (search rules) _ (sym c.ok_or.ensures.value ∙ c.in_ok-ok_or.was)

pub returns : goal.returns
returns c = sym (count-ends _ _ _ c.loop-line.invariant c.in-None.ensures.steps.0)
