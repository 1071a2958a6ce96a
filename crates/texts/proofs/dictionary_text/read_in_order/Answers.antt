-- `texts::dictionary_text::read_in_order` meets its contract. The loop's invariant is `OrderSoFar`; every answer cites a law of specs/DictionaryTextLaws.antt.
use Rattle.std.proofs.Common.{◌≡◌, ◌∙◌, ◌+◌, subst, sym, arith, Some, None}
use Rattle.std.proofs.lemmas.Result.{err_from_is_err_and}
use Rattle.refusals.specs.declared.refusal.Refusal.TheVariants.{UnknownForm}
use Rattle.dictionary_order.specs.DictionaryOrder.{start}
use Rattle.texts.specs.declared.dictionary_text.Counts.{Counts}
use Rattle.texts.specs.DictionaryText.{counts}
use Rattle.texts.specs.DictionaryTextLaws.{OrderSoFar, order-begins, order-stops, order-breaks, order-faulty, order-turns}
use Rattle.texts.proofs.dictionary_text.read_in_order.Goals as goal

-- for line in TextLines::new(text) {
pub loop-line-init : goal.loop-line-init
loop-line-init c =
    let none : c.default-counts.result ≡ counts 0 0 0 0 = grind arith in
    rw (c.into_iter-line-iterator.ensures.into_iter_gives, c.new-line-items.ensures)
    (subst (λ (read : Counts). OrderSoFar c.args.text.bytes.now c.args.text.bytes.now start read) (sym none) (order-begins _))

pub returns-in_err-ok_or : goal.returns-in_err-ok_or
returns-in_err-ok_or c =
    let none : c.in-Some.line ≡ None = grind arith in
    let refused : c.in_err-ok_or.field-0.0 ≡ UnknownForm (c.loop-line.counts.lines + 1) = grind arith in
    let same = err_from_is_err_and c.from_residual.result c.from_residual.ensures.1 in
    rw (same.1, same.2, refused) (sym (order-breaks _ _ _ _ c.loop-line.invariant (rw none at c.in-Some.ensures.steps).0))

pub returns-in_err-state : goal.returns-in_err-state
returns-in_err-state c =
    let some : c.in-Some.line ≡ Some c.in_ok-ok_or.field-0 = grind arith in
    let same = err_from_is_err_and c.from_residual-in_err-state.result c.from_residual-in_err-state.ensures.1 in
    rw (same.1, same.2)
    (sym (order-faulty _ _ _ _ c.loop-line.invariant _ _ (rw some at c.in-Some.ensures.steps) _ c.line_of-line.ensures _ (sym c.take_line.ensures ∙ c.in_err-state.was)))

pub loop-line-preserved : goal.loop-line-preserved
loop-line-preserved c =
    let some : c.in-Some.line ≡ Some c.in_ok-ok_or.field-0 = grind arith in
    order-turns _ _ _ _ c.loop-line.invariant _ _ (rw some at c.in-Some.ensures.steps) _ c.line_of-line.ensures _ (sym c.take_line.ensures ∙ c.in_ok-state.was) _
    (c.count-counts.ensures ∙ rw c.defined_by.ensures)

-- fn read_in_order(text: &[u8]) -> Result<Counts, Refusal>
pub returns : goal.returns
returns c = c.at_end.ensures ∙ sym (order-stops _ _ _ _ c.loop-line.invariant c.in-None.ensures.steps.0)
