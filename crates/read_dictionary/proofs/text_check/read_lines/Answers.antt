-- `read_dictionary::text_check::read_lines` meets its contract. The loop's invariant is `ReadSoFar`; the laws are those of specs/TextCheckLaws.antt and
-- of texts' specs/DictionaryTextLaws.antt.
use Rattle.std.proofs.Common.{◌≡◌, ◌∙◌, ◌+◌, sym, arith, Some, None}
use Rattle.std.proofs.lemmas.Result.{err_from_is_err_and}
use Rattle.refusals.specs.declared.refusal.Refusal.TheVariants.{UnknownForm}
use Rattle.texts.specs.DictionaryTextLaws.{order-stops, order-breaks, order-faulty}
use Rattle.read_dictionary.specs.TextCheckLaws.{reading_begins, names-room, reading-stops, reading-breaks, reading-faulty, reading-turns}
use Rattle.read_dictionary.proofs.text_check.read_lines.Goals as goal

-- for line in TextLines::new(text) {
pub loop-line-init : goal.loop-line-init
loop-line-init c =
    rw (c.into_iter-line-iterator.ensures.into_iter_gives, c.new-line-items.ensures, c.requires.none_counted)
    (reading_begins _ _ _ _ c.requires.tags_len.0 c.requires.tags_len.1.0 c.requires.tags_len.1.1)

pub returns-in_err-ok_or : goal.returns-in_err-ok_or
returns-in_err-ok_or c =
    let none : c.in-Some.line ≡ None = grind arith in
    let refused : c.in_err-ok_or.field-0.0 ≡ UnknownForm (c.loop-line.read.lines + 1) = grind arith in
    let same = err_from_is_err_and c.from_residual.result c.from_residual.ensures.1 in
    record {
      outcome = rw (same.1, same.2, refused) (sym (order-breaks _ _ _ _ c.loop-line.invariant.in_order (rw none at c.in-Some.ensures.steps).0));
      names = reading-breaks _ _ _ _ _ _ _ c.loop-line.invariant c.args.text.short (rw none at c.in-Some.ensures.steps).0;
    }

pub returns-in_err-state : goal.returns-in_err-state
returns-in_err-state c =
    let some : c.in-Some.line ≡ Some c.in_ok-ok_or.field-0 = grind arith in
    let same = err_from_is_err_and c.from_residual-in_err-state.result c.from_residual-in_err-state.ensures.1 in
    record {
      outcome =
          rw (same.1, same.2)
          (sym (order-faulty _ _ _ _ c.loop-line.invariant.in_order _ _ (rw some at c.in-Some.ensures.steps) _ c.line_of-line.ensures _ (sym c.take_line.ensures ∙ c.in_err-state.was)));
      names =
          reading-faulty _ _ _ _ _ _ _ c.loop-line.invariant _ _ (rw some at c.in-Some.ensures.steps) _ c.line_of-line.ensures c.args.text.short _
          (sym c.take_line.ensures ∙ c.in_err-state.was);
    }

pub keep_name-requires : goal.keep_name-requires
keep_name-requires c = names-room _ _ _ _ _ _ _ c.loop-line.invariant c.args.text.short

pub loop-line-preserved : goal.loop-line-preserved
loop-line-preserved c =
    let some : c.in-Some.line ≡ Some c.in_ok-ok_or.field-0 = grind arith in
    reading-turns _ _ _ _ _ _ _ c.loop-line.invariant _ _ (rw some at c.in-Some.ensures.steps) _ c.line_of-line.ensures _ (sym c.take_line.ensures ∙ c.in_ok-state.was)
    _ c.defined_by.ensures _ c.keep_name.ensures.counts c.args.text.short _ c.keep_name.ensures.tags _ c.keep_name.ensures.components _ c.keep_name.ensures.messages

pub returns : goal.returns
returns c = record {
  outcome = c.at_end.ensures ∙ sym (order-stops _ _ _ _ c.loop-line.invariant.in_order c.in-None.ensures.steps.0);
  names = reading-stops _ _ _ _ _ _ _ c.loop-line.invariant c.args.text.short c.in-None.ensures.steps.0;
}
