-- `texts::dictionary_text::first_again` meets its contract. The loop's invariant is `AgainSoFar`; every answer cites a law of specs/DictionaryTextLaws.antt.
use Rattle.std.proofs.Common.{◌≡◌, refl, ◌∙◌, sym, ap, arith, Some, None}
use Rattle.texts.specs.DictionaryText.{key_of}
use Rattle.texts.specs.DictionaryTextLaws.{is_in-any, again-begins, again-stops, again-breaks, again-skips, again-found, again-adds}
use Rattle.texts.proofs.dictionary_text.first_again.Goals as goal
use Rattle.texts.proofs.dictionary_text.first_again.Goals.{in-Some-key_of+else-contains, in_default}

-- for line in TextLines::new(text) {
pub loop-line-init : goal.loop-line-init
loop-line-init c = rw (c.into_iter-line-iterator.ensures.into_iter_gives, c.new-line-items.ensures) (again-begins _ _ refl)

pub returns-in_err-line : goal.returns-in_err-line
returns-in_err-line c =
    let none : c.in-Some.line ≡ None = grind arith in
    c.from_residual.ensures ∙ sym (again-breaks _ _ _ _ _ c.loop-line.invariant (rw none at c.in-Some.ensures.steps).0)

pub returns-then-contains : goal.returns-then-contains
returns-then-contains c =
    let some : c.in-Some.line ≡ Some c.in_ok-line.field-0 = grind arith in
    sym (again-found _ _ _ _ _ c.loop-line.invariant _ _ (rw some at c.in-Some.ensures.steps) _ c.line_of-line.ensures _
    (ap key_of (sym c.defined_by.ensures) ∙ sym c.key_of.ensures ∙ c.in-Some-key_of.is) (sym (is_in-any _ _) ∙ sym c.contains.ensures.value ∙ c.if-contains.true))

pub loop-line-preserved : goal.loop-line-preserved
loop-line-preserved c =
    let some : c.in-Some.line ≡ Some c.in_ok-line.field-0 = grind arith in
    elim c.match-key_of.branch [
      | in-Some-key_of+else-contains w ↦ rw (w.seen-is, w.known-is)
          (again-adds _ _ _ _ _ c.loop-line.invariant _ _ (rw some at c.in-Some.ensures.steps) _ c.line_of-line.ensures _
          (ap key_of (sym c.defined_by.ensures) ∙ sym c.key_of.ensures ∙ w.in-Some-key_of.is) c.args.text.short (sym (is_in-any _ _) ∙ sym w.contains.ensures.value ∙ w.if-contains.false))
      | in_default w ↦ rw (w.seen-is, w.known-is)
          (again-skips _ _ _ _ _ c.loop-line.invariant _ _ (rw some at c.in-Some.ensures.steps) _ c.line_of-line.ensures
          (ap key_of (sym c.defined_by.ensures) ∙ sym c.key_of.ensures ∙ w.in_default.is))
    ]

pub returns : goal.returns
returns c = sym (again-stops _ _ _ _ _ c.loop-line.invariant c.in-None.ensures.steps.0)
