-- `read_dictionary::text_check::check_text` meets its contract: where no name is there twice, the lines' order decides (`unrepeated`).
use Rattle.std.proofs.Common.{◌≡◌, ◌∙◌, sym, arith}
use Rattle.std.proofs.lemmas.Option.{MatchOption-at_none, MatchOption-at_some}
use borrow.Author.Tests.{lt-ltb, le-ltb}
use Rattle.refusals.specs.HandedOn.{handed_on}
use Rattle.refusals.specs.declared.refusal.Refusal.TheVariants.{TextTooLong}
use Rattle.texts.specs.DictionaryText.{dictionary_text_of}
use Rattle.read_dictionary.specs.TextCheckLaws.{ascending_once}
use Rattle.read_dictionary.proofs.text_check.check_text.Goals as goal

-- let text = Text::new(text).ok_or(Refusal::TextTooLong)?;
pub returns-in_err-text : goal.returns-in_err-text
unfolding dictionary_text_of
returns-in_err-text c =
    let long = MatchOption-at_none _ _ c.in_err-text.ensures.ok_part c.new.ensures in
    let refused : c.in_err-text.field-0.0 ≡ TextTooLong = grind arith in
    record { outcome = handed_on _ _ c.from_residual.ensures.1 ∙ rw (refused, lt-ltb _ _ long) }

-- pub fn check_text(text: &[u8]) -> Result<Counts, Refusal>
pub returns : goal.returns
unfolding dictionary_text_of
returns c =
    let same : c.in_ok-text.text.bytes.now ≡ c.args.text.now = MatchOption-at_some _ _ _ c.in_ok-text.ensures.ok_part c.new.ensures in
    let names = c.read_lines-outcome.ensures.names.unrepeated
    (ascending_once _ (sym c.are_once_each.ensures.outcome ∙ c.if-not-are_once_each.false))
    (ascending_once _ (sym c.are_once_each-else-not-are_once_each.ensures.outcome ∙ c.if-not-are_once_each-2.false))
    (ascending_once _ (sym c.are_once_each-else-not-are_once_each-2.ensures.outcome ∙ c.if-not-are_once_each-3.false)) in
    record { outcome = rw (le-ltb _ _ (rw same at c.in_ok-text.text.short)) (rw same at (c.read_lines-outcome.ensures.outcome ∙ sym names)) }
