-- `texts::dictionary_text::check_dictionary_text` meets its contract: the two readings of a text that is not too long.
use Rattle.std.proofs.Common.{◌≡◌, ◌∙◌, arith}
use Rattle.std.proofs.lemmas.Option.{MatchOption-at_none, MatchOption-at_some}
use borrow.Author.Tests.{lt-ltb, le-ltb}
use Rattle.refusals.specs.HandedOn.{handed_on}
use Rattle.refusals.specs.declared.refusal.Refusal.TheVariants.{TextTooLong}
use Rattle.texts.specs.DictionaryText.{dictionary_text_of}
use Rattle.texts.proofs.dictionary_text.check_dictionary_text.Goals as goal

-- let text = Text::new(text).ok_or(Refusal::TextTooLong)?;
pub returns-in_err-text : goal.returns-in_err-text
unfolding dictionary_text_of
returns-in_err-text c =
    let long = MatchOption-at_none _ _ c.in_err-text.ensures.ok_part c.new.ensures in
    let refused : c.in_err-text.field-0.0 ≡ TextTooLong = grind arith in
    record { outcome = handed_on _ _ c.from_residual.ensures.1 ∙ rw (refused, lt-ltb _ _ long) }

-- pub fn check_dictionary_text(text: &[u8]) -> Result<Counts, Refusal>
pub returns : goal.returns
unfolding dictionary_text_of
returns c =
    let same : c.in_ok-text.text.bytes.now ≡ c.args.text.now = MatchOption-at_some _ _ _ c.in_ok-text.ensures.ok_part c.new.ensures in
    record { outcome = rw (le-ltb _ _ (rw same at c.in_ok-text.text.short)) (c.first_of.ensures ∙ rw (c.first_again-again.ensures, c.read_in_order-outcome.ensures, same)) }
