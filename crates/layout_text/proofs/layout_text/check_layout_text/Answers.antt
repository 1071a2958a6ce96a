-- `layout_text::layout_text::check_layout_text` meets its contract: the reading of a text that is not too long.
use Rattle.std.proofs.Common.{◌≡◌, ◌∙◌, arith}
use Rattle.std.proofs.lemmas.Option.{MatchOption-at_none, MatchOption-at_some}
use borrow.Author.Tests.{lt-ltb, le-ltb}
use Rattle.refusals.specs.HandedOn.{handed_on}
use Rattle.refusals.specs.declared.refusal.Refusal.TheVariants.{TextTooLong}
use Rattle.layout_text.specs.LayoutText.{layout_text_of}
use Rattle.layout_text.proofs.layout_text.check_layout_text.Goals as goal

-- let text = Text::new(text).ok_or(Refusal::TextTooLong)?;
pub returns-in_err-text : goal.returns-in_err-text
unfolding layout_text_of
returns-in_err-text c =
    let long = MatchOption-at_none _ _ c.in_err-text.ensures.ok_part c.new.ensures in
    let refused : c.in_err-text.field-0.0 ≡ TextTooLong = grind arith in
    record { outcome = handed_on _ _ c.from_residual.ensures.1 ∙ rw (refused, lt-ltb _ _ long) }

-- pub fn check_layout_text(text: &[u8]) -> Result<u64, Refusal>
pub returns : goal.returns
unfolding layout_text_of
returns c =
    let same : c.in_ok-text.text.bytes.now ≡ c.args.text.now = MatchOption-at_some _ _ _ c.in_ok-text.ensures.ok_part c.new.ensures in
    record { outcome = rw (le-ltb _ _ (rw same at c.in_ok-text.text.short)) (rw same at c.read_levels.ensures) }
