-- `message_text::message_text::read_message` meets its contract, by specs/MessageTextLaws.antt.
use Rattle.std.proofs.Common.{◌≡◌, sym, ◌∙◌, arith}
use Rattle.std.proofs.lemmas.Option.{MatchOption-at_none, MatchOption-at_some}
use Rattle.refusals.specs.HandedOn.{handed_on}
use Rattle.refusals.specs.declared.refusal.Refusal.TheVariants.{TextTooLong}
use Rattle.message_text.specs.MessageTextLaws.{read-too_long, fields-too_long, read-counted, fields-counted}
use Rattle.message_text.proofs.message_text.read_message.Goals as goal

-- let text = Text::new(text).ok_or(Refusal::TextTooLong)?;
pub returns-in_err-text : goal.returns-in_err-text
returns-in_err-text c =
    let long = MatchOption-at_none _ _ c.in_err-text.ensures.ok_part c.new.ensures in
    let refused : c.in_err-text.field-0.0 ≡ TextTooLong = grind arith in
    record {
      outcome = handed_on _ _ c.from_residual.ensures.1 ∙ rw refused (sym (read-too_long _ c.args.fields.now long));
      memory = sym (fields-too_long _ c.args.fields.now long);
    }

-- let count = count_fields(text)?;
pub returns-in_err-count : goal.returns-in_err-count
returns-in_err-count c =
    let same : c.in_ok-text.text.bytes.now ≡ c.args.text.now = MatchOption-at_some _ _ _ c.in_ok-text.ensures.ok_part c.new.ensures in
    record {
      outcome = handed_on _ _ c.from_residual-in_err-count.ensures.1 ∙ sym (read-counted _ c.args.fields.now (rw same at c.in_ok-text.text.short) _ (sym c.in_err-count.was ∙ rw same at c.count_fields.ensures));
      memory = sym (fields-counted _ c.args.fields.now (rw same at c.in_ok-text.text.short) _ (sym c.in_err-count.was ∙ rw same at c.count_fields.ensures));
    }

pub returns : goal.returns
returns c =
    let same : c.in_ok-text.text.bytes.now ≡ c.args.text.now = MatchOption-at_some _ _ _ c.in_ok-text.ensures.ok_part c.new.ensures in
    record {
      outcome = c.write_fields.ensures.outcome ∙ sym (read-counted _ c.args.fields.now (rw same at c.in_ok-text.text.short) _ (sym c.in_ok-count.was ∙ rw same at c.count_fields.ensures));
      memory = rw same at c.write_fields.ensures.memory ∙ sym (fields-counted _ c.args.fields.now (rw same at c.in_ok-text.text.short) _ (sym c.in_ok-count.was ∙ rw same at c.count_fields.ensures));
    }
