-- `message_text::message_text::field_line` meets its contract, by specs/MessageTextLaws.antt.
use Rattle.std.proofs.Common.{◌∙◌, sym}
use Rattle.message_text.specs.MessageTextLaws.{field_line_of-missing, field_line_of-found}
use Rattle.message_text.proofs.message_text.field_line.Goals as goal

pub returns-in_err-place : goal.returns-in_err-place
returns-in_err-place c = c.from_residual.ensures ∙ sym (field_line_of-missing _ (sym c.position.ensures ∙ c.in_err-place.was))

pub returns-in_err-tag : goal.returns-in_err-tag
returns-in_err-tag c = c.from_residual-in_err-tag.ensures ∙ sym (field_line_of-found _ _ (sym c.position.ensures ∙ c.in_ok-place.was) ∙ rw (← c.parse_number.ensures, c.in_err-tag.was))

pub returns : goal.returns
returns c = sym (field_line_of-found _ _ (sym c.position.ensures ∙ c.in_ok-place.was) ∙ rw (← c.parse_number.ensures, c.in_ok-tag.was))
