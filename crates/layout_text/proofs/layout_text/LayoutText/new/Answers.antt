-- `layout_text::layout_text::LayoutText::new` meets its contract, by specs/AcceptedText.antt.
use Rattle.std.proofs.Common.{is_ok, sym, ap, ◌∙◌}
use Rattle.layout_text.specs.AcceptedText.{accepted-short, accepted-passes}
use Rattle.layout_text.proofs.layout_text.LayoutText.new.Goals as goal

-- text: Text { bytes },
pub invariant_of-result : goal.invariant_of-result
invariant_of-result c = record { short = accepted-short _ (ap is_ok (sym c.check_layout_text.ensures.outcome ∙ c.in_ok-check_layout_text.was)) }

-- Ok(LayoutText {
pub invariant_of-result-2 : goal.invariant_of-result-2
invariant_of-result-2 c = record { ordered = accepted-passes _ (ap is_ok (sym c.check_layout_text.ensures.outcome ∙ c.in_ok-check_layout_text.was)) }
