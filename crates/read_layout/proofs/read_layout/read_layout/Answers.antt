-- `read_layout::read_layout::read_layout` meets its contract, by specs/ReadLayoutLaws.antt.
use Rattle.std.proofs.Common.{◌≡◌, sym, ◌∙◌, length}
use Rattle.refusals.specs.HandedOn.{handed_on}
use Rattle.read_layout.specs.ReadLayoutLaws.{read-unordered, read-passed, read-words}
use Rattle.read_layout.proofs.read_layout.read_layout.Goals as goal

-- let layout = LayoutText::new(text)?;
pub returns-in_err-layout : goal.returns-in_err-layout
returns-in_err-layout c =
    let refused = read-unordered _ (length c.args.words.now) _ c.in_err-layout.ensures.outcome in
    record {
      outcome = handed_on _ _ c.from_residual.ensures.1 ∙ sym refused;
      memory = read-words _ _ _ (sym refused);
    }

pub returns : goal.returns
returns c =
    let same : c.in_ok-layout.layout.text.bytes.now ≡ c.args.text.now = c.in_ok-layout.ensures.outcome.0 in
    let ordered = rw same at c.read_ordered.ensures.outcome ∙ sym (read-passed _ (length c.args.words.now) c.in_ok-layout.ensures.outcome.1) in
    record {
      outcome = ordered;
      memory = rw same at c.read_ordered.ensures.memory ∙ read-words _ _ _ ordered;
    }
