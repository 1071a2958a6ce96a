-- `layout_check::layout_check::layout_of` meets its contract, by specs/LayoutCheckFacts.antt of layouts.
use Rattle.std.proofs.Common.{sym, ◌∙◌}
use Rattle.layouts.specs.Limits.{gate_limits}
use Rattle.layouts.specs.LayoutCheckFacts.{layout_words-passed, layout_words-refused}
use Rattle.layout_check.proofs.layout_check.layout_of.Goals as goal

pub returns-then-not-is_layout : goal.returns-then-not-is_layout
returns-then-not-is_layout c = record { outcome = sym (layout_words-refused gate_limits _ (sym c.is_layout.ensures.outcome ∙ c.if-not-is_layout.true)) }

pub returns : goal.returns
returns c = record { outcome = sym (layout_words-passed gate_limits _ (sym c.is_layout.ensures.outcome ∙ c.if-not-is_layout.false)) }
