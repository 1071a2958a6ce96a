-- `layouts::layout_words::Layout::required_at` meets its contract: the required tags of a level lie in words that pass the check.
use Rattle.layouts.specs.Limits.{gate_limits}
use Rattle.layouts.specs.LayoutCheckFacts.{is_layout-passed, required_inside}
use Rattle.layouts.proofs.layout_words.Layout.required_at.Goals as goal

pub stretch_at-requires : goal.stretch_at-requires
stretch_at-requires c = rw c.group_count-groups.ensures (required_inside gate_limits _ (is_layout-passed gate_limits _ c.args.self.passed) _ c.requires)
