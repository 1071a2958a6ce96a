-- `layouts::layout_words::Layout::count_tags_at` meets its contract: the count tags of a level lie in words that pass the check.
use Rattle.layouts.specs.Limits.{gate_limits}
use Rattle.layouts.specs.LayoutCheckFacts.{is_layout-passed, count_tags-inside, count_tags-ascending}
use Rattle.layouts.proofs.layout_words.Layout.count_tags_at.Goals as goal

pub stretch_at-requires : goal.stretch_at-requires
stretch_at-requires c = rw c.group_count-groups.ensures (count_tags-inside gate_limits _ (is_layout-passed gate_limits _ c.args.self.passed) _ c.requires)

pub invariant_of-result : goal.invariant_of-result
invariant_of-result c = record {
  ascends = rw (c.stretch_at.ensures, c.group_count-groups.ensures) (count_tags-ascending gate_limits _ (is_layout-passed gate_limits _ c.args.self.passed) _ c.requires);
}
