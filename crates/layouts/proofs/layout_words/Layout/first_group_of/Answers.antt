-- `layouts::layout_words::Layout::first_group_of` meets its contract: the place of a level's count tags is not before that of the first.
use native.Mathlib.Omega.{arith}
use Rattle.layouts.specs.LayoutCheckFacts.{layout_heads, layout_first_group}
use Rattle.layouts.proofs.layout_words.Layout.first_group_of.Goals as goal

pub bounds-self-groups : goal.bounds-self-groups
bounds-self-groups c = omega (arith, layout_heads _ c.args.self.passed, c.requires, c.group_count-groups.ensures)

pub overflow_sub-result : goal.overflow_sub-result
overflow_sub-result c = rw c.group_count-groups.ensures (layout_first_group _ c.args.self.passed _ c.requires)
