-- `layouts::layout_words::Layout::is_required_at` meets its contract: the words of each group stand before the members.
use native.Mathlib.Omega.{arith}
use Rattle.layouts.specs.LayoutCheckFacts.{layout_heads}
use Rattle.layouts.proofs.layout_words.Layout.is_required_at.Goals as goal

pub bounds-self-groups : goal.bounds-self-groups
bounds-self-groups c = omega (arith, layout_heads _ c.args.self.passed, c.requires, c.group_count-groups.ensures)
