-- `layouts::layout_words::Layout::group_count` meets its contract: words that pass the check have a first word.
use native.Mathlib.Omega.{arith}
use Rattle.layouts.specs.LayoutCheckFacts.{layout_heads}
use Rattle.layouts.proofs.layout_words.Layout.group_count.Goals as goal

pub bounds-self-0 : goal.bounds-self-0
bounds-self-0 c = omega (arith, layout_heads _ c.args.self.passed)
