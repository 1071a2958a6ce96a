-- `walk_steps::layout_input::top_group` meets its contract. The laws are those of specs/WalkWordsLaws.antt.
use Rattle.layouts.specs.Limits.{gate_limits}
use Rattle.layouts.specs.LayoutCheckFacts.{is_layout-passed}
use Rattle.walk_steps.specs.WalkWordsLaws.{top-found}
use Rattle.walk_steps.proofs.layout_input.top_group.Goals as goal

pub returns : goal.returns
returns c = top-found _ (is_layout-passed gate_limits _ c.args.layout.passed) c.args.tag _ _ c.count_tags_at.ensures (λ ascends. c.binary_search.ensures)
