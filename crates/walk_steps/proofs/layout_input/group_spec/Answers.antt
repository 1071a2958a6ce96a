-- `walk_steps::layout_input::group_spec` meets its contract. The laws are those of specs/WalkWordsLaws.antt.
use native.Mathlib.Omega.{arith}
use Rattle.std.specs.Prelude.{◌+◌}
use Rattle.layouts.specs.Limits.{gate_limits}
use Rattle.layouts.specs.LayoutCheckFacts.{is_layout-passed}
use Rattle.walk_steps.specs.WalkWordsLaws.{groups-few}
use Rattle.walk_steps.proofs.layout_input.group_spec.Goals as goal

pub invariant_of-result : goal.invariant_of-result
invariant_of-result c =
    let few = groups-few c.args.layout.words.now (is_layout-passed gate_limits _ c.args.layout.passed) (1 + c.args.group) (omega (arith, c.requires)) in
    record { few_groups = rw (c.count_tags_at.ensures, c.first_group_of.ensures) (omega (arith, few, c.args.layout.few_groups)) }
