-- `message_level::missing::put_missing` meets its contract. The laws are those of specs/MissingLaws.antt.
use mathlib.Core.Path.{ap}
use native.Mathlib.Omega.{arith}
use lib.ListN.{length}
use Rattle.layouts.specs.Limits.{gate_limits}
use Rattle.layouts.specs.LayoutCheckFacts.{is_layout-passed}
use Rattle.message_level.specs.MissingLaws.{both_missing, required-part_few, groups-part_few}
use Rattle.message_level.proofs.missing.put_missing.Goals as goal

-- let to = put_missing_tags(defined, required, seen, events, at);
pub put_missing_tags-to-requires : goal.put_missing_tags-to-requires
put_missing_tags-to-requires c = record {
  required_bound = omega (arith, (required-part_few c.args.layout.words.now (is_layout-passed gate_limits _ c.args.layout.passed) _ c.required_at-required.ensures), c.requires.at_bound);
}

-- put_missing_groups(defined, layout, seen, groups, events, to)
pub put_missing_groups-requires : goal.put_missing_groups-requires
put_missing_groups-requires c = record {
  groups_inside = (groups-part_few c.args.layout.words.now (is_layout-passed gate_limits _ c.args.layout.passed) _ c.count_tags_at.ensures);
  groups_bound = omega (arith, (required-part_few c.args.layout.words.now (is_layout-passed gate_limits _ c.args.layout.passed) _ c.required_at-required.ensures), (groups-part_few c.args.layout.words.now (is_layout-passed gate_limits _ c.args.layout.passed) _ c.count_tags_at.ensures), c.put_missing_tags-to.ensures.near, c.args.layout.few_groups, c.requires.at_bound);
}

pub returns : goal.returns
returns c = both_missing c.args.seen.now.defined.tags.words.now c.args.seen.now.words.now c.args.layout.words.now _ _ c.required_at-required.ensures (ap length c.count_tags_at.ensures) c.put_missing_tags-to.ensures.wrote c.put_missing_groups.ensures
