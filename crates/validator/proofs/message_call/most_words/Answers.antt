-- `validator::message_call::most_words` meets its contract. The laws are those of message_level, specs/MissingLaws.antt.
use mathlib.Core.Path.{ap}
use native.Mathlib.Omega.{arith}
use lib.ListN.{length}
use Rattle.layouts.specs.Limits.{gate_limits}
use Rattle.layouts.specs.LayoutCheckFacts.{is_layout-passed}
use Rattle.field_table.specs.FieldTableLaws.{accepted-few}
use Rattle.message_level.specs.MissingLaws.{required-part_few, groups-part_few}
use borrow.Author.Rules.{rules}
use Rattle.validator.proofs.message_call.most_words.Goals as goal

pub overflow_mul-result-2 : goal.overflow_mul-result-2
overflow_mul-result-2 c = omega (
  arith,
  required-part_few c.args.layout.words.now (is_layout-passed gate_limits _ c.args.layout.passed) _ c.required_at-required.ensures,
  groups-part_few c.args.layout.words.now (is_layout-passed gate_limits _ c.args.layout.passed) _ c.count_tags_at.ensures,
  c.len-rows.ensures,
  c.args.layout.few_groups,
  accepted-few _ _ c.args.table.accepted,
)

-- fn most_words(layout: &[u32], fields: &[u32]) -> usize
pub returns : goal.returns
returns c = omega (arith, c.len-rows.ensures, ap length c.required_at-required.ensures, ap length c.count_tags_at.ensures)
