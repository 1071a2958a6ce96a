-- `levels::members::nested_level` meets its contract: the rank among the count tags of the level gives the group's number. The laws are
-- those of specs/MembersLaws.antt.
use mathlib.Core.Path.{sym, ◌∙◌}
use native.Mathlib.Omega.{arith}
use Rattle.layouts.specs.Limits.{gate_limits}
use Rattle.layouts.specs.LayoutCheckFacts.{is_layout-passed}
use Rattle.levels.specs.MembersLaws.{nested-nothing, nested-sum, nested-at}
use Rattle.levels.proofs.members.nested_level.Goals as goal

pub returns-in_err-rank : goal.returns-in_err-rank
returns-in_err-rank c = c.from_residual.ensures ∙ sym (nested-nothing gate_limits _ (is_layout-passed gate_limits _ c.args.layout.passed) _ c.requires _ c.count_tags_at.ensures _ _ (λ ascends. c.binary_search.ensures) c.in_err-rank.was)

pub overflow_add-number : goal.overflow_add-number
overflow_add-number c = omega (arith, c.first_group_of.ensures, c.args.layout.few_groups, nested-sum gate_limits _ (is_layout-passed gate_limits _ c.args.layout.passed) _ c.requires _ c.count_tags_at.ensures _ _ (λ ascends. c.binary_search.ensures) _ c.in_ok-rank.was)

pub overflow_add-result : goal.overflow_add-result
overflow_add-result c = omega (arith, c.first_group_of.ensures, c.args.layout.few_groups, nested-sum gate_limits _ (is_layout-passed gate_limits _ c.args.layout.passed) _ c.requires _ c.count_tags_at.ensures _ _ (λ ascends. c.binary_search.ensures) _ c.in_ok-rank.was)

pub returns : goal.returns
returns c = rw c.first_group_of.ensures (sym (nested-at gate_limits _ (is_layout-passed gate_limits _ c.args.layout.passed) _ c.requires _ c.count_tags_at.ensures _ _ (λ ascends. c.binary_search.ensures) _ c.in_ok-rank.was))
