-- `walk_steps::group_steps::taken_step` meets its contract: the search finds the rank among the count tags.
use mathlib.Core.Path.{sym, ◌∙◌}
use native.Mathlib.Omega.{arith}
use Rattle.ascending.specs.SearchLaws.{rank_in-inside}
use borrow.Author.Rules.{rules}
use Rattle.walk_steps.proofs.group_steps.taken_step.Goals as goal

pub returns-in_default : goal.returns-in_default
returns-in_default c = rw (sym c.binary_search.ensures ∙ c.in_default.is)

-- EntryStep::Nested(rank, tag, first + place)
pub overflow_add-result : goal.overflow_add-result
overflow_add-result c = omega (arith, rank_in-inside _ _ _ (sym c.binary_search.ensures ∙ c.in-Some.is), c.args.spec.few_groups)

-- fn taken_step(tags: &[u32], first: usize, rank: usize, tag: u32) -> EntryStep
pub returns : goal.returns
returns c = rw (sym c.binary_search.ensures ∙ c.in-Some.is)
