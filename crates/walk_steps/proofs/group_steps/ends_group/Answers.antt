-- `walk_steps::group_steps::ends_group` meets its contract. The laws are those of specs/WordStepsLaws.antt.
use mathlib.Core.Path.{sym, ◌∙◌}
use Rattle.walk_steps.specs.WordStepsLaws.{ends-other, ends_foreign, ends_there}
use borrow.Author.Rules.{rules}
use Rattle.walk_steps.proofs.group_steps.ends_group.Goals as goal

pub returns-then-number-entries : goal.returns-then-number-entries
returns-then-number-entries c = ends-other _ _ _ _ _ c.in-Some.is c.if-number-entries.true

pub returns-in_default-binary_search : goal.returns-in_default-binary_search
returns-in_default-binary_search c = ends_foreign _ _ _ _ _ c.in-Some.is c.if-number-entries.false (sym c.binary_search.ensures ∙ c.in_default-binary_search.is)

-- fn ends_group(declared: Option<u64>, entries: u64, enclosing: &[u32], tag: u32) -> bool
pub returns : goal.returns
returns c = ends_there _ _ _ _ _ c.in-Some.is c.if-number-entries.false _ (sym c.binary_search.ensures ∙ c.in-Some-binary_search.is)
