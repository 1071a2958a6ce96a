-- `layout_rules::layout_rules::is_member` meets its contract, by specs/OpenBlocksLaws.antt.
use mathlib.Core.Path.{◌∙◌}
use Rattle.layout_rules.specs.OpenBlocksLaws.{member-found}
use Rattle.layout_rules.proofs.layout_rules.is_member.Goals as goal

-- fn is_member(members: &[u32], tag: u32) -> bool
pub returns : goal.returns
returns c = c.is_some.ensures ∙ member-found _ _ _ (c.binary_search.ensures.outcome c.requires)
