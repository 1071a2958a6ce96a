-- `layout_check::layout_check::is_member` meets its contract: `contains` is the test `_∈ᵇ_`.
use mathlib.Core.Path.{◌∙◌}
use Rattle.layouts.specs.LayoutCheckLaws.{is_in-any}
use Rattle.layout_check.proofs.layout_check.is_member.Goals as goal

pub returns : goal.returns
returns c = c.contains.ensures.value ∙ is_in-any c.args.tag c.args.members.now
