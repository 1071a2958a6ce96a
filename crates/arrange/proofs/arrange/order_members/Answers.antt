-- `arrange::arrange::order_members` meets its contract: the part is lent, put in order, and stands there again.
use mathlib.Core.Path.{refl}
use native.Mathlib.Omega.{arith}
use Rattle.arrange.specs.ArrangeGatherLaws.{members-ordered, members-few}
use Rattle.arrange.proofs.arrange.order_members.Goals as goal

-- from + kept
pub overflow_add-result : goal.overflow_add-result
overflow_add-result c = omega (arith, members-few c.args.members.now c.args.from c.args.past c.in_order-kept.result c.requires.0 c.in_order-kept.ensures.outcome, c.requires.1)

pub returns : goal.returns
returns c = members-ordered c.args.members.now _ _ c.args.from c.args.past _ c.requires.0 c.requires.1 refl c.in_order-kept.ensures.outcome c.in_order-kept.ensures.memory
