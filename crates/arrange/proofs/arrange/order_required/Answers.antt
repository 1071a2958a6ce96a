-- `arrange::arrange::order_required` meets its contract: the part is lent, put in order, and stands there again.
use mathlib.Core.Path.{refl}
use native.Mathlib.Omega.{arith}
use Rattle.arrange.specs.ArrangeGatherLaws.{required-ordered, required-few}
use Rattle.arrange.proofs.arrange.order_required.Goals as goal

-- from + kept
pub overflow_add-result : goal.overflow_add-result
overflow_add-result c = omega (arith, required-few c.args.required.now c.args.from c.args.past c.keep_required-kept.result c.requires.0 c.args.first c.args.delimiter c.keep_required-kept.ensures.outcome, c.requires.1)

pub returns : goal.returns
returns c = required-ordered c.args.required.now _ _ c.args.from c.args.past _ c.requires.0 c.requires.1 refl c.args.first c.args.delimiter c.keep_required-kept.ensures.outcome c.keep_required-kept.ensures.memory
