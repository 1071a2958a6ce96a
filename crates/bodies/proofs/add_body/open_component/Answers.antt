-- `bodies::add_body::open_component` meets its contract: the name, and the path copied after it.
use Rattle.std.proofs.Common.{◌≤◌, refl, ◌∙◌, ap, arith, length, set, length-set, take-suc-set}
use Rattle.std.proofs.lemmas.Slice.{take-put_mid}
use Rattle.bodies.proofs.add_body.open_component.Goals as goal

pub returns-clause-names : goal.returns-clause-names
returns-clause-names c =
    let room : 1 ≤ length (set c.args.names.now 0 c.args.name) = omega (arith, c.requires, length-set c.args.names.now 0 c.args.name) in
    take-put_mid 1 _ _ _ _ (omega (arith, ap length c.copy_from_slice.ensures.after)) room
    ∙ rw (take-suc-set c.args.names.now 0 c.args.name (omega (arith, c.requires)), c.copy_from_slice.ensures.after) refl
