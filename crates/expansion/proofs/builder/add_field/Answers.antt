-- `expansion::builder::add_field` meets its contract: a member, and then a required entry where the field is required. The laws are those of
-- specs/TraceLaws.antt.
use Rattle.std.proofs.lemmas.Result.{err_from_is_err_and}
use Rattle.expansion.specs.TraceLaws.{field_required, field_over, field_optional, grows_then, done-grown}
use Rattle.expansion.proofs.builder.add_field.Goals as goal

pub returns-in_err-member-clause-change : goal.returns-in_err-member-clause-change
returns-in_err-member-clause-change c =
    let p = err_from_is_err_and c.from_residual.result c.from_residual.ensures.1 in
    rw (p.1, p.2) (field_over _ _ _ _ _ _ c.in_err-member.ensures.change)

pub add_required-requires : goal.add_required-requires
add_required-requires c = (done-grown _ _ c.in_ok-member.ensures.grows).fits

pub returns-then-required-clause-change : goal.returns-then-required-clause-change
returns-then-required-clause-change c = rw c.if-required.true (field_required _ _ _ _ _ _ _ c.in_ok-member.ensures.change c.add_required.ensures.change)

pub returns-then-required-clause-grows : goal.returns-then-required-clause-grows
returns-then-required-clause-grows c = grows_then _ _ _ (done-grown _ _ c.in_ok-member.ensures.grows) c.add_required.ensures.grows

pub returns-else-required-clause-change : goal.returns-else-required-clause-change
returns-else-required-clause-change c = rw c.if-required.false (field_optional _ _ _ _ _ c.in_ok-member.ensures.change)
