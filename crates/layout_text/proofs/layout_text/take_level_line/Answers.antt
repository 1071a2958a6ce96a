-- `layout_text::layout_text::take_level_line` meets its contract, a form at a time.
use Rattle.std.proofs.Common.{◌≡◌, Some, None, arith}
use Rattle.std.proofs.lemmas.Grind.{common_steps}
use Rattle.std.proofs.lemmas.Result.{err_from_is_err_and}
use Rattle.refusals.specs.declared.refusal.Refusal.TheVariants.{UnknownForm}
use Rattle.layout_text.specs.LayoutText.{level_step_of}
use Rattle.layout_text.proofs.layout_text.take_level_line.Goals as goal

pub returns-in-Member : goal.returns-in-Member
unfolding level_step_of
returns-in-Member c = rw c.in-Member.is c.member_step.ensures

pub returns-in-RequiredTag : goal.returns-in-RequiredTag
unfolding level_step_of
returns-in-RequiredTag c = rw c.in-RequiredTag.is c.required_step.ensures

pub returns-in-Group : goal.returns-in-Group
unfolding level_step_of
returns-in-Group c = rw c.in-Group.is c.open_level.ensures

pub returns-in_ok-count-in-End : goal.returns-in_ok-count-in-End
unfolding level_step_of
returns-in_ok-count-in-End c = let some : c.in-End.name ≡ Some c.in_ok-count-in-End.count = grind arith in rw (c.in-End.is, some) c.close_level.ensures

pub returns-in_err-count-in-End : goal.returns-in_err-count-in-End
unfolding level_step_of
returns-in_err-count-in-End c =
    let none : c.in-End.name ≡ None = grind arith in
    let refused : c.in_err-count-in-End.field-0.0 ≡ UnknownForm c.args.number = grind arith in
    let same = err_from_is_err_and c.from_residual.result c.from_residual.ensures.1 in
    rw (c.in-End.is, none, same.1, same.2, refused)

pub returns-in_default : goal.returns-in_default
unfolding level_step_of
returns-in_default c = grind (arith, common_steps)
