-- `lines::lines::before` meets its contract, by specs/LinesLaws.antt.
use Rattle.std.proofs.Common.{◌∙◌, sym}
use Rattle.lines.specs.LinesLaws.{before-place, before-all}
use Rattle.lines.proofs.lines.before.Goals as goal

pub returns-in-Some : goal.returns-in-Some
returns-in-Some c = before-place _ _ _ (sym c.position.ensures ∙ c.in-Some.is)

pub returns-in-None : goal.returns-in-None
returns-in-None c = before-all _ _ (sym c.position.ensures ∙ c.in-None.is)
