-- `lines::lines::behind` meets its contract, by specs/LinesLaws.antt.
use Rattle.std.proofs.Common.{◌∙◌, sym, ◌+◌}
use Rattle.ascii.specs.BytesLaws.{part_to_end}
use Rattle.lines.specs.LinesLaws.{behind-place, behind-none}
use Rattle.lines.proofs.lines.behind.Goals as goal

pub returns-in-Some : goal.returns-in-Some
returns-in-Some c = part_to_end c.args.bytes.now (c.in-Some.place + 1) ∙ behind-place _ _ _ (sym c.position.ensures ∙ c.in-Some.is)

pub returns-in-None : goal.returns-in-None
returns-in-None c = behind-none _ _ (sym c.position.ensures ∙ c.in-None.is)
