-- `next` of `lines::text_lines::TextLines` gives a line of the text, by specs/TextLinesLaws.antt.
use Rattle.std.proofs.Common.{rules, ◌∙◌, sym}
use Rattle.lines.specs.TextLinesLaws.{first_line, unended}
use Rattle.lines.proofs.text_lines.TextLinesIterator.next.Goals as goal

pub returns-in_default-clause-steps : goal.returns-in_default-clause-steps
returns-in_default-clause-steps c = unended _ (sym c.position.ensures ∙ c.in_default.is) (search rules)

pub returns-clause-steps : goal.returns-clause-steps
returns-clause-steps c = first_line _ _ (sym c.position.ensures ∙ c.in-Some.is)
