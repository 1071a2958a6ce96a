-- `bodies::body_line::line_from` meets its contract, a kind at a time.
use Rattle.std.proofs.Common.{sym, ◌∙◌, eq-eqb, ne_eqb}
use Rattle.bodies.specs.BodyLines.{read_from}
use Rattle.bodies.proofs.body_line.line_from.Goals as goal

-- Some(BodyLine::Field(words[1], words[2] == 1))
pub returns-then-kind-from : goal.returns-then-kind-from
unfolding read_from
returns-then-kind-from c = rw (eq-eqb _ 7 (c.if-kind-from.true ∙ c.from.ensures.outcome))

-- Some(BodyLine::Group(words[1], words[2], words[3] == 1))
pub returns-then-kind-from-2 : goal.returns-then-kind-from-2
unfolding read_from
returns-then-kind-from-2 c =
    rw (ne_eqb _ 7 (λ same. c.if-kind-from.false (same ∙ sym c.from.ensures.outcome)), eq-eqb _ 8 (c.if-kind-from-2.true ∙ c.from-else-kind-from.ensures.outcome))

-- Some(BodyLine::Use(words[1], words[2] == 1))
pub returns-then-kind-from-3 : goal.returns-then-kind-from-3
unfolding read_from
returns-then-kind-from-3 c =
    rw (
      ne_eqb _ 7 (λ same. c.if-kind-from.false (same ∙ sym c.from.ensures.outcome)),
      ne_eqb _ 8 (λ same. c.if-kind-from-2.false (same ∙ sym c.from-else-kind-from.ensures.outcome)),
      eq-eqb _ 9 (c.if-kind-from-3.true ∙ c.from-else-kind-from-2.ensures.outcome),
    )

-- None
pub returns-else-kind-from-3 : goal.returns-else-kind-from-3
unfolding read_from
returns-else-kind-from-3 c =
    rw (
      ne_eqb _ 7 (λ same. c.if-kind-from.false (same ∙ sym c.from.ensures.outcome)),
      ne_eqb _ 8 (λ same. c.if-kind-from-2.false (same ∙ sym c.from-else-kind-from.ensures.outcome)),
      ne_eqb _ 9 (λ same. c.if-kind-from-3.false (same ∙ sym c.from-else-kind-from-2.ensures.outcome)),
    )
