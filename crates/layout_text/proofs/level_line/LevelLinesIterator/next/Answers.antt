-- `next` of `layout_text::level_line::LevelLines` gives the next line, by specs/LevelLinesLaws.antt.
use Rattle.std.proofs.Common.{rules, refl, ◌≡◌, ◌≤◌, length, take, drop, ◌-◌, ◌∙◌, ap}
use Rattle.ascii.specs.BytesLaws.{part_to_end}
use Rattle.layout_text.specs.LevelLines.{level_line_of}
use Rattle.layout_text.specs.LevelLinesLaws.{next_first, next_other}
use Rattle.layout_text.proofs.level_line.LevelLinesIterator.next.Goals as goal

pub returns-in-Some-clause-steps : goal.returns-in-Some-clause-steps
returns-in-Some-clause-steps c =
    let within : c.args.self.now.first ≤ length c.args.self.now.text.now = search rules in
    let part : c.in_ok-get.field-0.now ≡ take (length c.args.self.now.text.now - c.args.self.now.first) (drop c.args.self.now.first c.args.self.now.text.now) = search rules in
    let from = part ∙ part_to_end c.args.self.now.text.now c.args.self.now.first in
    let given = rw c.in-Some.is at c.in_ok-given.ensures.steps in
    (refl, rw c.rest.ensures (next_first _ _ within _ c.in-Some.bytes.now (rw (c.new-lines.ensures, from) at given) _ (c.level_line.ensures ∙ ap level_line_of c.line_of.ensures)))

pub returns-in-None-clause-steps : goal.returns-in-None-clause-steps
returns-in-None-clause-steps c =
    let within : c.args.self.now.first ≤ length c.args.self.now.text.now = search rules in
    let part : c.in_ok-get.field-0.now ≡ take (length c.args.self.now.text.now - c.args.self.now.first) (drop c.args.self.now.first c.args.self.now.text.now) = search rules in
    let from = part ∙ part_to_end c.args.self.now.text.now c.args.self.now.first in
    let given = rw c.in-None.is at c.in_ok-given.ensures.steps in
    (refl, rw c.rest.ensures (next_other _ _ within _ (rw (c.new-lines.ensures, from) at given.0) given.1))
