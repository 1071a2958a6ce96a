-- `replay_lines::recorded_values::first_word` meets its contract, by specs/FirstSpaceLaws.antt.
use Rattle.std.proofs.Common.{sym, ◌∙◌, ap, ◌++◌, ◌∷◌, take, ◌+◌}
use Rattle.ascii.specs.BytesLaws.{part_to_end}
use Rattle.replay_lines.specs.FirstSpaceLaws.{cut_at_first}
use Rattle.replay_lines.proofs.recorded_values.first_word.Goals as goal

pub returns-in-Some-clause-parts : goal.returns-in-Some-clause-parts
returns-in-Some-clause-parts c =
    let line = c.args.line.now in
    let space = c.in-Some.space in
    cut_at_first 32 line space (sym c.space_in.ensures ∙ c.in-Some.is)
    ∙ ap (λ rest. take space line ++ 32 ∷ rest) (sym (part_to_end line (space + 1)))
