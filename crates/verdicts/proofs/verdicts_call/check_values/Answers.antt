-- `verdicts::verdicts_call::check_values` meets its contract. The laws are those of specs/VerdictsLaws.antt.
use Rattle.std.proofs.Common.{sym, ◌∙◌}
use Rattle.refusals.specs.HandedOn.{handed_on}
use Rattle.verdicts.specs.VerdictsLaws.{refused-dictionary, refused-table, table-taken}
use Rattle.verdicts.proofs.verdicts_call.check_values.Goals as goal

-- return Err(Refusal::UnknownForm(0));
pub returns-in_default : goal.returns-in_default
returns-in_default c =
    let answers = refused-dictionary c.args.dictionary.now c.args.fields.now c.args.message.now c.args.strict c.args.verdicts.now (sym c.in_default.ensures.accepted) in
    record { outcome = answers.0; memory = answers.1 }

-- let table = FieldTable::new(fields, message)?;
pub returns-in_err-table : goal.returns-in_err-table
returns-in_err-table c =
    let answers = refused-table c.args.dictionary.now c.args.fields.now c.args.message.now c.args.strict c.args.verdicts.now (sym c.in-Some.ensures.accepted) _ c.in_err-table.ensures.outcome in
    record { outcome = handed_on _ _ c.from_residual.ensures.1 ∙ answers.0; memory = answers.1 }

-- judge_fields(dictionary, &table, strict, verdicts)
pub returns : goal.returns
returns c =
    let answers = table-taken c.args.dictionary.now c.args.fields.now c.args.message.now c.args.strict c.args.verdicts.now (sym c.in-Some.ensures.accepted) _ _ c.in_ok-table.ensures.outcome.0 c.in_ok-table.ensures.outcome.1 c.in_ok-table.table.accepted _ _ c.judge_fields.ensures.outcome (rw c.in-Some.ensures.words at c.judge_fields.ensures.memory) in
    record { outcome = answers.0; memory = answers.1 }
