-- `verdicts::verdicts_call::judge_fields` meets its contract. The laws are those of specs/VerdictsLaws.antt.
use Rattle.std.proofs.Common.{ap, ◌∙◌, arith, Ok, Err}
use Rattle.refusals.specs.declared.refusal.Refusal.TheVariants.{SpaceShort}
use Rattle.std.specs.Prelude.{ℕ}
use Rattle.verdicts.specs.VerdictsLaws.{space_short, space-holds}
use Rattle.verdicts.proofs.verdicts_call.judge_fields.Goals as goal

-- return Err(Refusal::SpaceShort(needed as u64));
pub returns-then-verdicts-needed : goal.returns-then-verdicts-needed
returns-then-verdicts-needed c =
    let answers = space_short c.args.dictionary.words.now c.args.table.fields.now c.args.table.message.now c.args.strict c.args.verdicts.now (omega (arith, c.if-verdicts-needed.true, c.len-needed.ensures)) in
    record { outcome = ap (λ (needed : ℕ). Err (SpaceShort needed)) c.len-needed.ensures ∙ answers.0; memory = answers.1 }

-- Ok(needed)
pub returns : goal.returns
returns c =
    let answers = space-holds c.args.dictionary.words.now c.args.table.fields.now c.args.table.message.now c.args.strict c.args.verdicts.now _ (omega (arith, c.if-verdicts-needed.false, c.len-needed.ensures)) c.write_verdicts.ensures.memory in
    record { outcome = ap Ok c.len-needed.ensures ∙ answers.0; memory = answers.1 }
