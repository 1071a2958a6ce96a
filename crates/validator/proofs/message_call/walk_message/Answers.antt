-- `validator::message_call::walk_message` meets its contract. The laws are those of specs/MessageCallLaws.antt.
use Rattle.std.proofs.Common.{sym, ap, ◌∙◌, Err}
use Rattle.refusals.specs.HandedOn.{handed_on}
use Rattle.layouts.specs.Limits.{gate_limits}
use Rattle.layouts.specs.LayoutCheckFacts.{layout-taken, layout-refused}
use Rattle.validator.specs.MessageCallLaws.{refused-dictionary, refused-layout, refused-table, table-taken}
use Rattle.validator.proofs.message_call.walk_message.Goals as goal

-- return Err(Refusal::UnknownForm(0));
pub returns-in_default : goal.returns-in_default
returns-in_default c =
    let answers = refused-dictionary c.args.dictionary.now c.args.layout.now c.args.fields.now c.args.message.now c.args.events.now (sym c.in_default.ensures.accepted) in
    record { outcome = answers.0; memory = answers.1 }

-- let layout = layout_of(layout).ok_or(Refusal::RuleBroken(0, 0))?;
pub returns-in_err-layout : goal.returns-in_err-layout
returns-in_err-layout c =
    let refused = layout-refused gate_limits _ (λ layout. layout.words.now) _ c.layout_of.ensures.outcome _ _ (sym c.ok_or.ensures.value ∙ c.in_err-layout.was) in
    let answers = refused-layout c.args.dictionary.now c.args.layout.now c.args.fields.now c.args.message.now c.args.events.now (sym c.in-Some.ensures.accepted) refused.0 in
    record { outcome = handed_on _ _ c.from_residual.ensures.1 ∙ ap Err refused.1 ∙ answers.0; memory = answers.1 }

-- let table = FieldTable::new(fields, message)?;
pub returns-in_err-table : goal.returns-in_err-table
returns-in_err-table c =
    let taken = layout-taken gate_limits _ (λ layout. layout.words.now) _ c.layout_of.ensures.outcome _ _ (sym c.ok_or.ensures.value ∙ c.in_ok-layout.was) in
    let answers = refused-table c.args.dictionary.now c.args.layout.now c.args.fields.now c.args.message.now c.args.events.now (sym c.in-Some.ensures.accepted) taken.0 _ c.in_err-table.ensures.outcome in
    record { outcome = handed_on _ _ c.from_residual-in_err-table.ensures.1 ∙ answers.0; memory = answers.1 }

-- walk_accepted(dictionary, &layout, &table, events)
pub returns : goal.returns
returns c =
    let taken = layout-taken gate_limits _ (λ layout. layout.words.now) _ c.layout_of.ensures.outcome _ _ (sym c.ok_or.ensures.value ∙ c.in_ok-layout.was) in
    let answers = table-taken c.args.dictionary.now c.args.layout.now c.args.fields.now c.args.message.now c.args.events.now (sym c.in-Some.ensures.accepted) taken.0 _ _ _ taken.1 c.in_ok-table.ensures.outcome.0 c.in_ok-table.ensures.outcome.1 c.in_ok-table.table.accepted _ _ (rw c.in-Some.ensures.words at c.walk_accepted.ensures.outcome) (rw c.in-Some.ensures.words at c.walk_accepted.ensures.memory) in
    record { outcome = answers.0; memory = answers.1 }
