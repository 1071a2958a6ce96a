-- `walk::walk_call::walk_group` meets its contract. The laws are those of specs/WalkCallLaws.antt.
use Rattle.std.proofs.Common.{sym, ap, ◌∙◌, Err}
use Rattle.refusals.specs.HandedOn.{handed_on}
use Rattle.layouts.specs.Limits.{gate_limits}
use Rattle.layouts.specs.LayoutCheckFacts.{layout-taken, layout-refused}
use Rattle.walk.specs.WalkCallLaws.{refused-layout, refused-table, table-taken}
use Rattle.walk.proofs.walk_call.walk_group.Goals as goal

-- let layout = layout_of(layout).ok_or(Refusal::RuleBroken(0, 0))?;
pub returns-in_err-layout : goal.returns-in_err-layout
returns-in_err-layout c =
    let refused = layout-refused gate_limits _ (λ layout. layout.words.now) _ c.layout_of.ensures.outcome _ _ (sym c.ok_or.ensures.value ∙ c.in_err-layout.was) in
    let answers = refused-layout c.args.layout.now c.args.fields.now c.args.message.now c.args.position c.args.tag c.args.events.now refused.0 in
    record { outcome = handed_on _ _ c.from_residual.ensures.1 ∙ ap Err refused.1 ∙ answers.0; memory = answers.1 }

-- let table = FieldTable::new(fields, message)?;
pub returns-in_err-table : goal.returns-in_err-table
returns-in_err-table c =
    let taken = layout-taken gate_limits _ (λ layout. layout.words.now) _ c.layout_of.ensures.outcome _ _ (sym c.ok_or.ensures.value ∙ c.in_ok-layout.was) in
    let answers = refused-table c.args.layout.now c.args.fields.now c.args.message.now c.args.position c.args.tag c.args.events.now taken.0 _ c.in_err-table.ensures.outcome in
    record { outcome = handed_on _ _ c.from_residual-in_err-table.ensures.1 ∙ answers.0; memory = answers.1 }

-- walk_top(&table, &layout, position, tag, events)
pub returns : goal.returns
returns c =
    let taken = layout-taken gate_limits _ (λ layout. layout.words.now) _ c.layout_of.ensures.outcome _ _ (sym c.ok_or.ensures.value ∙ c.in_ok-layout.was) in
    let answers = table-taken c.args.layout.now c.args.fields.now c.args.message.now c.args.position c.args.tag c.args.events.now taken.0 _ _ _ taken.1 c.in_ok-table.ensures.outcome.0 c.in_ok-table.ensures.outcome.1 c.in_ok-table.table.accepted _ _ c.walk_top.ensures.outcome c.walk_top.ensures.memory in
    record { outcome = answers.0; memory = answers.1 }
