-- `message_list::list::list_fields` meets its contract, a case at a time (specs/ListSteps.antt).
use mathlib.Core.Path.{sym, ◌∙◌}
use native.Mathlib.Omega.{arith}
use Rattle.expand.specs.ExpandCallLaws.{expanded-fits}
use Rattle.message_list.specs.ListSteps.{part-inside, list_expanded, list_not_expanded}
use Rattle.std.proofs.lemmas.Result.{err_from_is_err_and}
use Rattle.message_list.proofs.list.list_fields.Goals as goal

-- match expand(dictionary, &message[first..past], layout) {
pub slice_bounds-expand-count : goal.slice_bounds-expand-count
slice_bounds-expand-count c = omega (arith, part-inside c.args.fields.now c.args.message.now _ c.message_type-part.ensures.outcome c.requires)

pub slice_bounds-expand-start : goal.slice_bounds-expand-start
slice_bounds-expand-start c = omega (arith, part-inside c.args.fields.now c.args.message.now _ c.message_type-part.ensures.outcome c.requires)

pub slice_bounds-expand-end : goal.slice_bounds-expand-end
slice_bounds-expand-end c = omega (arith, part-inside c.args.fields.now c.args.message.now _ c.message_type-part.ensures.outcome c.requires)

pub slice_bounds-list_events-end : goal.slice_bounds-list_events-end
slice_bounds-list_events-end c = omega (arith, expanded-fits c.args.dictionary.now _ c.args.layout.now _ _ (sym c.expand.ensures.outcome ∙ c.in_ok-expanded.was), c.expand.auto)

pub returns : goal.returns
returns c = record {
  outcome = (list_expanded c.args.dictionary.now c.args.fields.now c.args.message.now c.args.layout.now c.args.events.now c.args.verdicts.now _ c.message_type-part.ensures.outcome _ c.expand.ensures.outcome _ c.expand.ensures.memory _ _ c.in_ok-expanded.was _ _ _ c.list_events.ensures.outcome c.list_events.ensures.events c.list_events.ensures.verdicts).0;
  layout = (list_expanded c.args.dictionary.now c.args.fields.now c.args.message.now c.args.layout.now c.args.events.now c.args.verdicts.now _ c.message_type-part.ensures.outcome _ c.expand.ensures.outcome _ c.expand.ensures.memory _ _ c.in_ok-expanded.was _ _ _ c.list_events.ensures.outcome c.list_events.ensures.events c.list_events.ensures.verdicts).1.0;
  events = (list_expanded c.args.dictionary.now c.args.fields.now c.args.message.now c.args.layout.now c.args.events.now c.args.verdicts.now _ c.message_type-part.ensures.outcome _ c.expand.ensures.outcome _ c.expand.ensures.memory _ _ c.in_ok-expanded.was _ _ _ c.list_events.ensures.outcome c.list_events.ensures.events c.list_events.ensures.verdicts).1.1.0;
  verdicts = (list_expanded c.args.dictionary.now c.args.fields.now c.args.message.now c.args.layout.now c.args.events.now c.args.verdicts.now _ c.message_type-part.ensures.outcome _ c.expand.ensures.outcome _ c.expand.ensures.memory _ _ c.in_ok-expanded.was _ _ _ c.list_events.ensures.outcome c.list_events.ensures.events c.list_events.ensures.verdicts).1.1.1;
}

pub returns-in_err-expanded : goal.returns-in_err-expanded
returns-in_err-expanded c = let same = err_from_is_err_and c.from_residual.result c.from_residual.ensures.1 in record {
  outcome = rw (same.1, same.2) ((list_not_expanded c.args.dictionary.now c.args.fields.now c.args.message.now c.args.layout.now c.args.events.now c.args.verdicts.now _ c.message_type-part.ensures.outcome _ c.expand.ensures.outcome _ c.expand.ensures.memory _ c.in_err-expanded.was).0);
  layout = (list_not_expanded c.args.dictionary.now c.args.fields.now c.args.message.now c.args.layout.now c.args.events.now c.args.verdicts.now _ c.message_type-part.ensures.outcome _ c.expand.ensures.outcome _ c.expand.ensures.memory _ c.in_err-expanded.was).1.0;
  events = (list_not_expanded c.args.dictionary.now c.args.fields.now c.args.message.now c.args.layout.now c.args.events.now c.args.verdicts.now _ c.message_type-part.ensures.outcome _ c.expand.ensures.outcome _ c.expand.ensures.memory _ c.in_err-expanded.was).1.1.0;
  verdicts = (list_not_expanded c.args.dictionary.now c.args.fields.now c.args.message.now c.args.layout.now c.args.events.now c.args.verdicts.now _ c.message_type-part.ensures.outcome _ c.expand.ensures.outcome _ c.expand.ensures.memory _ c.in_err-expanded.was).1.1.1;
}
