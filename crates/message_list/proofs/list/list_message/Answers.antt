-- `message_list::list::list_message` meets its contract, a case at a time (specs/ListSteps.antt).
use native.Mathlib.Omega.{arith}
use Rattle.message_list.specs.ListSteps.{fields_fit, type-fits, list_read, list_not_read}
use Rattle.std.proofs.lemmas.Result.{err_from_is_err_and}
use Rattle.message_list.proofs.list.list_message.Goals as goal

-- let size = 3 * count;
pub overflow_mul-size : goal.overflow_mul-size
overflow_mul-size c = omega (arith, fields_fit c.args.dictionary.now c.args.message.now c.args.layout.now c.args.fields.now c.args.events.now c.args.verdicts.now _ c.read_message.ensures.outcome _ c.read_message.ensures.memory _ c.in_ok-count.was)

pub slice_bounds-list_fields-end : goal.slice_bounds-list_fields-end
slice_bounds-list_fields-end c = omega (arith, fields_fit c.args.dictionary.now c.args.message.now c.args.layout.now c.args.fields.now c.args.events.now c.args.verdicts.now _ c.read_message.ensures.outcome _ c.read_message.ensures.memory _ c.in_ok-count.was)

-- list_fields(
pub list_fields-requires : goal.list_fields-requires
list_fields-requires c = type-fits c.args.dictionary.now c.args.message.now c.args.layout.now c.args.fields.now c.args.events.now c.args.verdicts.now _ c.read_message.ensures.outcome _ c.read_message.ensures.memory _ c.in_ok-count.was

pub returns : goal.returns
returns c = record {
  outcome = (list_read c.args.dictionary.now c.args.message.now c.args.layout.now c.args.fields.now c.args.events.now c.args.verdicts.now _ c.read_message.ensures.outcome _ c.read_message.ensures.memory _ c.in_ok-count.was _ _ _ _ c.list_fields.ensures.outcome c.list_fields.ensures.layout c.list_fields.ensures.events c.list_fields.ensures.verdicts).0;
  layout = (list_read c.args.dictionary.now c.args.message.now c.args.layout.now c.args.fields.now c.args.events.now c.args.verdicts.now _ c.read_message.ensures.outcome _ c.read_message.ensures.memory _ c.in_ok-count.was _ _ _ _ c.list_fields.ensures.outcome c.list_fields.ensures.layout c.list_fields.ensures.events c.list_fields.ensures.verdicts).1.0;
  fields = (list_read c.args.dictionary.now c.args.message.now c.args.layout.now c.args.fields.now c.args.events.now c.args.verdicts.now _ c.read_message.ensures.outcome _ c.read_message.ensures.memory _ c.in_ok-count.was _ _ _ _ c.list_fields.ensures.outcome c.list_fields.ensures.layout c.list_fields.ensures.events c.list_fields.ensures.verdicts).1.1.0;
  events = (list_read c.args.dictionary.now c.args.message.now c.args.layout.now c.args.fields.now c.args.events.now c.args.verdicts.now _ c.read_message.ensures.outcome _ c.read_message.ensures.memory _ c.in_ok-count.was _ _ _ _ c.list_fields.ensures.outcome c.list_fields.ensures.layout c.list_fields.ensures.events c.list_fields.ensures.verdicts).1.1.1.0;
  verdicts = (list_read c.args.dictionary.now c.args.message.now c.args.layout.now c.args.fields.now c.args.events.now c.args.verdicts.now _ c.read_message.ensures.outcome _ c.read_message.ensures.memory _ c.in_ok-count.was _ _ _ _ c.list_fields.ensures.outcome c.list_fields.ensures.layout c.list_fields.ensures.events c.list_fields.ensures.verdicts).1.1.1.1;
}

pub returns-in_err-count : goal.returns-in_err-count
returns-in_err-count c = let same = err_from_is_err_and c.from_residual.result c.from_residual.ensures.1 in record {
  outcome = rw (same.1, same.2) ((list_not_read c.args.dictionary.now c.args.message.now c.args.layout.now c.args.fields.now c.args.events.now c.args.verdicts.now _ c.read_message.ensures.outcome _ c.read_message.ensures.memory _ c.in_err-count.was).0);
  layout = (list_not_read c.args.dictionary.now c.args.message.now c.args.layout.now c.args.fields.now c.args.events.now c.args.verdicts.now _ c.read_message.ensures.outcome _ c.read_message.ensures.memory _ c.in_err-count.was).1.0;
  fields = (list_not_read c.args.dictionary.now c.args.message.now c.args.layout.now c.args.fields.now c.args.events.now c.args.verdicts.now _ c.read_message.ensures.outcome _ c.read_message.ensures.memory _ c.in_err-count.was).1.1.0;
  events = (list_not_read c.args.dictionary.now c.args.message.now c.args.layout.now c.args.fields.now c.args.events.now c.args.verdicts.now _ c.read_message.ensures.outcome _ c.read_message.ensures.memory _ c.in_err-count.was).1.1.1.0;
  verdicts = (list_not_read c.args.dictionary.now c.args.message.now c.args.layout.now c.args.fields.now c.args.events.now c.args.verdicts.now _ c.read_message.ensures.outcome _ c.read_message.ensures.memory _ c.in_err-count.was).1.1.1.1;
}
