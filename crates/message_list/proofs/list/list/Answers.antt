-- `message_list::list::list` meets its contract, a case at a time (specs/ListSteps.antt).
use mathlib.Core.Path.{sym, ◌∙◌}
use native.Mathlib.Omega.{arith}
use Rattle.message_list.specs.ListSteps.{read_fits, list_written, list_not_written}
use Rattle.std.proofs.lemmas.Result.{err_from_is_err_and}
use Rattle.message_list.proofs.list.list.Goals as goal

pub slice_bounds-list_message-end : goal.slice_bounds-list_message-end
slice_bounds-list_message-end c = omega (arith, read_fits _ _ _ (sym c.read_dictionary.ensures.outcome ∙ c.in_ok-size.was), c.read_dictionary.auto)

pub returns : goal.returns
returns c = record {
  outcome = (list_written c.args.dictionary_text.now c.args.message.now c.args.words.now c.args.layout.now c.args.fields.now c.args.events.now c.args.verdicts.now _ c.read_dictionary.ensures.outcome _ c.read_dictionary.ensures.memory _ c.in_ok-size.was _ _ _ _ _ c.list_message.ensures.outcome c.list_message.ensures.layout c.list_message.ensures.fields c.list_message.ensures.events c.list_message.ensures.verdicts).0;
  words = (list_written c.args.dictionary_text.now c.args.message.now c.args.words.now c.args.layout.now c.args.fields.now c.args.events.now c.args.verdicts.now _ c.read_dictionary.ensures.outcome _ c.read_dictionary.ensures.memory _ c.in_ok-size.was _ _ _ _ _ c.list_message.ensures.outcome c.list_message.ensures.layout c.list_message.ensures.fields c.list_message.ensures.events c.list_message.ensures.verdicts).1.0;
  layout = (list_written c.args.dictionary_text.now c.args.message.now c.args.words.now c.args.layout.now c.args.fields.now c.args.events.now c.args.verdicts.now _ c.read_dictionary.ensures.outcome _ c.read_dictionary.ensures.memory _ c.in_ok-size.was _ _ _ _ _ c.list_message.ensures.outcome c.list_message.ensures.layout c.list_message.ensures.fields c.list_message.ensures.events c.list_message.ensures.verdicts).1.1.0;
  fields = (list_written c.args.dictionary_text.now c.args.message.now c.args.words.now c.args.layout.now c.args.fields.now c.args.events.now c.args.verdicts.now _ c.read_dictionary.ensures.outcome _ c.read_dictionary.ensures.memory _ c.in_ok-size.was _ _ _ _ _ c.list_message.ensures.outcome c.list_message.ensures.layout c.list_message.ensures.fields c.list_message.ensures.events c.list_message.ensures.verdicts).1.1.1.0;
  events = (list_written c.args.dictionary_text.now c.args.message.now c.args.words.now c.args.layout.now c.args.fields.now c.args.events.now c.args.verdicts.now _ c.read_dictionary.ensures.outcome _ c.read_dictionary.ensures.memory _ c.in_ok-size.was _ _ _ _ _ c.list_message.ensures.outcome c.list_message.ensures.layout c.list_message.ensures.fields c.list_message.ensures.events c.list_message.ensures.verdicts).1.1.1.1.0;
  verdicts = (list_written c.args.dictionary_text.now c.args.message.now c.args.words.now c.args.layout.now c.args.fields.now c.args.events.now c.args.verdicts.now _ c.read_dictionary.ensures.outcome _ c.read_dictionary.ensures.memory _ c.in_ok-size.was _ _ _ _ _ c.list_message.ensures.outcome c.list_message.ensures.layout c.list_message.ensures.fields c.list_message.ensures.events c.list_message.ensures.verdicts).1.1.1.1.1.0;
  held = (list_written c.args.dictionary_text.now c.args.message.now c.args.words.now c.args.layout.now c.args.fields.now c.args.events.now c.args.verdicts.now _ c.read_dictionary.ensures.outcome _ c.read_dictionary.ensures.memory _ c.in_ok-size.was _ _ _ _ _ c.list_message.ensures.outcome c.list_message.ensures.layout c.list_message.ensures.fields c.list_message.ensures.events c.list_message.ensures.verdicts).1.1.1.1.1.1;
}

pub returns-in_err-size : goal.returns-in_err-size
returns-in_err-size c = let same = err_from_is_err_and c.from_residual.result c.from_residual.ensures.1 in record {
  outcome = rw (same.1, same.2) ((list_not_written c.args.dictionary_text.now c.args.message.now c.args.words.now c.args.layout.now c.args.fields.now c.args.events.now c.args.verdicts.now _ c.read_dictionary.ensures.outcome _ c.read_dictionary.ensures.memory _ c.in_err-size.was).0);
  words = (list_not_written c.args.dictionary_text.now c.args.message.now c.args.words.now c.args.layout.now c.args.fields.now c.args.events.now c.args.verdicts.now _ c.read_dictionary.ensures.outcome _ c.read_dictionary.ensures.memory _ c.in_err-size.was).1.0;
  layout = (list_not_written c.args.dictionary_text.now c.args.message.now c.args.words.now c.args.layout.now c.args.fields.now c.args.events.now c.args.verdicts.now _ c.read_dictionary.ensures.outcome _ c.read_dictionary.ensures.memory _ c.in_err-size.was).1.1.0;
  fields = (list_not_written c.args.dictionary_text.now c.args.message.now c.args.words.now c.args.layout.now c.args.fields.now c.args.events.now c.args.verdicts.now _ c.read_dictionary.ensures.outcome _ c.read_dictionary.ensures.memory _ c.in_err-size.was).1.1.1.0;
  events = (list_not_written c.args.dictionary_text.now c.args.message.now c.args.words.now c.args.layout.now c.args.fields.now c.args.events.now c.args.verdicts.now _ c.read_dictionary.ensures.outcome _ c.read_dictionary.ensures.memory _ c.in_err-size.was).1.1.1.1.0;
  verdicts = (list_not_written c.args.dictionary_text.now c.args.message.now c.args.words.now c.args.layout.now c.args.fields.now c.args.events.now c.args.verdicts.now _ c.read_dictionary.ensures.outcome _ c.read_dictionary.ensures.memory _ c.in_err-size.was).1.1.1.1.1.0;
  held = rw same.1 tt;
}
