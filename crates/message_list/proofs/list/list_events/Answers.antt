-- `message_list::list::list_events` meets its contract, a case at a time.
use mathlib.Core.Path.{sym, ◌∙◌}
use Rattle.message_list.specs.ListCall.{list_of_layout, verdicts_of_layout}
use Rattle.std.proofs.lemmas.Result.{err_from_is_err_and}
use Rattle.message_list.proofs.list.list_events.Goals as goal

pub returns : goal.returns
unfolding list_of_layout verdicts_of_layout
returns c = record {
  outcome = rw (sym c.walk_message.ensures.outcome ∙ c.in_ok-words.was) c.list_verdicts.ensures.outcome;
  events = c.walk_message.ensures.memory;
  verdicts = rw (sym c.walk_message.ensures.outcome ∙ c.in_ok-words.was) c.list_verdicts.ensures.memory;
}

pub returns-in_err-words : goal.returns-in_err-words
unfolding list_of_layout verdicts_of_layout
returns-in_err-words c = let same = err_from_is_err_and c.from_residual.result c.from_residual.ensures.1 in record {
  outcome = rw (same.1, same.2, sym c.walk_message.ensures.outcome ∙ c.in_err-words.was);
  events = c.walk_message.ensures.memory;
  verdicts = rw (sym c.walk_message.ensures.outcome ∙ c.in_err-words.was);
}
