-- `message_list::list::list_verdicts` meets its contract, a case at a time.
use mathlib.Core.Path.{sym, ◌∙◌}
use Rattle.std.proofs.lemmas.Result.{err_from_is_err_and}
use Rattle.message_list.proofs.list.list_verdicts.Goals as goal

pub returns : goal.returns
returns c = record {
  outcome = rw (sym c.check_values.ensures.outcome ∙ c.in_ok-words.was);
  memory = c.check_values.ensures.memory;
}

pub returns-in_err-words : goal.returns-in_err-words
returns-in_err-words c = let same = err_from_is_err_and c.from_residual.result c.from_residual.ensures.1 in record {
  outcome = rw (same.1, same.2, sym c.check_values.ensures.outcome ∙ c.in_err-words.was);
  memory = c.check_values.ensures.memory;
}
