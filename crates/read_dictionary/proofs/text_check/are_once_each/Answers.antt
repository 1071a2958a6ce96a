-- `read_dictionary::text_check::are_once_each` meets its contract: the names are sorted, then compared each with the next.
use mathlib.Core.Path.{ap, ◌∙◌}
use Rattle.ascending.specs.Search.{is_strictly_ascending}
use Rattle.read_dictionary.proofs.text_check.are_once_each.Goals as goal

pub returns : goal.returns
returns c = record { outcome = c.is_strictly_ascending.ensures.outcome ∙ ap is_strictly_ascending c.sort_unstable.ensures.memory }
