-- `arrange_level::arrange_level::keep_required` meets its contract, for the top and for an entry.
use Rattle.arrange_level.specs.ArrangeLevelLaws.{kept_top, kept_entry}
use Rattle.arrange_level.proofs.arrange_level.keep_required.Goals as goal

pub returns-then-first-eq0-clause-memory : goal.returns-then-first-eq0-clause-memory
returns-then-first-eq0-clause-memory c = (kept_top _ _ _ c.if-first-eq0.true).1

pub returns-else-first-eq0-clause-memory : goal.returns-else-first-eq0-clause-memory
returns-else-first-eq0-clause-memory c = (kept_entry _ _ _ _ _ c.if-first-eq0.false c.retain.ensures.outcome c.retain.ensures.memory).1
