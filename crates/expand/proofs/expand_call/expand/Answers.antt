-- `expand::expand_call::expand` meets its contract: the dictionary's check, then the expansion.
use Rattle.std.proofs.Common.{sym}
use Rattle.expand.specs.ExpandCallLaws.{expand_no_dictionary}
use Rattle.expand.proofs.expand_call.expand.Goals as goal

pub returns-in_default-clause-outcome : goal.returns-in_default-clause-outcome
returns-in_default-clause-outcome c = (expand_no_dictionary _ _ _ (sym c.in_default.ensures.accepted)).0

pub returns-in_default-clause-memory : goal.returns-in_default-clause-memory
returns-in_default-clause-memory c = (expand_no_dictionary _ _ c.args.layout.now (sym c.in_default.ensures.accepted)).1
