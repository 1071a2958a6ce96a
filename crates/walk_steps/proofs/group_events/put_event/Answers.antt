-- `walk_steps::group_events::put_event` meets its contract.
use Rattle.events.specs.EventSpaceLaws.{wrote_one}
use borrow.Author.Rules.{rules}
use Rattle.walk_steps.proofs.group_events.put_event.Goals as goal

pub returns : goal.returns
returns c = wrote_one _ _ _ _ _ c.put.ensures.outcome c.put.ensures.memory
