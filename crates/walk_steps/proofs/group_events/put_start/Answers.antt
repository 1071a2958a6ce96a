-- `walk_steps::group_events::put_start` meets its contract. The laws are those of specs/WrittenEventsLaws.antt.
use Rattle.walk_steps.specs.WrittenEventsLaws.{begun-number, begun-nothing}
use borrow.Author.Rules.{rules}
use Rattle.walk_steps.proofs.group_events.put_start.Goals as goal

pub returns-in_default : goal.returns-in_default
returns-in_default c = begun-nothing _ _ _ _ c.in_default.is c.put_event-next.ensures c.put_event.ensures

pub returns : goal.returns
returns c = begun-number _ _ _ _ _ c.in-Some.is c.put_event-next.ensures
