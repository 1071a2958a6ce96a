-- `walk_steps::group_events::put_repeat` meets its contract. The laws are those of specs/WrittenEventsLaws.antt.
use Rattle.walk_steps.specs.WrittenEventsLaws.{repeat_fresh, repeat_again}
use borrow.Author.Rules.{rules}
use Rattle.walk_steps.proofs.group_events.put_repeat.Goals as goal

-- return at;
pub returns-then-fresh : goal.returns-then-fresh
returns-then-fresh c = repeat_fresh _ _ _ _ c.if-fresh.true _ _

pub returns : goal.returns
returns c = repeat_again _ _ _ _ c.if-fresh.false c.put_event.ensures
