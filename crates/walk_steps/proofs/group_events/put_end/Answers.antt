-- `walk_steps::group_events::put_end` meets its contract. The laws are those of specs/WrittenEventsLaws.antt.
use Rattle.walk_steps.specs.WrittenEventsLaws.{left-nothing, left-same, left-unparseable, left-miscount}
use borrow.Author.Rules.{rules}
use Rattle.walk_steps.proofs.group_events.put_end.Goals as goal

pub returns-in_default : goal.returns-in_default
returns-in_default c = left-nothing _ _ _ _ _ c.in_default.is c.put_event.ensures

pub returns-then-number-entries : goal.returns-then-number-entries
returns-then-number-entries c = left-same _ _ _ _ _ _ c.in-Some.is c.if-number-entries.true c.put_event-then-number-entries.ensures

pub returns-then-unparseable : goal.returns-then-unparseable
returns-then-unparseable c = left-unparseable _ _ _ _ _ _ c.in-Some.is c.if-number-entries.false c.if-unparseable.true c.put_event-then-unparseable.ensures

pub returns : goal.returns
returns c = left-miscount _ _ _ _ _ _ c.in-Some.is c.if-number-entries.false c.if-unparseable.false c.put_event-next.ensures c.put_event-2.ensures
