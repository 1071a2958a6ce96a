-- `message_walk::message_walk::put_twice` meets its contract. The laws are those of specs/MessageTurnLaws.antt.
use Rattle.message_walk.specs.MessageTurnLaws.{twice-fresh, twice-again}
use borrow.Author.Rules.{rules}
use Rattle.message_walk.proofs.message_walk.put_twice.Goals as goal

-- return at;
pub returns-then-fresh : goal.returns-then-fresh
returns-then-fresh c = twice-fresh _ _ c.if-fresh.true _ _

pub returns : goal.returns
returns c = twice-again _ _ c.if-fresh.false c.put_event.ensures
