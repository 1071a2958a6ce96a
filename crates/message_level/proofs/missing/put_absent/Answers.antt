-- `message_level::missing::put_absent` meets its contract. The laws are those of specs/MissingLaws.antt.
use native.Mathlib.Omega.{arith}
use Rattle.message_level.specs.MissingLaws.{absent_seen, absent_not_seen}
use Rattle.message_level.proofs.missing.put_absent.Goals as goal

-- return at;
pub returns-then-contains : goal.returns-then-contains
returns-then-contains c = record {
  wrote = absent_seen c.args.seen.now.defined.tags.words.now c.args.seen.now.words.now c.args.tag _ c.contains.ensures c.if-contains.true _ _;
  near = omega arith;
}

pub returns : goal.returns
returns c = record {
  wrote = absent_not_seen c.args.seen.now.defined.tags.words.now c.args.seen.now.words.now c.args.tag _ c.contains.ensures c.if-contains.false c.put_event.ensures;
  near = omega (arith, c.put_event.ensures.next_is);
}
