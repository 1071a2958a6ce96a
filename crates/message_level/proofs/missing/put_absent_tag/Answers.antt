-- `message_level::missing::put_absent_tag` meets its contract. The laws are those of specs/MissingLaws.antt.
use native.Mathlib.Omega.{arith}
use Rattle.message_level.specs.MissingLaws.{tag-10, tag-other}
use Rattle.message_level.proofs.missing.put_absent_tag.Goals as goal

-- return at;
pub returns-then-tag-eq10 : goal.returns-then-tag-eq10
returns-then-tag-eq10 c = record {
  wrote = tag-10 c.args.seen.now.defined.tags.words.now c.args.seen.now.words.now c.args.tag c.if-tag-eq10.true _ _;
  near = omega arith;
}

pub returns : goal.returns
returns c = record {
  wrote = tag-other c.args.seen.now.defined.tags.words.now c.args.seen.now.words.now c.args.tag c.if-tag-eq10.false c.put_absent.ensures.wrote;
  near = c.put_absent.ensures.near;
}
