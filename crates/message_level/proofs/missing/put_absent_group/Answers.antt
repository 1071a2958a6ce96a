-- `message_level::missing::put_absent_group` meets its contract. The laws are those of specs/MissingLaws.antt.
use mathlib.Core.Path.{sym, ◌∙◌}
use native.Mathlib.Omega.{arith}
use Rattle.message_level.specs.MissingLaws.{group-free, group-required}
use Rattle.message_level.proofs.missing.put_absent_group.Goals as goal

-- return at;
pub returns-then-not-is_required_at : goal.returns-then-not-is_required_at
returns-then-not-is_required_at c = record {
  wrote = group-free c.args.seen.now.defined.tags.words.now c.args.seen.now.words.now c.args.layout.words.now c.args.number (sym c.is_required_at.ensures ∙ c.if-not-is_required_at.true) _ _;
  near = omega arith;
}

pub returns : goal.returns
returns c = record {
  wrote = group-required c.args.seen.now.defined.tags.words.now c.args.seen.now.words.now c.args.layout.words.now c.args.number _ (sym c.is_required_at.ensures ∙ c.if-not-is_required_at.false) c.count_tag_at-tag.ensures c.put_absent.ensures.wrote;
  near = c.put_absent.ensures.near;
}
