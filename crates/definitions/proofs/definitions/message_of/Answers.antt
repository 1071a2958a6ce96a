-- `definitions::definitions::message_of` meets its contract: a type that is none is no message's.
use mathlib.Core.Path.{sym, ◌∙◌}
use Rattle.definitions.specs.Definitions.{message_of}
use borrow.Author.Rules.{rules}
use Rattle.definitions.proofs.definitions.message_of.Goals as goal

-- pub fn message_of(words: &[u32], value: &[u8]) -> Option<usize>
pub returns : goal.returns
unfolding message_of
returns c = record {
  found = rw (sym c.parse_message_type.ensures ∙ c.in_ok-letters.was) c.message_named.ensures.found;
  inside = c.message_named.ensures.inside;
}

pub returns-in_err-letters : goal.returns-in_err-letters
unfolding message_of
returns-in_err-letters c = record {
  found = rw (sym c.parse_message_type.ensures ∙ c.in_err-letters.was) c.from_residual.ensures;
  inside = rw c.from_residual.ensures tt;
}
