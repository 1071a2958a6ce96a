-- `definitions::definitions::message_named` meets its contract: the third index is searched.
use native.Mathlib.Omega.{arith}
use Rattle.definitions.specs.DefinitionsLaws.{is_dictionary-parts}
use Rattle.definitions.proofs.definitions.message_named.Goals as goal

-- record_in(words, 6, at, count, letters)
pub record_in-requires : goal.record_in-requires
record_in-requires c = (omega (arith, c.args.dictionary.fits), (is_dictionary-parts _ c.args.dictionary.accepted).message_names)

-- fn message_named(words: &[u32], letters: u32) -> Option<usize>
pub returns : goal.returns
returns c = record {
  found = c.record_in.ensures.found;
  inside = c.record_in.ensures.inside;
}
