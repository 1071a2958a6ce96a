-- `definitions::definitions::component_of` meets its contract: the second index is searched.
use native.Mathlib.Omega.{arith}
use Rattle.definitions.specs.Definitions.{component_of}
use Rattle.definitions.specs.DefinitionsLaws.{is_dictionary-parts}
use Rattle.definitions.proofs.definitions.component_of.Goals as goal

-- record_in(words, 5, at, count, name)
pub record_in-requires : goal.record_in-requires
record_in-requires c = (omega (arith, c.args.dictionary.fits), (is_dictionary-parts _ c.args.dictionary.accepted).component_names)

-- pub fn component_of(words: &[u32], name: u32) -> Option<usize>
pub returns : goal.returns
unfolding component_of
returns c = record {
  found = c.record_in.ensures.found;
  inside = c.record_in.ensures.inside;
}
