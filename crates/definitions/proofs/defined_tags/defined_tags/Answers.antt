-- `definitions::defined_tags::defined_tags` meets its contract: the names of the first index are a part of the words (specs/DefinedTagsLaws.antt).
use mathlib.Core.Path.{refl}
use native.Mathlib.Omega.{arith}
use Rattle.definitions.specs.DefinitionsLaws.{is_dictionary-parts}
use Rattle.definitions.specs.DefinedTagsLaws.{defined_tags-part}
use borrow.Author.Rules.{rules}
use Rattle.definitions.proofs.defined_tags.defined_tags.Goals as goal

-- pub fn defined_tags(words: &[u32]) -> &[u32]
pub returns : goal.returns
returns c = record {
  tags = ((defined_tags-part _ c.args.dictionary.accepted (λ place. omega (arith, c.shared_slice_known-1.given place)) _ refl).0);
  ascending = (defined_tags-part _ c.args.dictionary.accepted (λ place. omega (arith, c.shared_slice_known-1.given place)) _ refl).1.0;
  few = (defined_tags-part _ c.args.dictionary.accepted (λ place. omega (arith, c.shared_slice_known-1.given place)) _ refl).1.1;
}
