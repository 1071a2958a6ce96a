-- `message_level::seen_tags::SeenSet::contains` meets its contract. The laws are those of specs/SeenTagsLaws.antt.
use native.Mathlib.Omega.{arith}
use Rattle.ascending.specs.SearchLaws.{is_strictly_ascending-true}
use Rattle.message_level.specs.SeenTagsLaws.{not-defined_seen, rank_low, rank_held}
use mathlib.Core.Path.{◌∙◌}
use Rattle.message_level.proofs.seen_tags.SeenSet.contains.Goals as goal

pub returns-in_default : goal.returns-in_default
returns-in_default c = λ tags kept. not-defined_seen c.args.self.now.defined.tags.words.now (is_strictly_ascending-true _ c.args.self.now.defined.tags.ascends) c.args.tag _ (λ ascends. c.binary_search.ensures) c.in_default.is c.args.self.now.words.now tags kept

-- ranks::contains(seen, rank)
pub contains-requires : goal.contains-requires
contains-requires c = omega (arith, rank_low c.args.self.now.defined.tags.words.now (is_strictly_ascending-true _ c.args.self.now.defined.tags.ascends) c.args.tag _ (λ ascends. c.binary_search.ensures) _ c.in-Some.is, c.args.self.now.defined.few_tags, c.args.self.now.wide)

-- ranks::contains(self.words, rank)
pub returns : goal.returns
returns c = λ tags kept. c.contains.ensures ∙ rank_held c.args.self.now.defined.tags.words.now (is_strictly_ascending-true _ c.args.self.now.defined.tags.ascends) c.args.tag _ (λ ascends. c.binary_search.ensures) _ c.in-Some.is c.args.self.now.words.now tags kept
