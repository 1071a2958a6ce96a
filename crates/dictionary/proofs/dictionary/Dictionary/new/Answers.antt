-- `dictionary::dictionary::Dictionary::new` meets its contract: words that pass their check have a head and hold all that it counts.
use Rattle.std.proofs.Common.{sym, ◌∙◌}
use Rattle.dictionary.specs.DictionaryFacts.{is_dictionary-fits}
use Rattle.dictionary.proofs.dictionary.Dictionary.new.Goals as goal

-- Some(Dictionary { words })
pub invariant_of-result-clause-head : goal.invariant_of-result-clause-head
invariant_of-result-clause-head c = (is_dictionary-fits _ (sym c.is_dictionary.ensures.outcome ∙ c.if-is_dictionary.true)).0

pub invariant_of-result-clause-fits : goal.invariant_of-result-clause-fits
invariant_of-result-clause-fits c = (is_dictionary-fits _ (sym c.is_dictionary.ensures.outcome ∙ c.if-is_dictionary.true)).1

pub invariant_of-result-clause-words32 : goal.invariant_of-result-clause-words32
invariant_of-result-clause-words32 c = λ place. (c.type_inv.words place).fits
