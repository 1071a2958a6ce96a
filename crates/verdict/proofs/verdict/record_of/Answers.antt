-- `verdict::verdict::record_of` meets its contract.
use mathlib.Core.Path.{sym, ◌∙◌}
use native.Mathlib.Omega.{arith}
use Rattle.definitions.specs.DefinitionsLaws.{is_dictionary-parts}
use Rattle.verdict.specs.FieldRecords.{record_of}
use Rattle.verdict.proofs.verdict.record_of.Goals as goal

-- pub fn record_of(dictionary: Dictionary<'_>, tag: u32) -> usize
pub returns-in-Some : goal.returns-in-Some
unfolding record_of
returns-in-Some c = rw (sym c.definition_of.ensures ∙ c.in-Some.is)

pub returns-in-None : goal.returns-in-None
unfolding record_of
returns-in-None c = rw (sym c.definition_of.ensures ∙ c.in-None.is) c.records.ensures.count
