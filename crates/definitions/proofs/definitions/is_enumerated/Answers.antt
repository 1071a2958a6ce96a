-- `definitions::definitions::is_enumerated` meets its contract: the first record behind the definition's says it (specs/AdmittedRecords.antt).
use Rattle.std.proofs.Common.{ap, sym, ◌∙◌}
use Rattle.definitions.specs.AdmittedRecords.{is_value_first, value-first, none-first, enumerated-first}
use Rattle.definitions.proofs.definitions.is_enumerated.Goals as goal

-- [first, ..] => is_value(first),
pub returns-in-len1-up : goal.returns-in-len1-up
returns-in-len1-up c = c.is_value.ensures ∙ value-first _ c.in-len1-up.len_at_least ∙ ap is_value_first c.records_behind.ensures ∙ sym (enumerated-first _ _)

-- [] => false,
pub returns-in-empty : goal.returns-in-empty
returns-in-empty c = none-first _ c.in-empty.len_below ∙ ap is_value_first c.records_behind.ensures ∙ sym (enumerated-first _ _)
