-- `definitions::definitions::admits` meets its contract: a definition without admitted values admits every value (specs/AdmittedRecords.antt).
use Rattle.std.proofs.Common.{ap, sym, ◌∙◌}
use Rattle.definitions.specs.DefinitionsLaws.{admits_value-any}
use Rattle.definitions.specs.AdmittedRecords.{is_among_records, admits_value-listed}
use Rattle.definitions.proofs.definitions.admits.Goals as goal

-- return true;
pub returns-then-not-is_enumerated : goal.returns-then-not-is_enumerated
returns-then-not-is_enumerated c = sym (admits_value-any _ _ c.args.value.now (sym c.is_enumerated.ensures ∙ c.if-not-is_enumerated.true))

-- Some(admitted) => is_among(records_behind(dictionary, number), admitted),
pub returns-in-Some : goal.returns-in-Some
returns-in-Some c =
    rw (admits_value-listed _ _ c.args.value.now (sym c.is_enumerated.ensures ∙ c.if-not-is_enumerated.false), sym c.parse_value.ensures ∙ c.in-Some.is)
    (c.is_among.ensures ∙ ap (is_among_records c.in-Some.admitted) c.records_behind.ensures)

-- None => false,
pub returns-in-None : goal.returns-in-None
returns-in-None c =
    rw (admits_value-listed _ _ c.args.value.now (sym c.is_enumerated.ensures ∙ c.if-not-is_enumerated.false), sym c.parse_value.ensures ∙ c.in-None.is)
