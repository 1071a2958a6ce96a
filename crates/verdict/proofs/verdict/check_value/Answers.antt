-- `verdict::verdict::check_value` meets its contract: its tests are those of `recorded_verdict`, in their order. The laws are those of specs/FieldRecordsLaws.antt.
use Rattle.std.proofs.Common.{sym, ap, ◌∙◌}
use Rattle.std.specs.Result.{result_ok}
use Rattle.verdict.specs.FieldRecordsLaws.{recorded-past, recorded-typed}
use Rattle.verdict.proofs.verdict.check_value.Goals as goal

-- let Some(record) = dictionary.records().get(number) else {
pub returns-in_default : goal.returns-in_default
returns-in_default c = recorded-past _ _ _ _ _ c.records.ensures.records c.records.ensures.count c.in_default.ensures.lookup.0

-- let Ok(field_type) = FieldType::try_from(record[2] as usize) else {
pub returns-in_default-try_from : goal.returns-in_default-try_from
returns-in_default-try_from c =
    rw (
      recorded-typed c.args.dictionary.words.now c.args.strict c.args.value.now c.args.number _ c.records.ensures.records c.records.ensures.count _ _ c.in-Some.ensures.lookup.0 c.in-Some.ensures.lookup.1,
      sym c.try_from.ensures ∙ ap result_ok c.in_default-try_from.is,
    )

-- return Verdict::WrongFormat;
pub returns-then-not-has_format : goal.returns-then-not-has_format
returns-then-not-has_format c =
    rw (
      recorded-typed c.args.dictionary.words.now c.args.strict c.args.value.now c.args.number _ c.records.ensures.records c.records.ensures.count _ _ c.in-Some.ensures.lookup.0 c.in-Some.ensures.lookup.1,
      sym c.try_from.ensures ∙ ap result_ok c.in-Ok.is,
      sym c.has_format.ensures ∙ c.if-not-has_format.true,
    )

-- return Verdict::NotAdmitted;
pub returns-then-not-is_admitted : goal.returns-then-not-is_admitted
returns-then-not-is_admitted c =
    rw (
      recorded-typed c.args.dictionary.words.now c.args.strict c.args.value.now c.args.number _ c.records.ensures.records c.records.ensures.count _ _ c.in-Some.ensures.lookup.0 c.in-Some.ensures.lookup.1,
      sym c.try_from.ensures ∙ ap result_ok c.in-Ok.is,
      sym c.has_format.ensures ∙ c.if-not-has_format.false,
      sym c.is_admitted.ensures ∙ c.if-not-is_admitted.true,
    )

-- Verdict::Good
pub returns : goal.returns
returns c =
    rw (
      recorded-typed c.args.dictionary.words.now c.args.strict c.args.value.now c.args.number _ c.records.ensures.records c.records.ensures.count _ _ c.in-Some.ensures.lookup.0 c.in-Some.ensures.lookup.1,
      sym c.try_from.ensures ∙ ap result_ok c.in-Ok.is,
      sym c.has_format.ensures ∙ c.if-not-has_format.false,
      sym c.is_admitted.ensures ∙ c.if-not-is_admitted.false,
    )
