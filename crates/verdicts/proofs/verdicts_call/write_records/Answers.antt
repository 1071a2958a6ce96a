-- `verdicts::verdicts_call::write_records` meets its contract. The loop's invariant is `FilledSoFar`; the laws are those of verdict, specs/FieldRecordsLaws.antt.
use mathlib.Core.Path.{ap, ◌∙◌}
use native.Mathlib.Omega.{arith}
use Rattle.verdict.specs.FieldRecords.{record_of}
use Rattle.verdict.specs.FieldRecordsLaws.{filled_goes_on, filled_ends}
use Rattle.verdicts.proofs.verdicts_call.write_records.Goals as goal

pub loop-position-preserved : goal.loop-position-preserved
loop-position-preserved c = filled_goes_on _ _ _ _ _ c.loop-position.invariant _ (omega (arith, c.loop-position-test.true, c.len-position-end.ensures)) (c.record_of.ensures ∙ ap (record_of c.args.dictionary.words.now) c.tag_at-tag.ensures)

pub returns : goal.returns
returns c = record { memory = filled_ends _ _ _ _ _ c.loop-position.invariant c.requires.fields_in_bounds (omega (arith, c.loop-position-test.false, c.len-position-end.ensures)) }
