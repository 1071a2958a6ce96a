-- `verdicts::verdicts_call::write_records` meets its contract. The loop's invariant is `FilledSoFar`; the laws are those of verdict, specs/FieldRecordsLaws.antt.
use Rattle.field_table.specs.FieldTable.{row_count}
use Rattle.verdict.specs.FieldRecords.{field_record}
use Rattle.verdict.specs.FieldRecordsLaws.{FilledSoFar}
use Rattle.verdicts.proofs.verdicts_call.write_records.Given as goal

abbrev pub invariant-loop-position : goal.invariant-loop-position
invariant-loop-position l = FilledSoFar (field_record l.dictionary.words.now l.table.fields.now) (row_count l.table.fields.now) l.initial.verdicts l.position l.verdicts
