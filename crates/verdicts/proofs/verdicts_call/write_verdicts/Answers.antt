-- `verdicts::verdicts_call::write_verdicts` meets its contract. The laws are those of specs/VerdictsLaws.antt and of verdict, specs/FieldRecordsLaws.antt.
use native.Mathlib.Omega.{arith}
use Rattle.verdict.specs.FieldRecordsLaws.{filled_in-holds}
use Rattle.verdicts.specs.VerdictsLaws.{written_over}
use Rattle.verdicts.proofs.verdicts_call.write_verdicts.Goals as goal

-- judge_values(dictionary, fields, message, strict, verdicts);
pub judge_values-requires : goal.judge_values-requires
judge_values-requires c = record {
  fields_in_bounds = omega (arith, c.requires.fields_in_bounds);
  holds = filled_in-holds _ _ _ _ c.write_records.ensures.memory;
}

pub returns : goal.returns
returns c = record { memory = written_over c.args.dictionary.words.now c.args.table.fields.now c.args.table.message.now c.args.strict c.args.verdicts.now _ _ c.write_records.ensures.memory c.judge_values.ensures.memory }
