-- `walk::walk_call::most_words` meets its contract: an accepted table has at most 4,096 fields.
use native.Mathlib.Omega.{arith}
use Rattle.field_table.specs.FieldTableLaws.{accepted-few}
use Rattle.walk.proofs.walk_call.most_words.Goals as goal

pub overflow_mul-result-2 : goal.overflow_mul-result-2
overflow_mul-result-2 c = omega (arith, accepted-few _ _ c.args.table.accepted, c.len-rows.ensures)
