-- `field_table::field_table::check_field_table`: the rows before this one are good.
use Rattle.field_table.specs.FieldTableLaws.{RowsSoFar}
use Rattle.field_table.proofs.field_table.check_field_table.Given as goal

abbrev pub invariant-loop-index : goal.invariant-loop-index
invariant-loop-index l = RowsSoFar l.fields l.message_len l.index
