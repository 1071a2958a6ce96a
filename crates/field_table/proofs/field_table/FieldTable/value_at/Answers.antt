-- `field_table::field_table::FieldTable::value_at` meets its contract: the part lent is the field's value (specs/FieldTableLaws.antt).
use native.Mathlib.Omega.{arith}
use Rattle.field_table.specs.FieldTableLaws.{table_check_of-accepted}
use Rattle.field_table.proofs.field_table.FieldTable.value_at.Goals as goal

pub slice_bounds-result-count : goal.slice_bounds-result-count
slice_bounds-result-count c = ((table_check_of-accepted _ _).0 c.args.self.accepted).ordered c.args.index c.requires

pub slice_bounds-result-start : goal.slice_bounds-result-start
slice_bounds-result-start c = omega (arith, ((table_check_of-accepted _ _).0 c.args.self.accepted).ordered c.args.index c.requires)

pub slice_bounds-result-end : goal.slice_bounds-result-end
slice_bounds-result-end c = omega (arith, ((table_check_of-accepted _ _).0 c.args.self.accepted).inside c.args.index c.requires)
