-- `field_table::field_table::check_field_table` meets its contract. The loop's invariant is `RowsSoFar`; the laws are those of specs/FieldTableLaws.antt.
use Rattle.std.proofs.Common.{rules, sym, arith, ◌<◌}
use Rattle.field_table.specs.FieldTable.{row_count}
use Rattle.field_table.specs.FieldTableLaws.{is_bad_field-reversed, is_bad_field-behind, is_bad_field-good, table_check_of-not_threes, table_check_of-many, row-first, row-past, rows_begin, rows_end, rows_bad, rows_go_on}
use Rattle.field_table.proofs.field_table.check_field_table.Goals as goal
use Rattle.field_table.proofs.field_table.check_field_table.Goals.{then-not-is_empty-via-then-not-is_empty, then-not-is_empty-via-else-not-is_empty+then-rows-gt4096}

-- return Err(Refusal::BadField(0));
pub returns-then-not-is_empty : goal.returns-then-not-is_empty
returns-then-not-is_empty c = elim c.then-not-is_empty.branch [
  | then-not-is_empty-via-then-not-is_empty w ↦ record { outcome = sym (table_check_of-not_threes c.args.fields.now c.args.message_len (search (rules, arith, w.if-not-is_empty.ensures, c.as_chunks.ensures.back_len))) }
  | then-not-is_empty-via-else-not-is_empty+then-rows-gt4096 w ↦ record { outcome = sym (table_check_of-many c.args.fields.now c.args.message_len (search (rules, arith, w.if-not-is_empty.ensures, c.as_chunks.ensures.back_len)) (omega (arith, w.if-rows-gt4096.true, c.as_chunks.ensures.front_len))) }
]

-- for (index, [_, first, past]) in rows.iter().enumerate() {
pub loop-index-init : goal.loop-index-init
loop-index-init c = rows_begin c.args.fields.now c.args.message_len (search (rules, arith)) (omega (arith, c.if-rows-gt4096.false, c.as_chunks.ensures.front_len))

pub returns-then-past-first : goal.returns-then-past-first
returns-then-past-first c =
    let inside : c.loop-index.index < row_count c.args.fields.now = omega (arith, c.loop-index-test.true, c.as_chunks.ensures.front_len) in
    let first = row-first c.args.fields.now _ c.as_chunks.ensures.front c.loop-index.index inside in
    let past = row-past c.args.fields.now _ c.as_chunks.ensures.front c.loop-index.index inside in
    record { outcome = sym (rows_bad _ _ _ c.loop-index.invariant inside (is_bad_field-reversed _ _ _ (omega (arith, c.if-past-first.true, first, past)))) }

pub returns-then-message_len-past : goal.returns-then-message_len-past
returns-then-message_len-past c =
    let inside : c.loop-index.index < row_count c.args.fields.now = omega (arith, c.loop-index-test.true, c.as_chunks.ensures.front_len) in
    let first = row-first c.args.fields.now _ c.as_chunks.ensures.front c.loop-index.index inside in
    let past = row-past c.args.fields.now _ c.as_chunks.ensures.front c.loop-index.index inside in
    record { outcome = sym (rows_bad _ _ _ c.loop-index.invariant inside (is_bad_field-behind _ _ _ (omega (arith, c.if-past-first.false, first, past)) (omega (arith, c.if-message_len-past.true, past)))) }

pub loop-index-preserved : goal.loop-index-preserved
loop-index-preserved c =
    let inside : c.loop-index.index < row_count c.args.fields.now = omega (arith, c.loop-index-test.true, c.as_chunks.ensures.front_len) in
    let first = row-first c.args.fields.now _ c.as_chunks.ensures.front c.loop-index.index inside in
    let past = row-past c.args.fields.now _ c.as_chunks.ensures.front c.loop-index.index inside in
    rows_go_on _ _ _ c.loop-index.invariant inside (is_bad_field-good _ _ _ (omega (arith, c.if-past-first.false, first, past)) (omega (arith, c.if-message_len-past.false, past)))

-- Ok(())
pub returns : goal.returns
returns c = record { outcome = sym (rows_end c.args.fields.now c.args.message_len _ c.loop-index.invariant (omega (arith, c.loop-index-test.false, c.as_chunks.ensures.front_len))) }
