-- `message_text::message_text::put_fields` meets its contract. The loop's invariant is `RowsSoFar`; every answer cites a law of specs/MessageTextLaws.antt.
use Rattle.std.proofs.Common.{arith, length, ◌+◌, ◌≤◌, ◌<◌}
use Rattle.message_text.proofs.message_text.put_fields.Goals.{In-Some-field_line}
use Rattle.message_text.specs.MessageTextLaws.{rows_end, rows_unended, rows_stop, room_of_rows, row-value, rows_go_on}
use Rattle.message_text.proofs.message_text.put_fields.Goals as goal

pub returns-in_default : goal.returns-in_default
returns-in_default c = rows_unended _ _ _ _ _ _ c.loop-line.invariant (rw c.in_default.is at c.in-Some.ensures.steps).0

pub returns-in_default-field_line : goal.returns-in_default-field_line
returns-in_default-field_line c = rows_stop _ _ _ _ _ _ c.loop-line.invariant c.in-Some-line.line.now _ (rw c.in-Some-line.is at c.in-Some.ensures.steps) _ c.field_line.ensures c.in_default-field_line.is

-- the field of the line, which lies in the text
inside : (c : In-Some-field_line) → (c.loop-line.first + length c.in-Some-line.line.now < length c.args.text.bytes.now) × (c.loop-line.first + c.in-Some-field_line.value ≤ c.loop-line.first + length c.in-Some-line.line.now)
inside c = row-value _ _ _ _ _ _ c.loop-line.invariant c.in-Some-line.line.now _ (rw c.in-Some-line.is at c.in-Some.ensures.steps) _ c.field_line.ensures _ _ c.in-Some-field_line.is

room : (c : In-Some-field_line) → c.loop-line.at + 3 ≤ length c.loop-line.fields
room c = room_of_rows _ _ _ _ _ _ c.loop-line.invariant c.in-Some-line.line.now _ (rw c.in-Some-line.is at c.in-Some.ensures.steps) _ c.field_line.ensures _ _ c.in-Some-field_line.is

pub overflow_add-past : goal.overflow_add-past
overflow_add-past c = omega (arith, inside (goal.at.overflow_add-past c).In-Some-field_line, c.args.text.short)

pub overflow_add-first : goal.overflow_add-first
overflow_add-first c = omega (arith, inside (goal.at.overflow_add-first c).In-Some-field_line, c.args.text.short)

pub put_row-requires : goal.put_row-requires
put_row-requires c =
    let inside = inside (goal.at.put_row-requires c).In-Some-field_line in
    record {
      at_in_bounds = room (goal.at.put_row-requires c).In-Some-field_line;
      first_bound = (omega (arith, inside, c.args.text.short), omega (arith, inside, c.args.text.short));
    }

pub overflow_add-first-in-loop-line : goal.overflow_add-first-in-loop-line
overflow_add-first-in-loop-line c = omega (arith, inside (goal.at.overflow_add-first-in-loop-line c).In-Some-field_line, c.args.text.short)

pub loop-line-preserved : goal.loop-line-preserved
loop-line-preserved c = rows_go_on _ _ _ _ _ _ c.loop-line.invariant c.in-Some-line.line.now _ (rw c.in-Some-line.is at c.in-Some.ensures.steps) _ c.field_line.ensures _ _ c.in-Some-field_line.is _ c.put_row.ensures

pub returns : goal.returns
returns c = rows_end _ _ _ _ _ _ c.loop-line.invariant c.in-None.ensures.steps.0
