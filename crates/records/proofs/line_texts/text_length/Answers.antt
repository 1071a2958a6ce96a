-- `records::line_texts::text_length` meets its contract. The loop's invariant is `LengthSoFar`; the laws are those of specs/LineLengthLaws.antt.
use Rattle.std.proofs.Common.{◌≡◌, ◌+◌, ◌*◌, arith}
use Rattle.records.specs.LineLengthLaws.{length-begins, length-few, length-goes_on, length-ends}
use Rattle.records.proofs.line_texts.text_length.Goals as goal

-- for number in 0..lines {
pub loop-number-init : goal.loop-number-init
loop-number-init c = length-begins c.args.words.now c.args.lines

pub overflow_add-total : goal.overflow_add-total
overflow_add-total c =
    omega (
      arith,
      length-few c.args.words.now (4 + 10 * c.loop-number.number) omega (arith, c.requires, c.loop-number-test.true) _ (rw c.record_at.ensures at c.record_length-total.ensures.length),
      c.loop-number.invariant.few,
      c.loop-number.invariant.within,
      c.requires,
    )

-- for number in 0..lines {
pub loop-number-preserved : goal.loop-number-preserved
loop-number-preserved c =
    let len = rw c.record_at.ensures at c.record_length-total.ensures.length in
    let few = length-few c.args.words.now (4 + 10 * c.loop-number.number) omega (arith, c.requires, c.loop-number-test.true) _ len in
    let next : 4 + 10 * (c.loop-number.number + 1) ≡ 4 + 10 * c.loop-number.number + 10 = omega arith in
    rw next (length-goes_on _ _ _ _ _ c.loop-number.invariant c.loop-number-test.true _ len few)
