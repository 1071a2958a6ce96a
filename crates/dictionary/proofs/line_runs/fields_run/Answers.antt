-- `dictionary::line_runs::fields_run` meets its contract. The loop's invariant is `FieldsSoFar`; the laws are those of specs/LineRunsLaws.antt.
use Prim.Native.Nat.{◌+◌, ◌-◌}
use native.Mathlib.Omega.{arith}
use Rattle.std.proofs.Common.{◌≡◌, ◌∙◌, ◌*◌}
use Rattle.dictionary.specs.LineRunsLaws.{record_turns, given-halves, given-pair, fields-begin, field_goes_on, fields-end, product_few}
use Rattle.dictionary.proofs.line_runs.fields_run.Goals as goal

-- for record in words[first..first + 10 * count].chunks_exact(RECORD) {
pub loop-record-init : goal.loop-record-init
loop-record-init c =
    let start : c.args.first + 10 * 0 ≡ c.args.first = omega arith in
    let whole : c.args.first + 10 * c.args.count - c.args.first ≡ 10 * c.args.count = omega arith in (
      rw start (fields-begin _ _ _),
      (
        rw c.into_iter-record-iterator.ensures.into_iter_gives (c.chunks_exact-record-items.ensures.rest ∙ rw whole),
        rw c.into_iter-record-iterator.ensures.into_iter_gives c.chunks_exact-record-items.ensures.size,
      ),
    )

pub loop-record-preserved : goal.loop-record-preserved
loop-record-preserved c =
    let turn = record_turns c.args.count c.args.words.now c.args.first c.loop-record.lines _ c.in-Some.record.now _ (omega arith) c.loop-record.invariant.0.within
    c.loop-record.invariant.1.0 c.in-Some.ensures.steps.1.0 (c.in-Some.ensures.steps.1.1 ∙ c.loop-record.invariant.1.1) in
    let place : c.args.first + 10 * (c.loop-record.lines + 1) ≡ c.args.first + 10 * c.loop-record.lines + 10 = omega arith in
    let halves = given-halves c.args.words.now (c.args.first + 10 * c.loop-record.lines) c.in-Some.record.now turn.is in
    let zero : c.args.first + 10 * c.loop-record.lines + 0 ≡ c.args.first + 10 * c.loop-record.lines = omega arith in
    let pair = given-pair c.args.words.now (c.args.first + 10 * c.loop-record.lines) c.in-Some.record.now turn.is in (
      rw place
          (field_goes_on _ _ _ _ _ _ _ _ _ _ c.loop-record.invariant.0 turn.inside (omega (arith, turn.inside)) _ _ _
          (c.pair_at-pair4.ensures.pair ∙ pair 4 (omega arith)) (c.pair_at-pair6.ensures.pair ∙ pair 6 (omega arith)) (c.pair_at-pair8.ensures.pair ∙ pair 8 (omega arith))
          _ _
          (rw zero at (halves 0 _ _ (omega arith) c.pair_at-head.ensures.halves)) (halves 2 _ _ (omega arith) c.pair_at-flags.ensures.halves) c.if-head.false),
      (turn.further, c.in-Some.ensures.steps.0 ∙ c.loop-record.invariant.1.1),
    )

-- fn fields_run(count: usize, words: &[u32], first: usize) -> Option<Run>
pub returns : goal.returns
returns c = record {
  run = fields-end _ _ _ _ _ _ _ _ _ _ c.loop-record.invariant.0 _ c.if-flags-pair4-ne0.false c.digits_within-digits.ensures.digits;
  few = (c.loop-record.invariant.0.within, (omega (arith, product_few c.loop-record.lines (9 + c.digits_within-digits.result) 19 (omega (arith, c.digits_within-digits.ensures.few)), c.loop-record.invariant.0.within, c.requires), omega arith));
}
