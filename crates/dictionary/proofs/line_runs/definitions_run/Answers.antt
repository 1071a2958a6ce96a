-- `dictionary::line_runs::definitions_run` meets its contract. The loop's invariant is `DefinitionsSoFar`; the laws are those of specs/LineRunsLaws.antt.
use Rattle.std.proofs.Common.{◌≡◌, ◌∙◌, ◌+◌, ◌-◌, ◌*◌, arith}
use Rattle.dictionary.specs.LineRunsLaws.{record_turns, given-halves, given-pair, definitions-begin, one-byte_goes_on, short-value_goes_on, def_goes_on, definitions-end, definitions-few}
use Rattle.dictionary.proofs.line_runs.definitions_run.Goals as goal
use Rattle.dictionary.proofs.line_runs.definitions_run.Goals.{then-head-eq-ONE_BYTE+else-not-is_one_byte, else-head-eq-ONE_BYTE+then-head+else-next-ge34, else-head-eq-ONE_BYTE+else-head+else-not-is_short_value}

-- for record in words[first..first + 10 * count].chunks_exact(RECORD) {
pub loop-record-init : goal.loop-record-init
loop-record-init c =
    let start : c.args.first + 10 * 0 ≡ c.args.first = omega arith in
    let whole : c.args.first + 10 * c.args.count - c.args.first ≡ 10 * c.args.count = omega arith in (
      rw start (definitions-begin _ _ _),
      (
        rw c.into_iter-record-iterator.ensures.into_iter_gives (c.chunks_exact-record-items.ensures.rest ∙ rw whole),
        rw c.into_iter-record-iterator.ensures.into_iter_gives c.chunks_exact-record-items.ensures.size,
      ),
    )

pub loop-record-preserved : goal.loop-record-preserved
loop-record-preserved c =
    let turn = record_turns c.args.count c.args.words.now c.args.first c.loop-record.lines _ c.in-Some.record.now _ (omega arith) c.loop-record.invariant.0.within
    c.loop-record.invariant.1.0 c.in-Some.ensures.steps.1.0 (c.in-Some.ensures.steps.1.1 ∙ c.loop-record.invariant.1.1) in
    let place : c.args.first + 10 * (c.loop-record.lines + 1) ≡ c.args.first + 10 * c.loop-record.lines + 10 = omega arith in
    let zero : c.args.first + 10 * c.loop-record.lines + 0 ≡ c.args.first + 10 * c.loop-record.lines = omega arith in
    let halves = given-halves c.args.words.now (c.args.first + 10 * c.loop-record.lines) c.in-Some.record.now turn.is in
    let pair = given-pair c.args.words.now (c.args.first + 10 * c.loop-record.lines) c.in-Some.record.now turn.is in (
      rw place
          (elim c.if-head-eq-ONE_BYTE.branch [
            | then-head-eq-ONE_BYTE+else-not-is_one_byte w ↦
                one-byte_goes_on _ _ _ _ _ _ _ _ _ _ _ c.loop-record.invariant.0 turn.inside (omega (arith, turn.inside)) _ _ _
                (c.pair_at-pair4.ensures.pair ∙ pair 4 (omega arith)) (c.pair_at-pair6.ensures.pair ∙ pair 6 (omega arith)) (c.pair_at-pair8.ensures.pair ∙ pair 8 (omega arith))
                _ _ (rw zero at (halves 0 _ _ (omega arith) c.pair_at-head.ensures.halves)) (halves 2 _ _ (omega arith) c.pair_at-next.ensures.halves) _ _ _
                w.if-head-eq-ONE_BYTE.true (w.is_one_byte.ensures w.if-not-is_one_byte.false) w.bytes-is w.tags-is w.names-is
            | else-head-eq-ONE_BYTE+then-head+else-next-ge34 w ↦
                def_goes_on _ _ _ _ _ _ _ _ _ _ _ c.loop-record.invariant.0 turn.inside (omega (arith, turn.inside)) _ _ _
                (c.pair_at-pair4.ensures.pair ∙ pair 4 (omega arith)) (c.pair_at-pair6.ensures.pair ∙ pair 6 (omega arith)) (c.pair_at-pair8.ensures.pair ∙ pair 8 (omega arith))
                _ _ (rw zero at (halves 0 _ _ (omega arith) c.pair_at-head.ensures.halves)) (halves 2 _ _ (omega arith) c.pair_at-next.ensures.halves) _ _ _
                w.if-head.true w.if-next-ge34.false _ w.type_length-bytes.ensures.length w.type_length-bytes.ensures.few w.bytes-is w.tags-is w.names-is
            | else-head-eq-ONE_BYTE+else-head+else-not-is_short_value w ↦
                short-value_goes_on _ _ _ _ _ _ _ _ _ _ _ c.loop-record.invariant.0 turn.inside (omega (arith, turn.inside)) _ _ _
                (c.pair_at-pair4.ensures.pair ∙ pair 4 (omega arith)) (c.pair_at-pair6.ensures.pair ∙ pair 6 (omega arith)) (c.pair_at-pair8.ensures.pair ∙ pair 8 (omega arith))
                _ _ (rw zero at (halves 0 _ _ (omega arith) c.pair_at-head.ensures.halves)) (halves 2 _ _ (omega arith) c.pair_at-next.ensures.halves) _ _ _
                (w.is_short_value.ensures w.if-not-is_short_value.false) w.bytes-is w.tags-is w.names-is
          ]),
      (turn.further, c.in-Some.ensures.steps.0 ∙ c.loop-record.invariant.1.1),
    )

-- fn definitions_run(count: usize, words: &[u32], first: usize) -> Option<Run>
pub returns : goal.returns
returns c = record {
  run = definitions-end _ _ _ _ _ _ _ _ _ _ _ c.loop-record.invariant.0 _ c.if-pair4-pair6-ne0.false c.digits_within-digits.ensures.digits;
  few =
      (c.loop-record.invariant.0.within, ((definitions-few _ _ _ _ _ _ _ _ _ _ _ c.loop-record.invariant.0 _ c.digits_within-digits.ensures.few).0, c.loop-record.invariant.0.few_tags_lem));
}
