-- `verdicts::verdicts_call::judge_values` meets its contract. The loop's invariant is `WrittenSoFar`; the laws are those of specs/VerdictsLaws.antt.
use native.Mathlib.Omega.{arith}
use Rattle.verdicts.specs.VerdictsLaws.{written-record, written-goes_on, written-ends}
use Rattle.verdicts.proofs.verdicts_call.judge_values.Goals as goal

-- let verdict = verdict_at(dictionary, fields, message, strict, index, number);
pub verdict_at-verdict-requires : goal.verdict_at-verdict-requires
verdict_at-verdict-requires c = record {
  index_bound = omega (arith, c.loop-index-test.true, c.len-index-end.ensures);
  number_value = written-record _ _ _ _ _ _ _ c.loop-index.invariant c.requires.holds (omega (arith, c.loop-index-test.true, c.len-index-end.ensures));
}

pub loop-index-preserved : goal.loop-index-preserved
loop-index-preserved c = written-goes_on _ _ _ _ _ _ _ c.loop-index.invariant _ _ (omega (arith, c.loop-index-test.true, c.len-index-end.ensures)) c.verdict_at-verdict.ensures c.from.ensures.outcome

pub returns : goal.returns
returns c = record { memory = written-ends _ _ _ _ _ _ _ c.loop-index.invariant c.requires.fields_in_bounds (omega (arith, c.loop-index-test.false, c.len-index-end.ensures)) }
