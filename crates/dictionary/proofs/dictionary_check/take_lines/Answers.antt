-- `dictionary::dictionary_check::take_lines` meets its contract. The loop's invariant is `TakesSoFar` and `Counted`; the laws are those of specs/DictionaryCheckLaws.antt.
use Rattle.std.proofs.Common.{◌∙◌, sym, arith, ◌+◌, ◌-◌, drop}
use Rattle.dictionary.specs.DictionaryCheckLaws.{takes-begins, takes-ends, takes-faulty, takes-goes_on, counted-begins, counted-goes_on, counted-few, is_some-then_some}
use Rattle.dictionary.specs.LineRunsLaws.{run_found}
use Rattle.dictionary.proofs.dictionary_check.take_lines.Goals as goal

-- while done < lines {
pub loop-done-init : goal.loop-done-init
loop-done-init c =
    let none = c.default-read.ensures in
    rw (none.0, none.1.0, none.1.1.0, none.1.1.1) (takes-begins _ _, counted-begins (drop 4 c.args.words.now))

-- standing = next_standing(standing, &mut counts, line_at(words, at))?;
pub returns-in_err-standing-clause-accepted : goal.returns-in_err-standing-clause-accepted
returns-in_err-standing-clause-accepted c =
    rw c.from_residual.ensures
    (sym (takes-faulty _ _ _ _ _ _ c.loop-done.invariant.0 c.loop-done-test.true _ c.line_at.ensures _ (c.next_standing.ensures.next _) c.in_err-standing.was))

-- read.tags += count_one(kind, RecordKind::Def as u32) + run.tags;
pub overflow_add-read-in-loop-done-3 : goal.overflow_add-read-in-loop-done-3
overflow_add-read-in-loop-done-3 c =
    let run = run_found c.in_ok-standing.standing (c.args.lines - c.loop-done.done - 1) (drop (c.loop-done.at + 10) c.args.words.now) _ _ c.unwrap_or_default-run.ensures c.run_after-run.ensures.run c.run_after-run.ensures.few in
    omega (arith, counted-few _ _ _ _ _ c.loop-done.invariant.1, c.count_one.ensures.few, run.1, c.loop-done-test.true, c.requires)

pub overflow_add-read-in-loop-done-4 : goal.overflow_add-read-in-loop-done-4
overflow_add-read-in-loop-done-4 c = omega (arith, counted-few _ _ _ _ _ c.loop-done.invariant.1, c.count_one-in-loop-done.ensures.few, c.loop-done-test.true, c.requires)

pub overflow_add-read-in-loop-done-5 : goal.overflow_add-read-in-loop-done-5
overflow_add-read-in-loop-done-5 c = omega (arith, counted-few _ _ _ _ _ c.loop-done.invariant.1, c.count_one-in-loop-done-2.ensures.few, c.loop-done-test.true, c.requires)

pub loop-done-preserved : goal.loop-done-preserved
loop-done-preserved c =
    let run = run_found c.in_ok-standing.standing (c.args.lines - c.loop-done.done - 1) (drop (c.loop-done.at + 10) c.args.words.now) _ _ c.unwrap_or_default-run.ensures c.run_after-run.ensures.run c.run_after-run.ensures.few in (
      takes-goes_on _ _ _ _ _ _ c.loop-done.invariant.0 c.loop-done-test.true _ c.line_at.ensures _ (c.next_standing.ensures.next _) _ c.in_ok-standing.was _ (c.next_standing.ensures.counts _) _ _ _ run.0 run.1.0 run.1.1.0
          (omega (arith, c.loop-done.invariant.0.place, c.requires)),
      counted-goes_on c.args.words.now _ _ c.loop-done.invariant.0.place c.unwrap_or_default-run.result.lines _ _ _ _ c.loop-done.invariant.1 run.0.counted _ _ _ c.count_one.ensures.one c.count_one-in-loop-done.ensures.one c.count_one-in-loop-done-2.ensures.one,
    )

-- may_end(standing).then_some(read)
pub returns-clause-accepted : goal.returns-clause-accepted
returns-clause-accepted c =
    rw c.then_some.ensures (is_some-then_some _ _ ∙ c.may_end.ensures c.loop-done.counts ∙ sym (takes-ends _ _ _ _ _ _ c.loop-done.invariant.0 c.loop-done-test.false))
