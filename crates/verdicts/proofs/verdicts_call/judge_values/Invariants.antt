-- `verdicts::verdicts_call::judge_values` meets its contract. The loop's invariant is `WrittenSoFar`; the laws are those of specs/VerdictsLaws.antt.
use Rattle.verdicts.specs.VerdictsLaws.{WrittenSoFar}
use Rattle.verdicts.proofs.verdicts_call.judge_values.Given as goal

abbrev pub invariant-loop-index : goal.invariant-loop-index
invariant-loop-index l = WrittenSoFar l.dictionary.words.now l.table.fields.now l.table.message.now l.strict l.initial.verdicts l.index l.verdicts
