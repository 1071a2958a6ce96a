-- `definitions::definitions::is_among` meets its contract. The laws are those of specs/AdmittedRecords.antt.
use Rattle.std.proofs.Common.{sym, ◌∙◌, arith}
use Rattle.definitions.specs.AdmittedRecords.{among-begins, among-ends, among-stops, among-found, among-goes_on}
use Rattle.definitions.proofs.definitions.is_among.Goals as goal

pub loop-record-init : goal.loop-record-init
loop-record-init c = among-begins c.args.value c.args.records.now

pub returns-then-not-is_value : goal.returns-then-not-is_value
returns-then-not-is_value c = sym (among-stops c.args.value c.args.records.now _ c.loop-record.invariant (omega (arith, c.loop-record-test.true)) (sym c.is_value.ensures ∙ c.if-not-is_value.true))

pub returns-then-is_same_value : goal.returns-then-is_same_value
returns-then-is_same_value c =
    sym (among-found c.args.value c.args.records.now _ c.loop-record.invariant (omega (arith, c.loop-record-test.true)) (sym c.is_value.ensures ∙ c.if-not-is_value.false) (sym c.is_same_value.ensures ∙ c.if-is_same_value.true))

pub loop-record-preserved : goal.loop-record-preserved
loop-record-preserved c =
    among-goes_on c.args.value c.args.records.now _ c.loop-record.invariant (omega (arith, c.loop-record-test.true)) (sym c.is_value.ensures ∙ c.if-not-is_value.false) (sym c.is_same_value.ensures ∙ c.if-is_same_value.false)

pub returns : goal.returns
returns c = sym (among-ends c.args.value c.args.records.now _ c.loop-record.invariant (omega (arith, c.loop-record-test.false)))
