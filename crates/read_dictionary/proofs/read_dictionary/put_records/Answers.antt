-- `read_dictionary::read_dictionary::put_records` meets its contract. The loop's invariant is `RecordsSoFar`; the laws are those of specs/ReadDictionaryLaws.antt.
use Rattle.std.proofs.Common.{arith}
use Rattle.read_dictionary.specs.ReadDictionaryLaws.{records-begin, records-end, records-break, records-room, records-turn}
use Rattle.read_dictionary.proofs.read_dictionary.put_records.Goals as goal

pub loop-line-init : goal.loop-line-init
loop-line-init c = rw (c.into_iter-line-iterator.ensures.into_iter_gives, c.new-line-items.ensures) (records-begin _ _ c.requires)

pub returns-in_default : goal.returns-in_default
returns-in_default c = records-break _ _ _ _ _ c.loop-line.invariant (rw c.in_default.is at c.in-Some.ensures.steps).0

-- put_record(words, at, line_of(line));
pub put_record-requires : goal.put_record-requires
put_record-requires c = records-room _ _ _ _ _ c.loop-line.invariant _ _ (rw c.in-Some-line.is at c.in-Some.ensures.steps) _ c.line_of.ensures

-- at += 10;
pub overflow_add-at : goal.overflow_add-at
overflow_add-at c = omega (arith, records-room _ _ _ _ _ c.loop-line.invariant _ _ (rw c.in-Some-line.is at c.in-Some.ensures.steps) _ c.line_of.ensures)

pub loop-line-preserved : goal.loop-line-preserved
loop-line-preserved c = records-turn _ _ _ _ _ c.loop-line.invariant _ _ (rw c.in-Some-line.is at c.in-Some.ensures.steps) _ c.line_of.ensures _ c.put_record.ensures

pub returns : goal.returns
returns c = records-end _ _ _ _ _ c.loop-line.invariant c.in-None.ensures.steps.0
