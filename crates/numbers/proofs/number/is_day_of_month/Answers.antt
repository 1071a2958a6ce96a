-- `numbers::number::is_day_of_month` meets its contract: the digits so far decide, or all of them do (specs/NumberLaws.antt).
use Rattle.std.proofs.Common.{◌≡◌, ◌+◌, ◌<◌, take, arith, sym, take_all, true}
use Rattle.std.proofs.lemmas.Grind.{common_steps}
use Rattle.ascii.specs.Bytes.{every}
use Rattle.ascii.specs.Digits.{is_digit, decimal}
use Rattle.numbers.specs.NumberLaws.{is_day_of_month-begins, is_day_of_month-whole}
use Rattle.numbers.proofs.number.is_day_of_month.Goals as goal

pub returns-then-day-gt31 : goal.returns-then-day-gt31
returns-then-day-gt31 c =
    let large : 31 < decimal (take (c.loop-byte.byte-index + 1) c.args.value.now) = grind (arith, common_steps) in
    record { outcome = sym (is_day_of_month-begins _ _ large) }

pub returns : goal.returns
returns c =
    let whole : take c.loop-byte.byte-index c.args.value.now ≡ c.args.value.now = take_all _ _ (omega arith) in
    let digits : every is_digit c.args.value.now ≡ true = rw whole at c.loop-byte.invariant.passed in
    let makes : c.loop-byte.day ≡ decimal c.args.value.now = rw whole at c.loop-byte.invariant.makes in
    record { outcome = rw makes (sym (is_day_of_month-whole _ digits (omega arith))) }
