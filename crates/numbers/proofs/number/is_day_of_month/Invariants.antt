-- The bytes so far are digits, and the day is the number that they make.
use Rattle.std.proofs.Common.{◌≡◌, ◌≤◌, true, take}
use Rattle.ascii.specs.Bytes.{every}
use Rattle.ascii.specs.Digits.{is_digit, decimal}
use Rattle.numbers.proofs.number.is_day_of_month.Given as goal

abbrev pub invariant-loop-byte : goal.invariant-loop-byte
invariant-loop-byte l = record {
  passed : every is_digit (take l.byte-index l.value) ≡ true;
  makes : l.day ≡ decimal (take l.byte-index l.value);
  small : l.day ≤ 31;
}
