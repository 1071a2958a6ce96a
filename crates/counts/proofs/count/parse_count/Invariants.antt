-- The bytes so far are digits, and the count is the number that they make.
use Rattle.std.proofs.Common.{◌≡◌, ◌<◌, ◌^◌, true, take}
use Rattle.ascii.specs.Bytes.{every}
use Rattle.ascii.specs.Digits.{is_digit, decimal}
use Rattle.counts.proofs.count.parse_count.Given as goal

abbrev pub invariant-loop-byte : goal.invariant-loop-byte
invariant-loop-byte l = record {
  passed : every is_digit (take l.byte-index l.value) ≡ true;
  fits : l.count < 2 ^ 64;
  makes : l.count ≡ decimal (take l.byte-index l.value);
}
