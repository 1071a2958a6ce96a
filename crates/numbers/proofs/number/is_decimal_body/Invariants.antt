-- The bytes so far are digits and points, so many of each.
use Rattle.std.proofs.Common.{◌≡◌, ◌≤◌, true, take}
use Rattle.ascii.specs.Bytes.{every, how_many}
use Rattle.ascii.specs.Digits.{is_digit}
use Rattle.numbers.specs.Number.{is_point, is_digit_or_point}
use Rattle.numbers.proofs.number.is_decimal_body.Given as goal

abbrev pub invariant-loop-byte : goal.invariant-loop-byte
invariant-loop-byte l = record {
  passed : every is_digit_or_point (take l.byte-index l.body) ≡ true;
  digits : l.digits ≡ how_many is_digit (take l.byte-index l.body);
  points : l.points ≡ how_many is_point (take l.byte-index l.body);
  few : (l.digits ≤ l.byte-index) × (l.points ≤ l.byte-index);
}
