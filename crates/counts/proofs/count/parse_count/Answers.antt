-- `counts::count::parse_count` meets its contract: the digits so far decide, or all of them do (specs/CountLaws.antt).
use Rattle.std.proofs.Common.{◌≡◌, ◌∙◌, ◌+◌, ◌^◌, ◌≤◌, take, arith, sym, take_all, true}
use Rattle.std.proofs.lemmas.Grind.{common_steps}
use Rattle.ascii.specs.Bytes.{every}
use Rattle.ascii.specs.Digits.{is_digit, decimal}
use Rattle.counts.specs.CountLaws.{count_of-empty, count_of-begins, count_of-whole}
use Rattle.counts.proofs.count.parse_count.Goals as goal

pub returns-then-is_empty : goal.returns-then-is_empty
returns-then-is_empty c = record { outcome = sym (count_of-empty _ (grind arith)) }

pub returns-in_err-checked_mul : goal.returns-in_err-checked_mul
returns-in_err-checked_mul c =
    let large : 2 ^ 64 ≤ decimal (take (c.loop-byte.byte-index + 1) c.args.value.now) = grind (arith, common_steps, c.in_err-checked_mul.ensures) in
    record { outcome = c.from_residual.ensures ∙ sym (count_of-begins _ _ large) }

pub returns-in_err-count : goal.returns-in_err-count
returns-in_err-count c =
    let large : 2 ^ 64 ≤ decimal (take (c.loop-byte.byte-index + 1) c.args.value.now) = grind (arith, common_steps, c.in_err-count.ensures) in
    record { outcome = c.from_residual-in_err-count.ensures ∙ sym (count_of-begins _ _ large) }

pub returns : goal.returns
returns c =
    let whole : take c.loop-byte.byte-index c.args.value.now ≡ c.args.value.now = take_all _ _ (omega arith) in
    let digits : every is_digit c.args.value.now ≡ true = rw whole at c.loop-byte.invariant.passed in
    let makes : c.loop-byte.count ≡ decimal c.args.value.now = rw whole at c.loop-byte.invariant.makes in
    record { outcome = rw makes (sym (count_of-whole _ (grind arith) digits (omega arith))) }
