-- `lines::line_parts::parse_flag` meets its contract, by specs/LinePartsLaws.antt.
use Rattle.std.proofs.Common.{rules, arith, ◌≡◌, get_or, eqb, length, sym, false, ◌∙◌}
use borrow.Author.Tests.{tests}
use Rattle.lines.specs.LinePartsLaws.{flag_of-other_length, flag_of-one_byte}
use Rattle.lines.proofs.line_parts.parse_flag.Goals as goal

pub returns-in-49 : goal.returns-in-49
returns-in-49 c =
    let one : length c.args.bytes.now ≡ 1 = omega (arith, c.in-49.len_at_least, c.in-49.len_below) in
    let byte : get_or c.args.bytes.now 0 0 ≡ 49 = search rules in
    sym (flag_of-one_byte _ one ∙ rw byte)

pub returns-in-48 : goal.returns-in-48
returns-in-48 c =
    let one : length c.args.bytes.now ≡ 1 = omega (arith, c.in-48.len_at_least, c.in-48.len_below) in
    let byte : get_or c.args.bytes.now 0 0 ≡ 48 = search rules in
    sym (flag_of-one_byte _ one ∙ rw byte)

pub returns-in_default : goal.returns-in_default
returns-in_default c = sym (flag_of-other_length _ (λ same. absurd (omega (arith, same, c.in_default.len_below))))

pub returns-in_default-2 : goal.returns-in_default-2
returns-in_default-2 c =
    let one : length c.args.bytes.now ≡ 1 = omega (arith, c.in_default.len_at_least, c.in_default.len_below) in
    let no_one : eqb (get_or c.args.bytes.now 0 0) 49 ≡ false = search (rules, tests) in
    let no_zero : eqb (get_or c.args.bytes.now 0 0) 48 ≡ false = search (rules, tests) in
    sym (flag_of-one_byte _ one ∙ rw (no_one, no_zero))

pub returns-in_default-3 : goal.returns-in_default-3
returns-in_default-3 c = sym (flag_of-other_length _ (λ same. absurd (omega (arith, same, c.in_default.len_at_least))))
