-- `lines::line_parts::has_no_leading_zero` meets its contract, by specs/LinePartsLaws.antt.
use Rattle.std.proofs.Common.{rules, arith, ◌≡◌, get_or, eqb, sym, false, ◌∙◌}
use borrow.Author.Tests.{tests}
use Rattle.lines.specs.LinePartsLaws.{no_leading_zero-short, no_leading_zero-long}
use Rattle.lines.proofs.line_parts.has_no_leading_zero.Goals as goal
use Rattle.lines.proofs.line_parts.has_no_leading_zero.Goals.{in-48, in_default, in_default-2}

pub returns : goal.returns
returns c =
    elim c.if-matches.branch [
      | in-48 w ↦ let zero : get_or c.args.bytes.now 0 0 ≡ 48 = search rules in sym (no_leading_zero-long _ w.in-48.len_at_least ∙ rw (w.matches-is, zero))
      | in_default w ↦ sym (no_leading_zero-short _ (omega (arith, w.in_default.len_below)) ∙ rw w.matches-is)
      | in_default-2 w ↦ let other : eqb (get_or c.args.bytes.now 0 0) 48 ≡ false = search (rules, tests) in sym (no_leading_zero-long _ w.in_default.len_at_least ∙ rw (w.matches-is, other))
    ]
