-- `lines::line_parts::parse_number` meets its contract: a number of 32 bits is a count without leading zeros and below 2^32 (specs/LinePartsLaws.antt).
use Rattle.std.proofs.Common.{rules, sym, ap, ◌∙◌, ◌≡◌, true, false}
use Rattle.lines.specs.LineParts.{no_leading_zero}
use Rattle.lines.specs.LinePartsLaws.{number_of_leading_zero, number_from, number_of_count, word_of_count}
use Rattle.lines.proofs.line_parts.parse_number.Goals as goal

-- return None;
pub returns-then-not-has_no_leading_zero : goal.returns-then-not-has_no_leading_zero
returns-then-not-has_no_leading_zero c =
    let zero : no_leading_zero c.args.bytes.now ≡ false = search rules in
    sym (number_of_leading_zero _ zero)

pub returns-in_err-parse_count : goal.returns-in_err-parse_count
returns-in_err-parse_count c =
    let good : no_leading_zero c.args.bytes.now ≡ true = search rules in
    c.from_residual.ensures ∙ sym (number_of_count _ good ∙ ap number_from (sym c.parse_count.ensures.outcome ∙ c.in_err-parse_count.was))

pub returns : goal.returns
returns c =
    let good : no_leading_zero c.args.bytes.now ≡ true = search rules in
    c.ok.ensures.value ∙ word_of_count _ _ c.try_from.ensures ∙ sym (number_of_count _ good ∙ ap number_from (sym c.parse_count.ensures.outcome ∙ c.in_ok-parse_count.was))
