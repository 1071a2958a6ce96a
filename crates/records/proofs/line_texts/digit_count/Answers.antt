-- `records::line_texts::digit_count` meets its contract: a digit for each power of ten that is reached (specs/NumeralLaws.antt).
use Rattle.std.proofs.Common.{◌∙◌, ap, ◌+◌}
use Rattle.records.specs.NumeralLaws.{digit_count-powers}
use Rattle.records.proofs.line_texts.digit_count.Goals as goal

-- pub fn digit_count(n: u32) -> usize
pub returns-clause-count : goal.returns-clause-count
returns-clause-count c = ap (λ more. 1 + more) c.count_reached.ensures ∙ digit_count-powers c.args.n c.ranges.n.fits
