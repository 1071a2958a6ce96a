-- `list_lines::list_lines::put_number` meets its contract: what the library prints is the numeral (specs/PrintedNumbers.antt).
use Rattle.std.proofs.Common.{◌∙◌}
use Rattle.list_lines.specs.PrintedNumbers.{decimal-numeral}
use Rattle.list_lines.proofs.list_lines.put_number.Goals as goal

-- fn put_number(out: &mut [u8], at: usize, number: u64) -> usize
pub returns : goal.returns
returns c = rw (c.as_bytes.ensures.value ∙ (c.format.ensures.text ∙ decimal-numeral c.args.number c.ranges.number.fits)) at c.put_text.ensures
