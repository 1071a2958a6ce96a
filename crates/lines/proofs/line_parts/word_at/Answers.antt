-- `lines::line_parts::word_at` meets its contract: the sum of four bytes.
use Rattle.std.proofs.Common.{◌∙◌}
use Rattle.lines.specs.LineParts.{word_at}
use Rattle.lines.proofs.line_parts.word_at.Goals as goal

pub returns : goal.returns
unfolding word_at
returns c = c.from_be_bytes.ensures ∙ rw (c.byte_at.ensures, c.byte_at-2.ensures, c.byte_at-3.ensures, c.byte_at-4.ensures)
