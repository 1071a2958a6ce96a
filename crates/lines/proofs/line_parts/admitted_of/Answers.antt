-- `lines::line_parts::admitted_of` meets its contract, a word at a time.
use Rattle.lines.proofs.line_parts.admitted_of.Goals as goal

-- fn admitted_of(bytes: &[u8]) -> Admitted
pub returns : goal.returns
returns c = cc
