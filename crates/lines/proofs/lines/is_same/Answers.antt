-- `lines::lines::is_same` meets its contract, by specs/LinesLaws.antt.
use mathlib.Core.Path.{sym, ◌∙◌}
use Rattle.lines.specs.LinesLaws.{is_same-other_length, is_same-length}
use Rattle.lines.proofs.lines.is_same.Goals as goal

-- return false;
pub returns-then-name-bytes : goal.returns-then-name-bytes
returns-then-name-bytes c = sym (is_same-other_length _ _ c.if-name-bytes.true)

-- pub fn is_same(bytes: &[u8], name: &[u8]) -> bool
pub returns : goal.returns
returns c = c.starts_with.ensures ∙ sym (is_same-length _ _ c.if-name-bytes.false)
