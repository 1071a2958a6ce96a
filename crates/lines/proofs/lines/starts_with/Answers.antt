-- `lines::lines::starts_with` meets its contract: the key and the bytes agree up to the index (specs/LinesLaws.antt).
use mathlib.Core.Path.{refl, sym, ◌∙◌}
use native.Mathlib.Omega.{arith}
use Rattle.lines.specs.LinesLaws.{starts_with_end, starts_with_short, starts_with_other, starts_with_step}
use Rattle.lines.proofs.lines.starts_with.Goals as goal

-- while index < key.len() {
pub loop-index-init : goal.loop-index-init
loop-index-init c = (omega arith, refl)

-- return false;
pub returns-then-bytes-index : goal.returns-then-bytes-index
returns-then-bytes-index c = sym (c.loop-index.invariant.1 ∙ starts_with_short _ _ _ c.loop-index-test.true c.if-bytes-index.true)

-- return false;
pub returns-then-key-index : goal.returns-then-key-index
returns-then-key-index c = sym (c.loop-index.invariant.1 ∙ starts_with_other _ _ _ c.loop-index-test.true c.if-bytes-index.false c.if-key-index.true)

pub loop-index-preserved : goal.loop-index-preserved
loop-index-preserved c = (omega arith, c.loop-index.invariant.1 ∙ starts_with_step _ _ _ c.loop-index-test.true c.if-bytes-index.false c.if-key-index.false)

-- pub fn starts_with(bytes: &[u8], key: &[u8]) -> bool
pub returns : goal.returns
returns c = sym (c.loop-index.invariant.1 ∙ starts_with_end _ _ _ c.loop-index-test.false)
