-- `layout_check::layout_check::is_ahead` meets its contract, by layouts, specs/LayoutCheckLaws.antt.
use mathlib.Core.Path.{sym, refl}
use Rattle.layouts.specs.LayoutCheckLaws.{ahead-fails, ahead-goes_on, ahead-ends}
use Rattle.layout_check.proofs.layout_check.is_ahead.Goals as goal

pub returns-then-place-passed : goal.returns-then-place-passed
returns-then-place-passed c = sym (ahead-fails _ _ _ _ c.loop-place.invariant c.loop-place-test.true _ refl c.if-place-passed.true)

pub loop-place-preserved : goal.loop-place-preserved
loop-place-preserved c = ahead-goes_on _ _ _ _ c.loop-place.invariant c.loop-place-test.true _ refl c.if-place-passed.false

pub returns : goal.returns
returns c = sym (ahead-ends _ _ _ _ c.loop-place.invariant c.loop-place-test.false)
