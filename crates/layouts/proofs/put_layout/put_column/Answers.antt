-- `layouts::put_layout::put_column` meets its contract. The loop's invariant is `ColumnSoFar`; the laws are those of
-- specs/GatheredLayoutLaws.antt.
use native.Mathlib.Omega.{arith}
use Rattle.layouts.specs.GatheredLayoutLaws.{column-begins, column-goes_on, column-ends}
use Rattle.std.proofs.Common.{◌≡◌, ◌+◌, ◌*◌}
use Rattle.layouts.proofs.put_layout.put_column.Goals as goal

-- for index in 0..count {
pub loop-index-init : goal.loop-index-init
loop-index-init c = let start : c.args.field + 0 ≡ c.args.field = omega arith in rw start (column-begins _ _ _ _ _)

pub loop-index-preserved : goal.loop-index-preserved
loop-index-preserved c =
    let next : c.args.field + 6 * (c.loop-index.index + 1) ≡ c.args.field + 6 * c.loop-index.index + 6 = omega arith in
    rw next (column-goes_on _ _ _ _ _ _ _ _ c.loop-index.invariant c.loop-index-test.true)

pub returns : goal.returns
returns c = column-ends _ _ _ _ _ _ _ _ c.loop-index.invariant c.loop-index-test.false
