-- `layouts::put_layout::put_places` meets its contract. The loop's invariant is `PlacesSoFar`; the laws are those of
-- specs/GatheredLayoutLaws.antt.
use Prim.Native.Nat.{ℕ}
use mathlib.Core.Path.{refl, ◌∙◌, ap}
use native.Mathlib.Omega.{arith}
use lib.ListN.{length-set, set}
use Rattle.layouts.specs.GatheredLayoutLaws.{places-begin, places-go_on, places-fit, places-end}
use Rattle.std.proofs.Common.{◌≡◌, ◌+◌, ◌*◌}
use Rattle.layouts.proofs.put_layout.put_places.Goals as goal

-- for index in 0..count {
pub loop-index-init : goal.loop-index-init
loop-index-init c = let start : c.args.field + 0 ≡ c.args.field = omega arith in rw start (places-begin _ _ _ _ _ _)

-- words[to + 1 + index] = narrow(first + end);
pub overflow_add-first : goal.overflow_add-first
overflow_add-first c = omega (arith, places-fit c.args.rows.now c.args.first c.args.field c.args.count c.loop-index.index _ c.loop-index.invariant.at_place c.loop-index-test.true c.requires.3 _ refl)

pub narrow-requires-in-loop-index : goal.narrow-requires-in-loop-index
narrow-requires-in-loop-index c = places-fit c.args.rows.now c.args.first c.args.field c.args.count c.loop-index.index _ c.loop-index.invariant.at_place c.loop-index-test.true c.requires.3 _ refl

pub bounds-words-to-in-loop-index : goal.bounds-words-to-in-loop-index
bounds-words-to-in-loop-index c = omega (arith, c.loop-index.invariant.storing.same, length-set c.args.words.now c.args.to c.narrow.result)

pub loop-index-preserved : goal.loop-index-preserved
loop-index-preserved c =
    let next : c.args.field + 6 * (c.loop-index.index + 1) ≡ c.args.field + 6 * c.loop-index.index + 6 = omega arith in
    rw next (places-go_on _ _ _ _ _ _ _ _ _ c.loop-index.invariant c.loop-index-test.true _ (c.narrow-in-loop-index.ensures ∙ ap (λ (end : ℕ). c.args.first + end) refl))

-- fn put_places(words: &mut [u32], to: usize, first: usize, rows: &[u32], field: usize, count: usize)
pub shape_of-words : goal.shape_of-words
shape_of-words c = c.loop-index.invariant.storing.same ∙ length-set c.args.words.now c.args.to c.narrow.result

pub returns : goal.returns
returns c = places-end _ _ _ _ _ _ _ _ _ c.loop-index.invariant c.loop-index-test.false c.args.words.now (ap (set c.args.words.now c.args.to) c.narrow.ensures)
