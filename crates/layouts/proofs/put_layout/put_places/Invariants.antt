-- `layouts::put_layout::put_places` meets its contract. The loop's invariant is `PlacesSoFar`; the laws are those of
-- specs/GatheredLayoutLaws.antt.
use Rattle.layouts.specs.GatheredLayoutLaws.{PlacesSoFar}
use Rattle.std.proofs.Common.{◌+◌, ◌*◌}
use Rattle.layouts.proofs.put_layout.put_places.Given as goal

abbrev pub invariant-loop-index : goal.invariant-loop-index
invariant-loop-index l = PlacesSoFar l.initial.words l.rows l.to l.field l.count l.index (l.field + 6 * l.index) l.words l.first
