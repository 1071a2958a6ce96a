-- `arrange::arrange::order_groups` meets its contract: the count tags are sorted, a row is opened for each, and the groups are placed in them.
use mathlib.Core.Path.{refl}
use Prim.Native.Nat.{◌-◌}
use native.Mathlib.Omega.{arith}
use lib.ListN.{drop}
use Rattle.arrange_level.specs.ArrangeTrace.{own_at}
use Rattle.arrange_level.specs.ArrangeGroups.{count_tags}
use Rattle.arrange.specs.ArrangeGatherLaws.{all-tags, tags-many, tags-inside, tags-room, groups_none, groups-placed}
use Rattle.arrange.proofs.arrange.order_groups.Goals as goal

pub slice_bounds-open_rows-end : goal.slice_bounds-open_rows-end
slice_bounds-open_rows-end c = tags-inside _ _ (drop (c.args.groups - 0) c.args.tags.now) _ _ (own_at c.args.trace.now c.args.first).starts (all-tags c.args.tags.now c.args.groups (count_tags (own_at c.args.trace.now c.args.first).starts) c.requires.2) refl c.in_order-kept.ensures.outcome c.in_order-kept.ensures.memory

pub open_rows-requires : goal.open_rows-requires
open_rows-requires c = tags-room _ _ (drop (c.args.groups - 0) c.args.tags.now) _ _ (own_at c.args.trace.now c.args.first).starts (all-tags c.args.tags.now c.args.groups (count_tags (own_at c.args.trace.now c.args.first).starts) c.requires.2) refl c.in_order-kept.ensures.outcome c.in_order-kept.ensures.memory _ _ c.requires.3

pub returns-then-kept-eq0 : goal.returns-then-kept-eq0
returns-then-kept-eq0 c = record {
  outcome = tags-many _ _ (drop (c.args.groups - 0) c.args.tags.now) _ _ (own_at c.args.trace.now c.args.first).starts (all-tags c.args.tags.now c.args.groups (count_tags (own_at c.args.trace.now c.args.first).starts) c.requires.2) refl c.in_order-kept.ensures.outcome c.in_order-kept.ensures.memory;
  memory = groups_none _ _ (drop (c.args.groups - 0) c.args.tags.now) _ _ (own_at c.args.trace.now c.args.first).starts (all-tags c.args.tags.now c.args.groups (count_tags (own_at c.args.trace.now c.args.first).starts) c.requires.2) refl c.in_order-kept.ensures.outcome c.in_order-kept.ensures.memory _ _ _ c.if-kept-eq0.true c.open_rows.ensures;
}

pub slice_bounds-place_groups-end : goal.slice_bounds-place_groups-end
slice_bounds-place_groups-end c = tags-inside _ _ (drop (c.args.groups - 0) c.args.tags.now) _ _ (own_at c.args.trace.now c.args.first).starts (all-tags c.args.tags.now c.args.groups (count_tags (own_at c.args.trace.now c.args.first).starts) c.requires.2) refl c.in_order-kept.ensures.outcome c.in_order-kept.ensures.memory

pub place_groups-requires : goal.place_groups-requires
place_groups-requires c = (tags-room _ _ (drop (c.args.groups - 0) c.args.tags.now) _ _ (own_at c.args.trace.now c.args.first).starts (all-tags c.args.tags.now c.args.groups (count_tags (own_at c.args.trace.now c.args.first).starts) c.requires.2) refl c.in_order-kept.ensures.outcome c.in_order-kept.ensures.memory _ _ (omega (arith, c.requires.3, c.open_rows.auto.rows)), c.requires.0)

pub returns : goal.returns
returns c = record {
  outcome = tags-many _ _ (drop (c.args.groups - 0) c.args.tags.now) _ _ (own_at c.args.trace.now c.args.first).starts (all-tags c.args.tags.now c.args.groups (count_tags (own_at c.args.trace.now c.args.first).starts) c.requires.2) refl c.in_order-kept.ensures.outcome c.in_order-kept.ensures.memory;
  memory = groups-placed _ _ (drop (c.args.groups - 0) c.args.tags.now) _ _ (own_at c.args.trace.now c.args.first).starts (all-tags c.args.tags.now c.args.groups (count_tags (own_at c.args.trace.now c.args.first).starts) c.requires.2) refl c.in_order-kept.ensures.outcome c.in_order-kept.ensures.memory _ _ _ _ c.open_rows.ensures c.place_groups.ensures;
}
