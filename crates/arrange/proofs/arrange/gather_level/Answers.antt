-- `arrange::arrange::gather_level` meets its contract: one level more is gathered. The laws are those of specs/ArrangeGatherLaws.antt.
use mathlib.Core.Path.{refl}
use native.Mathlib.Omega.{arith}
use Rattle.arrange.specs.ArrangeGatherLaws.{level-within, read-room, groups-fit, tags-read, ends-inside, parts-inside, ends-fit, level-gathered}
use Rattle.arrange.proofs.arrange.gather_level.Goals as goal

pub bounds-rows-state : goal.bounds-rows-state
bounds-rows-state c = omega (arith, level-within c.args.trace.now c.args.members.now c.args.required.now c.args.rows.now c.args.state c.requires.1 c.requires.2, c.requires.0.for_rows)

-- let own = read_level(trace, first, members, member, required, need, tags);
pub read_level-own-requires : goal.read_level-own-requires
read_level-own-requires c = read-room c.args.trace.now c.args.members.now c.args.required.now c.args.rows.now c.args.state c.requires.1 c.requires.2 _ refl _ c.requires.0

-- let member_end = order_members(members, member, past);
pub order_members-member_end-requires : goal.order_members-member_end-requires
order_members-member_end-requires c = ((parts-inside c.args.trace.now c.args.members.now c.args.required.now c.args.rows.now c.args.state c.requires.1 c.requires.2 _ refl c.args.tags.now c.requires.0 c.read_level-own.result _ _ _ c.read_level-own.ensures).0, (ends-inside c.args.trace.now c.args.members.now c.args.required.now c.args.rows.now c.args.state c.requires.1 c.requires.2 _ refl c.args.tags.now c.requires.0 c.read_level-own.result _ _ _ c.read_level-own.ensures).0)

-- let required_end = order_required(required, need, later, first, delimiter);
pub order_required-required_end-requires : goal.order_required-required_end-requires
order_required-required_end-requires c = ((parts-inside c.args.trace.now c.args.members.now c.args.required.now c.args.rows.now c.args.state c.requires.1 c.requires.2 _ refl c.args.tags.now c.requires.0 c.read_level-own.result _ _ _ c.read_level-own.ensures).1, (ends-inside c.args.trace.now c.args.members.now c.args.required.now c.args.rows.now c.args.state c.requires.1 c.requires.2 _ refl c.args.tags.now c.requires.0 c.read_level-own.result _ _ _ c.read_level-own.ensures).1)

-- let kept = order_groups(trace, first, rows, levels, tags, groups);
pub order_groups-kept-requires : goal.order_groups-kept-requires
order_groups-kept-requires c = (c.requires.0.short, (ends-inside c.args.trace.now c.args.members.now c.args.required.now c.args.rows.now c.args.state c.requires.1 c.requires.2 _ refl c.args.tags.now c.requires.0 c.read_level-own.result _ _ _ c.read_level-own.ensures).2, tags-read c.args.trace.now c.args.members.now c.args.required.now c.args.rows.now c.args.state c.requires.1 c.requires.2 _ refl c.args.tags.now c.requires.0 c.read_level-own.result _ _ _ c.read_level-own.ensures, omega (arith, groups-fit c.args.trace.now c.args.members.now c.args.required.now c.args.rows.now c.args.state c.requires.1 c.requires.2 _ refl, c.requires.0.for_rows))

-- let levels = state.levels + kept;
pub overflow_add-levels : goal.overflow_add-levels
overflow_add-levels c = omega (arith, groups-fit c.args.trace.now c.args.members.now c.args.required.now c.args.rows.now c.args.state c.requires.1 c.requires.2 _ refl, c.order_groups-kept.ensures.outcome, c.requires.0.few)

-- close_row(rows, level, delimiter, member_end, required_end, found - 1);
pub overflow_sub-levels : goal.overflow_sub-levels
overflow_sub-levels c = omega (arith, c.requires.2)

pub close_row-requires : goal.close_row-requires
close_row-requires c = (
  omega (arith, level-within c.args.trace.now c.args.members.now c.args.required.now c.args.rows.now c.args.state c.requires.1 c.requires.2, c.requires.0.for_rows, c.order_groups-kept.ensures.memory.size),
  (ends-fit c.args.trace.now c.args.members.now c.args.required.now c.args.rows.now c.args.state c.requires.1 c.requires.2 _ refl c.args.tags.now c.requires.0 c.read_level-own.result _ _ _ c.read_level-own.ensures _ _ _ _ c.order_members-member_end.ensures c.order_required-required_end.ensures).0,
  (ends-fit c.args.trace.now c.args.members.now c.args.required.now c.args.rows.now c.args.state c.requires.1 c.requires.2 _ refl c.args.tags.now c.requires.0 c.read_level-own.result _ _ _ c.read_level-own.ensures _ _ _ _ c.order_members-member_end.ensures c.order_required-required_end.ensures).1,
  omega (arith, groups-fit c.args.trace.now c.args.members.now c.args.required.now c.args.rows.now c.args.state c.requires.1 c.requires.2 _ refl, c.order_groups-kept.ensures.outcome, c.requires.0.few),
)

-- level: level + 1,
pub overflow_add-result : goal.overflow_add-result
overflow_add-result c = omega (arith, level-within c.args.trace.now c.args.members.now c.args.required.now c.args.rows.now c.args.state c.requires.1 c.requires.2, c.requires.0.few)

pub returns : goal.returns
returns c = record {
  gathered = level-gathered c.args.trace.now c.args.members.now c.args.required.now c.args.rows.now c.args.state c.requires.1 c.requires.2 _ refl c.args.tags.now c.requires.0 c.read_level-own.result _ _ _ c.read_level-own.ensures _ _ _ _ _ _ _ _ _ c.order_members-member_end.ensures c.order_required-required_end.ensures c.order_groups-kept.ensures.outcome c.order_groups-kept.ensures.memory
      (omega (arith, c.requires.2))
      c.close_row.ensures
      refl;
  further = refl;
}
