-- `gate::level::gate_level_members` meets its contract, by specs/MembersOutcomeLaws.antt.
use mathlib.Core.Path.{refl, sym, ◌∙◌}
use native.Mathlib.Omega.{arith}
use Rattle.layouts.specs.Limits.{gate_limits}
use Rattle.levels.specs.MembersLaws.{reached_inside}
use Rattle.gate.specs.MembersOutcomeLaws.{hands_out_members, hands_out_none}
use borrow.Author.Rules.{rules}
use Rattle.gate.proofs.level.gate_level_members.Goals as goal

-- let place = 1 + level;
pub overflow_add-place : goal.overflow_add-place
overflow_add-place c = omega (arith, (reached_inside gate_limits c.args.layout.now c.args.path.now c.in-Ok.level (sym c.level_of.ensures.outcome ∙ c.in-Ok.is)).places)

-- let members = stretch_at(layout, place);
pub stretch_at-members-requires : goal.stretch_at-members-requires
stretch_at-members-requires c = reached_inside gate_limits c.args.layout.now c.args.path.now c.in-Ok.level (sym c.level_of.ensures.outcome ∙ c.in-Ok.is)

-- let first = layout[place] as usize;
pub offset_bounds-layout-place : goal.offset_bounds-layout-place
offset_bounds-layout-place c = omega (arith, (reached_inside gate_limits c.args.layout.now c.args.path.now c.in-Ok.level (sym c.level_of.ensures.outcome ∙ c.in-Ok.is)).places)

pub bounds-layout-place : goal.bounds-layout-place
bounds-layout-place c = omega (arith, (reached_inside gate_limits c.args.layout.now c.args.path.now c.in-Ok.level (sym c.level_of.ensures.outcome ∙ c.in-Ok.is)).places)

-- #[no_mangle]
pub returns-in-Ok : goal.returns-in-Ok
returns-in-Ok c = record {
  outcome = (hands_out_members _ _ _ _ _ _ (sym c.level_of.ensures.outcome ∙ c.in-Ok.is) c.stretch_at-members.ensures refl c.answered.ensures.outcome).0;
  part = (hands_out_members _ _ _ _ _ _ (sym c.level_of.ensures.outcome ∙ c.in-Ok.is) c.stretch_at-members.ensures refl c.answered.ensures.outcome).1;
}

pub returns-in-Err : goal.returns-in-Err
returns-in-Err c = record {
  outcome = (hands_out_none _ _ _ _ (sym c.level_of.ensures.outcome ∙ c.in-Err.is) c.from.ensures).0;
  part = (hands_out_none _ _ _ _ (sym c.level_of.ensures.outcome ∙ c.in-Err.is) c.from.ensures).1;
}
