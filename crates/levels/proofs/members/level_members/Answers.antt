-- `levels::members::level_members` meets its contract, by specs/MembersLaws.antt.
use mathlib.Core.Path.{sym, ◌∙◌}
use native.Mathlib.Omega.{arith}
use Rattle.layouts.specs.Limits.{gate_limits}
use Rattle.levels.specs.MembersLaws.{reached_inside, level_part-reached, level_part-refused}
use Rattle.levels.proofs.members.level_members.Goals as goal

pub returns-in_default : goal.returns-in_default
returns-in_default c = record { outcome = sym (level_part-refused gate_limits _ _ _ (sym c.level_of.ensures.outcome ∙ c.in_default.is)) }

-- stretch_at(words, 1 + level)
pub overflow_add-level : goal.overflow_add-level
overflow_add-level c = omega (arith, (reached_inside gate_limits c.args.words.now c.args.path.now c.in-Ok.level (sym c.level_of.ensures.outcome ∙ c.in-Ok.is)).places)

pub stretch_at-requires : goal.stretch_at-requires
stretch_at-requires c = reached_inside gate_limits _ _ _ (sym c.level_of.ensures.outcome ∙ c.in-Ok.is)

-- pub fn level_members<'a>(words: &'a [u32], path: &[u32]) -> &'a [u32]
pub returns : goal.returns
returns c = record { outcome = c.stretch_at.ensures ∙ sym (level_part-reached gate_limits _ _ _ (sym c.level_of.ensures.outcome ∙ c.in-Ok.is)) }
