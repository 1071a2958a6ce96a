-- `walk_steps::group_steps::lead_at` meets its contract. The laws are those of specs/WordStepsLaws.antt.
use mathlib.Core.Path.{sym, ◌∙◌}
use Rattle.group_reading.specs.GroupSteps.{ends_group}
use Rattle.walk_steps.specs.WalkWords.{among}
use Rattle.walk_steps.specs.WordStepsLaws.{lead-later, lead-foreign, lead-ends, lead-here}
use borrow.Author.Rules.{rules}
use Rattle.walk_steps.proofs.group_steps.lead_at.Goals as goal

-- return Turn::Over;
pub returns-then-entries-ne0 : goal.returns-then-entries-ne0
returns-then-entries-ne0 c = lead-later _ _ (ends_group c.args.declared c.args.entries (among c.args.enclosing.words.now) c.args.tag) _ c.if-entries-ne0.true

pub returns-in_default : goal.returns-in_default
returns-in_default c = lead-foreign _ _ (ends_group c.args.declared c.args.entries (among c.args.enclosing.words.now) c.args.tag) _ c.if-entries-ne0.false (sym c.binary_search.ensures ∙ c.in_default.is)

-- return Turn::Over;
pub returns-then-ends_group : goal.returns-then-ends_group
returns-then-ends_group c = lead-ends _ _ (ends_group c.args.declared c.args.entries (among c.args.enclosing.words.now) c.args.tag) _ c.if-entries-ne0.false _ (sym c.binary_search.ensures ∙ c.in-Some.is) (sym c.ends_group.ensures ∙ c.if-ends_group.true)

-- fn lead_at(members: &[u32], enclosing: &[u32], declared: Option<u64>, entries: u64, tag: u32) -> Turn
pub returns : goal.returns
returns c = lead-here _ _ (ends_group c.args.declared c.args.entries (among c.args.enclosing.words.now) c.args.tag) _ c.if-entries-ne0.false _ (sym c.binary_search.ensures ∙ c.in-Some.is) (sym c.ends_group.ensures ∙ c.if-ends_group.false)
