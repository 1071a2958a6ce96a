-- `levels::members::level_of` meets its contract. The laws are those of specs/MembersLaws.antt.
use Rattle.std.proofs.Common.{rules, sym, ap, ◌∙◌}
use Rattle.std.specs.Prelude.{ℕ, List, get_or}
use Rattle.layouts.specs.Limits.{gate_limits}
use Rattle.layouts.specs.LayoutCheckFacts.{is_layout-passed, layout-taken, layout-refused}
use Rattle.levels.specs.Members.{nested_level}
use Rattle.levels.specs.MembersLaws.{along_nowhere, along_goes_on, along_ends, level_outcome-no_layout, level_outcome-along}
use Rattle.levels.proofs.members.level_of.Goals as goal

-- let layout = layout_of(words).ok_or(Refusal::RuleBroken(0, 0))?;
pub returns-in_err-layout : goal.returns-in_err-layout
returns-in_err-layout c =
    let refused = layout-refused gate_limits _ (λ layout. layout.words.now) _ c.layout_of.ensures.outcome _ _ (sym c.ok_or.ensures.value ∙ c.in_err-layout.was) in
    let outcome = level_outcome-no_layout gate_limits c.args.words.now c.args.path.now refused.0 in
    let error = refused.1 in
    record { outcome = search (rules, outcome, error) }

-- level = nested_level(&layout, level, *tag).ok_or(Refusal::NoSuchGroup(*tag))?;
pub nested_level-requires : goal.nested_level-requires
nested_level-requires c =
    let taken = layout-taken gate_limits _ (λ layout. layout.words.now) _ c.layout_of.ensures.outcome _ _ (sym c.ok_or.ensures.value ∙ c.in_ok-layout.was) in
    rw taken.1 c.loop-tag.invariant.level

pub returns-in_err-level : goal.returns-in_err-level
returns-in_err-level c =
    let taken = layout-taken gate_limits _ (λ layout. layout.words.now) _ c.layout_of.ensures.outcome _ _ (sym c.ok_or.ensures.value ∙ c.in_ok-layout.was) in
    let looked = c.nested_level.ensures ∙ ap (λ (words : List ℕ). nested_level words c.loop-tag.level (get_or c.args.path.now c.loop-tag.tag-index 0)) taken.1 in
    let refused = along_nowhere _ _ _ _ c.loop-tag.invariant c.loop-tag-test.true _ looked _ (sym c.ok_or-in-loop-tag.ensures.value ∙ c.in_err-level.was) in
    let outcome = level_outcome-along gate_limits _ _ taken.0 _ refused in
    record { outcome = search (rules, outcome) }

pub loop-tag-preserved : goal.loop-tag-preserved
loop-tag-preserved c =
    let taken = layout-taken gate_limits _ (λ layout. layout.words.now) _ c.layout_of.ensures.outcome _ _ (sym c.ok_or.ensures.value ∙ c.in_ok-layout.was) in
    let looked = c.nested_level.ensures ∙ ap (λ (words : List ℕ). nested_level words c.loop-tag.level (get_or c.args.path.now c.loop-tag.tag-index 0)) taken.1 in
    along_goes_on _ _ _ _ c.loop-tag.invariant c.loop-tag-test.true _ looked gate_limits (is_layout-passed gate_limits _ taken.0) _ (sym c.ok_or-in-loop-tag.ensures.value ∙ c.in_ok-level.was)

-- Ok(level)
pub returns : goal.returns
returns c =
    let taken = layout-taken gate_limits _ (λ layout. layout.words.now) _ c.layout_of.ensures.outcome _ _ (sym c.ok_or.ensures.value ∙ c.in_ok-layout.was) in
    let reached = along_ends _ _ _ _ c.loop-tag.invariant c.loop-tag-test.false in
    record { outcome = sym (level_outcome-along gate_limits _ _ taken.0 _ reached) }
