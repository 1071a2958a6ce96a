-- Laws of `Steps.antt`: what a word says of its step, and the word of a step that enters a group. Assumes nothing.
use Rattle.std.specs.Prelude.{◌≡◌, ℕ, ◌+◌, ◌/◌, ◌%◌, ◌<◌, Bool, true, false, eqb}
use Rattle.std.proofs.Math.Path.{refl}
use Rattle.std.proofs.Common.{sym, ◌∙◌, subst, arith}
use borrow.Author.Tests.{eqb-true, eqb-false, eq-eqb, ne_eqb}
use Rattle.expansion.specs.declared.step.Step.{Step}
use Rattle.expansion.specs.declared.step.Step.TheVariants.{Member, Required, Enter, Leave}
use Rattle.expansion.specs.Trace.{tag_in, count_tag_in, Entering}
use Rattle.expansion.specs.TraceLaws.{entering_required, entering_optional}
use Rattle.expansion.specs.Steps.{word_of, step_of, Told}

told_by : (word : ℕ) (none one two : Bool) → eqb (word % 4) 0 ≡ none → eqb (word % 4) 1 ≡ one → eqb (word % 4) 2 ≡ two → Told word (step_of word)
unfolding step_of
told_by word true one two is-none is-one is-two = rw is-none (eqb-true _ _ is-none, refl)
told_by word false true two is-none is-one is-two = rw (is-none, is-one) (eqb-true _ _ is-one, refl)
told_by word false false true is-none is-one is-two = rw (is-none, is-one, is-two) (eqb-true _ _ is-two, (refl, refl))
told_by word false false false is-none is-one is-two =
    rw (is-none, is-one, is-two) (omega (arith, eqb-false _ _ is-none, eqb-false _ _ is-one, eqb-false _ _ is-two), refl)

pub step-told : (word : ℕ) (step shown : Step) → step ≡ step_of word → step ≡ shown → Told word shown
step-told word step shown same is = subst (Told word) (sym same ∙ is) (told_by word _ _ _ refl refl refl)

step_of-enters : (word : ℕ) → word % 4 ≡ 2 → step_of word ≡ Enter (count_tag_in word) (eqb (word / 4 % 2) 1)
unfolding step_of
step_of-enters word two = rw (ne_eqb (word % 4) 0 (λ none. omega arith), ne_eqb (word % 4) 1 (λ one. omega arith), eq-eqb (word % 4) 2 two)

step_of-leaves : (word : ℕ) → word % 4 ≡ 3 → step_of word ≡ Leave (tag_in word)
unfolding step_of
step_of-leaves word three =
    rw (ne_eqb (word % 4) 0 (λ none. omega arith), ne_eqb (word % 4) 1 (λ one. omega arith), ne_eqb (word % 4) 2 (λ two. omega arith))

-- a step that is neither of a group that is entered nor of one that is left
pub step-inside : (word : ℕ) (step : Step) → step ≡ step_of word
    → ((count : ℕ) (required : Bool) → step ≡ Enter count required → ⊥) → ((delimiter : ℕ) → step ≡ Leave delimiter → ⊥)
    → (word % 4 ≡ 2 → ⊥) × (word % 4 ≡ 3 → ⊥)
step-inside word step same no-enter no-leave = (λ two. no-enter _ _ (same ∙ step_of-enters word two), λ three. no-leave _ (same ∙ step_of-leaves word three))

pub entering-word : (count : ℕ) (required : Bool) → count < 4294967296 → Entering count required (word_of (Enter count required))
entering-word count true narrow = entering_required count narrow
entering-word count false narrow = entering_optional count narrow
