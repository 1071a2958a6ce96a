-- The law of `Outcome.antt`: what the code of a refusal makes is its outcome. Assumes nothing.
use Rattle.std.specs.Prelude.{◌≡◌, ℕ}
use Rattle.refusals.specs.declared.refusal.Refusal.{Refusal}
use Rattle.refusals.specs.Refusal.{refusal_number, refusal_place}
use Rattle.outcomes.specs.declared.outcome.Outcome.{Outcome}
use Rattle.outcomes.specs.Outcome.{refused_with}

pub refused-with : (refusal : Refusal) (number place : ℕ) → number ≡ refusal_number refusal → place ≡ refusal_place refusal
    → ◌≡◌ {A = Outcome} (record { refusal = number; place = place; words = 0; extra = 0 }) (refused_with refusal)
refused-with refusal number place numbered placed = rw (numbered, placed)
