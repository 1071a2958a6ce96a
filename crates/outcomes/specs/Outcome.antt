-- What the gate's exported calls answer, as numbers: document 01's number and place for a refusal, else how many words were written and one
-- number more. `Outcome` is declared in src/outcome.rt. Assumes nothing.
--
--   refused_with refusal         a refusal: its number and its place
--   answered_with words extra    an answer: the words written, and the number that the call gives besides
use Rattle.std.specs.Prelude.{ℕ}
use Rattle.refusals.specs.declared.refusal.Refusal.{Refusal}
use Rattle.refusals.specs.Refusal.{refusal_number, refusal_place}
use Rattle.outcomes.specs.declared.outcome.Outcome.{Outcome}

abbrev pub refused_with : Refusal → Outcome
refused_with refusal = record { refusal = refusal_number refusal; place = refusal_place refusal; words = 0; extra = 0 }

abbrev pub answered_with : ℕ → ℕ → Outcome
answered_with words extra = record { refusal = 0; place = 0; words = words; extra = extra }
