-- Laws of `MembersOutcome.antt`: what the code of the call makes is the outcome, and the members handed out are the part of the words that it
-- names. Assumes nothing.
use Rattle.std.specs.Prelude.{◌≡◌, ℕ, ◌+◌, List, length, get_or, drop, Ok, Err}
use Rattle.std.proofs.Math.Path.{refl}
use Rattle.std.proofs.Common.{ap, ◌∙◌}
use Rattle.std.proofs.Math.ListN.{take}
use Rattle.refusals.specs.declared.refusal.Refusal.{Refusal}
use Rattle.layouts.specs.Limits.{gate_limits}
use Rattle.layouts.specs.LayoutWords.{stretch}
use Rattle.layouts.specs.LayoutWordsLaws.{length-stretch, stretch-part}
use Rattle.levels.specs.Members.{level_outcome, level_part}
use Rattle.levels.specs.MembersLaws.{reached_inside, level_part-reached, level_part-refused}
use Rattle.outcomes.specs.declared.outcome.Outcome.{Outcome}
use Rattle.outcomes.specs.Outcome.{refused_with, answered_with}
use Rattle.gate.specs.MembersOutcome.{members_outcome}

module _ (words path : List ℕ) where
  -- the outcome of `gate_level_members`, and the part of the words that it names
  abbrev pub HandsOut : Outcome → Type 0
  HandsOut outcome = (outcome ≡ members_outcome words path) × (take outcome.words (drop outcome.extra words) ≡ level_part gate_limits words path)

  pub hands_out_members : (members : List ℕ) (number first : ℕ) (outcome : Outcome) → level_outcome gate_limits words path ≡ Ok number
      → members ≡ stretch words (1 + number) → first ≡ get_or words (1 + number) 0 → outcome ≡ answered_with (length members) first
      → HandsOut outcome
  unfolding members_outcome
  hands_out_members members number first outcome reached read placed same = rw same (
    rw (reached, read, placed),
    rw (read, placed)
        (ap (λ (size : ℕ). take size (drop (get_or words (1 + number) 0) words)) (length-stretch words (1 + number) (reached_inside gate_limits words path number reached))
        ∙ stretch-part words (1 + number) _ _ refl refl
        ∙ rw (level_part-reached gate_limits words path number reached)),
  )

  pub hands_out_none : (refusal : Refusal) (outcome : Outcome) → level_outcome gate_limits words path ≡ Err refusal → outcome ≡ refused_with refusal → HandsOut outcome
  unfolding members_outcome
  hands_out_none refusal outcome refused same = rw same (rw refused, rw (level_part-refused gate_limits words path refusal refused))
