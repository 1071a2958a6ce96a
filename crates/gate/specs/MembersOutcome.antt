-- What `gate_level_members` answers, as numbers. Assumes nothing.
--
--   members_outcome words path       the members of the level that the path leads to: how many they are, and where they stand
use Rattle.std.specs.Prelude.{ℕ, ◌+◌, List, length, get_or, Result, Ok, Err}
use Rattle.layouts.specs.Limits.{gate_limits}
use Rattle.layouts.specs.LayoutWords.{member_places, level_members}
use Rattle.levels.specs.Members.{level_outcome}
use Rattle.outcomes.specs.declared.outcome.Outcome.{Outcome}
use Rattle.outcomes.specs.Outcome.{refused_with, answered_with}
use Rattle.refusals.specs.declared.refusal.Refusal.{Refusal}

abbrev pub members_at : List ℕ → Result ℕ Refusal → Outcome
members_at words (Ok number) = answered_with (length (level_members words number)) (get_or words (member_places + number) 0)
members_at words (Err refusal) = refused_with refusal

unfoldable pub members_outcome : List ℕ → List ℕ → Outcome
members_outcome words path = members_at words (level_outcome gate_limits words path)
