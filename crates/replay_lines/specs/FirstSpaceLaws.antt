-- A list cut at the first place that passes a test: what `position` finds is where `before_first` ends. Assumes nothing.
use Rattle.std.specs.Prelude.{◌≡◌, ℕ, ◌+◌, ◌<◌, Bool, eqb, length, get_or, take, drop, ◌++◌, Some}
use Rattle.std.specs.List.{position, position_or_len}
use Rattle.std.proofs.Common.{arith, eqb-true}
use mathlib.Core.List.{List, ◌∷◌}
use Rattle.std.proofs.lemmas.List.Quantifiers.{position-Some}
use Rattle.std.proofs.lemmas.List.Sums.{position_or_len_is, split_at_first}

module _ (test : ℕ → Bool) (bytes : List ℕ) (place : ℕ) where
  -- where the first one stands that passes
  pub first_place : position test bytes ≡ Some place → position_or_len test bytes ≡ place
  first_place found =
      let there = position-Some test bytes place 0 found in
      let inside = there.0 in
      position_or_len_is test bytes place 0 (omega (arith, inside)) there.2 (λ within. there.1)

-- the bytes are those before the first separator, the separator, and those after it
pub cut_at_first : (separator : ℕ) (bytes : List ℕ) (place : ℕ) → position (λ byte. eqb byte separator) bytes ≡ Some place
    → bytes ≡ take place bytes ++ (separator ∷ drop (place + 1) bytes)
cut_at_first separator bytes place found =
    let test : ℕ → Bool = λ byte. eqb byte separator in
    let there = position-Some test bytes place 0 found in
    let first : position_or_len test bytes ≡ place = first_place test bytes place found in
    let same : get_or bytes place 0 ≡ separator = eqb-true _ _ there.1 in
    let inside : position_or_len test bytes < length bytes = rw (← first) at there.0 in
    let cut = split_at_first test bytes 0 inside in
    rw (first, same) at cut
