-- Membership of a number in a list of numbers, as a test, and the tags of an entry with one more. Assumes nothing.
--
--   tag ∈ᵇ tags                  the tag is one of the tags
--   insert_if repeated tag seen   the tags with one more, unless it repeats; the Rust's `insert_rank`
use Rattle.std.specs.Prelude.{ℕ, Bool, false, ◌||◌, List, [], ◌∷◌, if◌then◌else◌}
use Rattle.ascii.specs.Notation.{◌≡ᵇ◌}

infix 50 ◌∈ᵇ◌
abbrev pub ◌∈ᵇ◌ : ℕ → List ℕ → Bool
tag ∈ᵇ [] = false
tag ∈ᵇ (first ∷ rest) = tag ≡ᵇ first || tag ∈ᵇ rest

abbrev pub insert_if : Bool → ℕ → List ℕ → List ℕ
insert_if repeated tag seen = if repeated then seen else tag ∷ seen
