-- The place of a tag among words in strictly ascending order, and the test of that order. The Rust's `members.binary_search(&tag)`
-- (walk.rs, scope.rs). Assumes nothing.
--
--   StrictlyAbove low words       every word is above the one before it, and the first is above `low`
--   StrictlyAscending words       every word is above the one before it
--   is_strictly_above low words     the same as a test
--   is_strictly_ascending words
--   rank_from index words tag      the place of the first word that is the tag, counted from `index` on, or Nothing
--   rank_in words tag              the place of the first word that is the tag, or Nothing where there is none
--   is_found found                 the tag is there
--   Holds words tag found         where a place was found, the word there is the tag
use Rattle.std.specs.Prelude.{◌≡◌, ℕ, ◌+◌, ◌<◌, Bool, true, false, ◌&&◌, List, [], ◌∷◌, length, get_or, if◌then◌else◌, Option, Some, None}
use Rattle.ascii.specs.Notation.{◌<ᵇ◌, ◌≡ᵇ◌}

abbrev pub StrictlyAbove : ℕ → List ℕ → Type 0
StrictlyAbove low [] = Unit
StrictlyAbove low (word ∷ rest) = (low < word) × StrictlyAbove word rest

abbrev pub StrictlyAscending : List ℕ → Type 0
StrictlyAscending [] = Unit
StrictlyAscending (word ∷ rest) = StrictlyAbove word rest

unfoldable pub is_strictly_above : ℕ → List ℕ → Bool
is_strictly_above low [] = true
is_strictly_above low (word ∷ rest) = low <ᵇ word && is_strictly_above word rest

unfoldable pub is_strictly_ascending : List ℕ → Bool
is_strictly_ascending [] = true
is_strictly_ascending (word ∷ rest) = is_strictly_above word rest

unfoldable pub rank_from : ℕ → List ℕ → ℕ → Option ℕ
rank_from index [] tag = None
rank_from index (word ∷ rest) tag = if word ≡ᵇ tag then Some index else rank_from (index + 1) rest tag

unfoldable pub rank_in : List ℕ → ℕ → Option ℕ
rank_in words tag = rank_from 0 words tag

unfoldable pub is_found : Option ℕ → Bool
is_found (Some place) = true
is_found None = false

abbrev pub Holds : List ℕ → ℕ → Option ℕ → Type 0
Holds words tag (Some place) = (place < length words) × (get_or words place 0 ≡ tag)
Holds words tag None = Unit
