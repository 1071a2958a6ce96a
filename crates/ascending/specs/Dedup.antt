-- Words without repeats of the one before. The Rust's `members.dedup()` (scope.rs): of each run of equal words the first stays.
-- Assumes nothing.
--
--   deduped_after last words   the words that stay where the word before them is `last`
--   deduped words             the words that stay
--   deduped_in words           what memory holds afterwards: the words that stay, and behind them those that stood there before
use Rattle.std.specs.Prelude.{ℕ, List, [], ◌∷◌, ◌++◌, length, drop, if◌then◌else◌}
use Rattle.ascii.specs.Notation.{◌≡ᵇ◌}

unfoldable pub deduped_after : ℕ → List ℕ → List ℕ
deduped_after last [] = []
deduped_after last (word ∷ rest) = if word ≡ᵇ last then deduped_after last rest else word ∷ deduped_after word rest

unfoldable pub deduped : List ℕ → List ℕ
deduped [] = []
deduped (word ∷ rest) = word ∷ deduped_after word rest

unfoldable pub deduped_in : List ℕ → List ℕ
deduped_in words = deduped words ++ drop (length (deduped words)) words
