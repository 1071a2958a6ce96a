-- Two words of a record as one number, as the code reads them. Assumes nothing.
--
--   pair_of low high     two words as one number
--   pair_at words at     the word at this place and the next one
use Rattle.std.specs.Prelude.{ℕ, ◌+◌, ◌*◌, List, get_or}

-- two words as one number
abbrev pub pair_of : ℕ → ℕ → ℕ
pair_of low high = low + 4294967296 * high

abbrev pub pair_at : List ℕ → ℕ → ℕ
pair_at words at = pair_of (get_or words at 0) (get_or words (at + 1) 0)
