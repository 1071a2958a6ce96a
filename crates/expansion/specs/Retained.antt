-- The required list of an entry level in memory: "Its required list drops the delimiter and later repeats" (document 01). Assumes nothing.
--
--   is_dropped delimiter seen tag    the tag is the delimiter or was seen
--   retained_in delimiter words      what memory holds afterwards: the tags that stay, and behind them the words that stood there before
use Rattle.std.specs.Prelude.{ℕ, Bool, ◌||◌, List, [], ◌++◌, length, drop}
use Rattle.ascii.specs.Notation.{◌≡ᵇ◌}
use Rattle.ascending.specs.Sort.{is_in}
use Rattle.expansion.specs.Expansion.{retained}

unfoldable pub is_dropped : ℕ → List ℕ → ℕ → Bool
is_dropped delimiter seen tag = tag ≡ᵇ delimiter || is_in tag seen

unfoldable pub retained_in : ℕ → List ℕ → List ℕ
retained_in delimiter words = retained delimiter [] words ++ drop (length (retained delimiter [] words)) words
