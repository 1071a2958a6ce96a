-- The tags seen at one entry's own level (walk.rs, `EntryTags`): "a bitset indexed by each tag's rank in the group's sorted member list", in 64-bit
-- words; the number of words is left open. Assumes nothing.
--
--   no_ranks width            the words of the empty set, so many of them
--   holds_rank words rank     a rank is in the set if and only if its bit is set: bit rank % 64 of word rank / 64
--   insert_rank words rank    the words with that bit set
--   mask_in word rank         that bit as a mask, in the word with this number: 0 in another
--   ones_of words             how many bits of the words are set
--   rank_count words members  how many are set in the words that a level of so many members uses, (members + 63) / 64 of them
--   Stands words width members ranks   the words, so many, stand for the set of these ranks of a level of so many members, each listed once
--   TagsSeen words width members is_member rank_of seen   the words stand for the tags seen, members of the level, by their ranks
use Rattle.std.specs.Prelude.{◌≡◌, ℕ, ◌+◌, ◌*◌, ◌/◌, ◌%◌, ◌^◌, ◌≤◌, ◌<◌, Bool, true, List, map, length, get_or, set, take, replicate, if◌then◌else◌}
use Rattle.std.specs.List.{sum_by}
use Rattle.std.specs.Int.Bits.{bit_or}
use Rattle.std.specs.Int.Count.{ones}
use Rattle.ascii.specs.Notation.{◌≡ᵇ◌}
use Rattle.ascii.specs.Membership.{◌∈ᵇ◌}

abbrev pub no_ranks : ℕ → List ℕ
no_ranks width = replicate width 0

unfoldable pub holds_rank : List ℕ → ℕ → Bool
holds_rank words rank = get_or words (rank / 64) 0 / 2 ^ (rank % 64) % 2 ≡ᵇ 1

unfoldable pub insert_rank : List ℕ → ℕ → List ℕ
insert_rank words rank = set words (rank / 64) (bit_or (get_or words (rank / 64) 0) (2 ^ (rank % 64)))

unfoldable pub mask_in : ℕ → ℕ → ℕ
mask_in word rank = if rank / 64 ≡ᵇ word then 2 ^ (rank % 64) else 0

abbrev pub ones_of : List ℕ → ℕ
ones_of words = sum_by ones words

unfoldable pub rank_count : List ℕ → ℕ → ℕ
rank_count words members = ones_of (take ((members + 63) / 64) words)

pub record Stands (words : List ℕ) (width members : ℕ) (ranks : List ℕ) : Type 0 where
  pub wide : length words ≡ width
  pub fits : members ≤ 64 * width
  pub holds : (rank : ℕ) → rank < 64 * width → holds_rank words rank ≡ rank ∈ᵇ ranks
  pub counts : rank_count words members ≡ length ranks

pub record TagsSeen (words : List ℕ) (width members : ℕ) (is_member : ℕ → Bool) (rank_of : ℕ → ℕ) (seen : List ℕ) : Type 0 where
  pub stands : Stands words width members (map rank_of seen)
  pub of_level : (tag : ℕ) → tag ∈ᵇ seen ≡ true → is_member tag ≡ true
