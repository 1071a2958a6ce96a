-- A value cut at each separator, a byte: the Rust's `str::split` at one character. There is always one part more than separators, so
-- that an empty value is one empty part, and two separators side by side have an empty part between them.
-- `split` gives the only parts without separators that join to the value (`split-without`, `join-split`, `split-join`). Assumes nothing.
--
--   index_of separator value   the index of the first separator, or the length of the value where there is none
--   Parts                     the parts in their order: `part bytes others`, and at the end `last bytes`
--   with_first byte parts      the parts with the byte put before the first of them
--   split separator value     the parts of the value between the separators
--   every_part test parts      every part passes the test
--   without separator value   no byte of the value is the separator
--   join separator parts      the parts written one behind the other, with a separator between them
use Rattle.std.specs.Prelude.{ℕ, suc, Bool, ◌&&◌, not, List, [], ◌∷◌, ◌++◌, if◌then◌else◌}
use Rattle.ascii.specs.Notation.{◌≡ᵇ◌}
use Rattle.ascii.specs.Bytes.{every}

unfoldable pub index_of : ℕ → List ℕ → ℕ
index_of separator [] = 0
index_of separator (byte ∷ rest) = if byte ≡ᵇ separator then 0 else suc (index_of separator rest)

pub data Parts : Type 0 where
  last : List ℕ → Parts
  part : List ℕ → Parts → Parts

unfoldable pub with_first : ℕ → Parts → Parts
with_first byte (last bytes) = last (byte ∷ bytes)
with_first byte (part bytes others) = part (byte ∷ bytes) others

unfoldable pub split : ℕ → List ℕ → Parts
split separator [] = last []
split separator (byte ∷ rest) =
    if byte ≡ᵇ separator
    then part [] (split separator rest)
    else with_first byte (split separator rest)

unfoldable pub every_part : (List ℕ → Bool) → Parts → Bool
every_part test (last bytes) = test bytes
every_part test (part bytes others) = test bytes && every_part test others

abbrev pub without : ℕ → List ℕ → Bool
without separator value = every (λ byte. not (byte ≡ᵇ separator)) value

unfoldable pub join : ℕ → Parts → List ℕ
join separator (last bytes) = bytes
join separator (part bytes others) = bytes ++ (separator ∷ join separator others)
