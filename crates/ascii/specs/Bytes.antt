-- The value of a FIX field as a list of bytes; a byte is a number below 256. Assumes nothing.
--
--   ascii text            the bytes of an ASCII text
--   non_empty value        the value has a byte
--   every test value      every byte of the value passes the test (so also of the empty value)
--   how_many test value    how many bytes of the value pass the test
use Rattle.std.specs.Prelude.{ℕ, Bool, true, false, List, [], ◌∷◌}
use Rattle.std.specs.List.{list_all, count_by}
use Prim.Native.Char.{code}
use Prim.Native.String.{String}

abbrev pub ascii : String → List ℕ
ascii String.[] = []
ascii (String.◌∷◌ first rest) = code first ∷ ascii rest

unfoldable pub non_empty : List ℕ → Bool
non_empty [] = false
non_empty (byte ∷ rest) = true

abbrev pub every : (ℕ → Bool) → List ℕ → Bool
every test value = list_all test value

abbrev pub how_many : (ℕ → Bool) → List ℕ → ℕ
how_many test value = count_by test value
