-- A text cut at its line feeds, a line's value cut at its commas. Document 01: "Each line is key=value and a line feed; a last line without
-- its line feed is of no known form." So the bytes behind the last line feed are a case of their own. Assumes nothing.
--
--   position_of byte bytes     how many bytes stand before the first `byte`: the length where there is none
--   before byte bytes         what stands before the first `byte`
--   behind byte bytes         what stands behind it, nothing where there is none
--   starts_with key bytes      the bytes begin with the key
--   is_same name bytes         the bytes are the name
--   Pieces                    the pieces of a cut: each that `byte` ends, then the last, which it does not end
--   cut byte bytes            the pieces of the bytes
--   lines_of text              the lines of a text, and what stands behind its last line feed
use Rattle.std.specs.Prelude.{ℕ, suc, Bool, true, false, ◌&&◌, List, [], ◌∷◌, length, take, drop, if◌then◌else◌}
use Prim.Native.Char.{code}
use Rattle.ascii.specs.Notation.{◌≡ᵇ◌}

unfoldable pub position_of : ℕ → List ℕ → ℕ
position_of byte [] = 0
position_of byte (first ∷ rest) = if first ≡ᵇ byte then 0 else suc (position_of byte rest)

abbrev pub before : ℕ → List ℕ → List ℕ
before byte bytes = take (position_of byte bytes) bytes

abbrev pub behind : ℕ → List ℕ → List ℕ
behind byte bytes = drop (suc (position_of byte bytes)) bytes

unfoldable pub starts_with : List ℕ → List ℕ → Bool
starts_with [] bytes = true
starts_with (byte ∷ key) [] = false
starts_with (byte ∷ key) (first ∷ rest) = byte ≡ᵇ first && starts_with key rest

unfoldable pub is_same : List ℕ → List ℕ → Bool
is_same name bytes = length name ≡ᵇ length bytes && starts_with name bytes

pub data Pieces : Type 0 where
  last : List ℕ → Pieces
  piece : List ℕ → Pieces → Pieces

unfoldable pub longer : ℕ → Pieces → Pieces
longer byte (last bytes) = last (byte ∷ bytes)
longer byte (piece bytes others) = piece (byte ∷ bytes) others

unfoldable pub cut : ℕ → List ℕ → Pieces
cut byte [] = last []
cut byte (first ∷ rest) = if first ≡ᵇ byte then piece [] (cut byte rest) else longer first (cut byte rest)

abbrev pub line_feed : ℕ
line_feed = 10

abbrev pub comma : ℕ
comma = code ","

abbrev pub lines_of : List ℕ → Pieces
lines_of text = cut line_feed text
