-- Lists of values in one field. FIX 4.4's data type is MultipleValueString, tokens with a single space between them; the Rust's
-- MultipleCharValue and MultipleStringValue are tested by `is_multi_value_list` (schema.rs): "a non-empty space-separated list whose every
-- token is non-empty and, when `token_len` is set, exactly that many characters". Assumes nothing.
--
-- The Rust cuts the value at its spaces after `from_utf8_lossy`; here the bytes are cut at 20 (hexadecimal) and the characters of each
-- token are counted by themselves. That is the same: 20 stands in no row of table 3-7 behind the first byte, so a space is inside no
-- character of several bytes and inside no maximal invalid part. The replacement joins nothing across a space, makes no space and takes
-- none away, and what it makes of a token depends on the token's bytes alone. Proved: `characters-parted` (characters,
-- CharactersLaws.antt) of the numbers, `cut-before_or_behind` (MultiValueOrder.antt) of the answer.
--
--   a token's length                None for any, or Some of so many characters
--   is_token token_len token          the token is non-empty and of this length
--   is_multi_value_list token_len value every token of the value, cut at its spaces, is one of this length
use Rattle.std.specs.Prelude.{ℕ, Bool, ◌&&◌, List, Option, Some, None}
use Prim.Native.Char.{code}
use Rattle.ascii.specs.Notation.{◌≡ᵇ◌}
use Rattle.ascii.specs.Bytes.{non_empty}
use Rattle.characters.specs.Characters.{characters}
use Rattle.ascii.specs.Split.{split, every_part}

abbrev pub is_token : Option ℕ → List ℕ → Bool
is_token None token = non_empty token
is_token (Some len) token = non_empty token && characters token ≡ᵇ len

unfoldable pub is_multi_value_list : Option ℕ → List ℕ → Bool
is_multi_value_list token_len value = every_part (is_token token_len) (split (code " ") value)
