-- ASCII letters. FIX 4.4 writes a Country by two letters (ISO 3166) and a Currency by three (ISO 4217).
-- A letter is one of ASCII's, as in the Rust: "exactly `len` ASCII alphabetic characters" (schema.rs, `is_alpha_of_len`). Assumes nothing.
--
--   is_upper byte             the byte is one of A to Z
--   is_lower byte             the byte is one of a to z
--   is_letter byte            the byte is a letter
--   is_alpha_of_len len value   the value is exactly `len` letters
use Rattle.std.specs.Prelude.{ℕ, Bool, ◌&&◌, ◌||◌, List, length}
use Prim.Native.Char.{code}
use Rattle.ascii.specs.Notation.{◌≡ᵇ◌, is_between}
use Rattle.ascii.specs.Bytes.{every}

abbrev pub is_upper : ℕ → Bool
is_upper byte = is_between (code "A") (code "Z") byte

abbrev pub is_lower : ℕ → Bool
is_lower byte = is_between (code "a") (code "z") byte

abbrev pub is_letter : ℕ → Bool
is_letter byte = is_upper byte || is_lower byte

abbrev pub is_alpha_of_len : ℕ → List ℕ → Bool
is_alpha_of_len len value = length value ≡ᵇ len && every is_letter value
