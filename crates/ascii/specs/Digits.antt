-- ASCII digits, and the number that a run of them makes. FIX 4.4 writes every number with the characters 0 to 9 (data type int).
-- A digit is one of ASCII's, as in the Rust: "a non-empty run of ASCII digits" (schema.rs, `is_integer`). Assumes nothing.
--
--   is_digit byte            the byte is one of 0 to 9
--   is_digits value          "a non-empty run of ASCII digits"
--   is_digits_of_len len value "exactly `len` ASCII digits" (schema.rs, `is_digits_of_len`)
--   decimal_from high value  the number that `high` makes with the digits of the value written after it
--   decimal value           the number that the digits of the value make
use Rattle.std.specs.Prelude.{ℕ, ◌+◌, ◌*◌, ◌-◌, Bool, ◌&&◌, List, length}
use Rattle.std.specs.List.{fold}
use Prim.Native.Char.{code}
use Rattle.ascii.specs.Notation.{◌≡ᵇ◌, is_between}
use Rattle.ascii.specs.Bytes.{non_empty, every}

abbrev pub is_digit : ℕ → Bool
is_digit byte = is_between (code "0") (code "9") byte

abbrev pub is_digits : List ℕ → Bool
is_digits value = non_empty value && every is_digit value

abbrev pub is_digits_of_len : ℕ → List ℕ → Bool
is_digits_of_len len value = length value ≡ᵇ len && every is_digit value

abbrev pub decimal_from : ℕ → List ℕ → ℕ
decimal_from high value = fold (λ number byte. number * 10 + (byte - code "0")) high value

abbrev pub decimal : List ℕ → ℕ
decimal value = decimal_from 0 value
