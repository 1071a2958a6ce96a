-- FIX's data type Boolean: "value == "Y" || value == "N"" (schema.rs, `is_valid_value`). Assumes nothing.
--
--   is_boolean value   the value is the one byte Y or the one byte N
use Rattle.std.specs.Prelude.{ℕ, Bool, false, ◌||◌, List, [], ◌∷◌}
use Prim.Native.Char.{code}
use Rattle.ascii.specs.Notation.{◌≡ᵇ◌}

unfoldable pub is_boolean : List ℕ → Bool
is_boolean [] = false
is_boolean (byte ∷ []) = byte ≡ᵇ code "Y" || byte ≡ᵇ code "N"
is_boolean (byte ∷ next ∷ rest) = false
