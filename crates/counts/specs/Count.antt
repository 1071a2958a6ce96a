-- The value of a count field (FIX: NumInGroup): "one or more digits making n below 2^64" (document 01, 'Reading of a group').
-- The Rust's `parse_count` (walk.rs) gives the same: no sign, leading zeros allowed. Assumes nothing.
--
--   count_of value   the number that a count field of this value declares, or None where it declares none
use Rattle.std.specs.Prelude.{ℕ, ◌^◌, ◌&&◌, List, if◌then◌else◌, Option, Some, None}
use Rattle.ascii.specs.Notation.{◌<ᵇ◌}
use Rattle.ascii.specs.Digits.{is_digits, decimal}

abbrev pub count_of : List ℕ → Option ℕ
count_of value =
    if is_digits value && decimal value <ᵇ 2 ^ 64
    then Some (decimal value)
    else None
