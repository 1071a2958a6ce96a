-- Laws of `FieldType.antt`. Assumes nothing.
--
--   NoneBelow count number   the number is none of those below the count
use Rattle.std.specs.Prelude.{◌≡◌, ℕ, zero, suc, ◌≤◌, None}
use Rattle.std.proofs.Common.{ap, sym, arith, le-ltb}
use Rattle.field_types.specs.FieldType.{type_numbered}

-- the type of a number that is known
pub type_numbered-at : (known number : ℕ) → number ≡ known → type_numbered known ≡ type_numbered number
type_numbered-at known number same = ap type_numbered (sym same)

abbrev pub NoneBelow : ℕ → ℕ → Type 0
NoneBelow zero number = Unit
NoneBelow (suc count) number = NoneBelow count number × (number ≡ count → ⊥)

pub none_below : (count number : ℕ) → NoneBelow count number → count ≤ number
none_below zero number none = omega arith
none_below (suc count) number none = omega (arith, none_below count number none.0, none.1)

pub type_numbered-behind : (number : ℕ) → NoneBelow 34 number → None ≡ type_numbered number
unfolding type_numbered
type_numbered-behind number none = rw (le-ltb number 34 (none_below 34 number none))
