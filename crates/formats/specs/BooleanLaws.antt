-- Laws of `Boolean.antt`: what `is_boolean` finds. Assumes nothing.
use Rattle.std.specs.Prelude.{◌≡◌, refl, ℕ, true, false, ◌&&◌, ◌||◌, List, [], ◌∷◌, eqb, length, get_or}
use Rattle.std.proofs.Common.{arith, eq-eqb, ne_eqb}
use Rattle.formats.specs.Boolean.{is_boolean}

-- as a test of the length and of the first byte answers it
pub is_boolean_is : (value : List ℕ) → is_boolean value ≡ (eqb (length value) 1 && (eqb (get_or value 0 0) 89 || eqb (get_or value 0 0) 78))
unfolding is_boolean
is_boolean_is [] = refl
is_boolean_is (byte ∷ []) = refl
is_boolean_is (byte ∷ next ∷ rest) = rw (ne_eqb (length (byte ∷ next ∷ rest)) 1 (λ one. omega arith))

pub is_boolean-other_length : (value : List ℕ) → (length value ≡ 1 → ⊥) → is_boolean value ≡ false
unfolding is_boolean
is_boolean-other_length [] other = refl
is_boolean-other_length (byte ∷ []) other = absurd (other refl)
is_boolean-other_length (byte ∷ next ∷ rest) other = refl

pub is_boolean-one_byte : (value : List ℕ) → length value ≡ 1 → is_boolean value ≡ (eqb (get_or value 0 0) 89 || eqb (get_or value 0 0) 78)
unfolding is_boolean
is_boolean-one_byte [] one = absurd (omega arith)
is_boolean-one_byte (byte ∷ []) one = refl
is_boolean-one_byte (byte ∷ next ∷ rest) one = absurd (omega arith)

module _ (value : List ℕ) (one : length value ≡ 1) where
  pub is_boolean-yes : get_or value 0 0 ≡ 89 → is_boolean value ≡ true
  is_boolean-yes is-yes = rw (is_boolean-one_byte value one, eq-eqb (get_or value 0 0) 89 is-yes)

  pub is_boolean-not_yes : (get_or value 0 0 ≡ 89 → ⊥) → is_boolean value ≡ eqb (get_or value 0 0) 78
  is_boolean-not_yes other = rw (is_boolean-one_byte value one, ne_eqb (get_or value 0 0) 89 other)
