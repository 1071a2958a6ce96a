-- Laws of `Letters.antt`, in its order. Assumes nothing.
use Rattle.std.specs.Prelude.{◌≡◌, ℕ, true, false, List, length}
use Rattle.std.proofs.Common.{eq-eqb, ne_eqb}
use Rattle.ascii.specs.Bytes.{every}
use Rattle.ascii.specs.Letters.{is_upper, is_lower, is_letter, is_alpha_of_len}

-- ---- is_letter

module _ (byte : ℕ) where
  pub is_letter-upper : is_upper byte ≡ true → is_letter byte ≡ true
  is_letter-upper upper = rw upper

  pub is_letter-not_upper : is_upper byte ≡ false → is_letter byte ≡ is_lower byte
  is_letter-not_upper other = rw other

-- ---- is_alpha_of_len

module _ (value : List ℕ) (len : ℕ) where
  pub is_alpha_of_len-other_length : (length value ≡ len → ⊥) → is_alpha_of_len len value ≡ false
  is_alpha_of_len-other_length other = rw (ne_eqb (length value) len other)

  pub is_alpha_of_len-length : length value ≡ len → is_alpha_of_len len value ≡ every is_letter value
  is_alpha_of_len-length same = rw (eq-eqb (length value) len same)
