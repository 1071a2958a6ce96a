-- Laws of `MultiValue.antt`: what `is_token` says of an empty token, of one of any length, and of one of a set length. Assumes nothing.
use Rattle.std.specs.Prelude.{◌≡◌, ℕ, true, false, List, eqb, length, Option, Some, None}
use Rattle.ascii.specs.BytesLaws.{non_empty-none, non_empty-some}
use Rattle.characters.specs.Characters.{characters}
use Rattle.multi_values.specs.MultiValue.{is_token}

-- ---- is_token

module _ (token : List ℕ) where
  pub is_token-empty : (token_len : Option ℕ) → length token ≡ 0 → is_token token_len token ≡ false
  is_token-empty None empty = non_empty-none token empty
  is_token-empty (Some len) empty = rw (non_empty-none token empty)

  module _ (some_byte : length token ≡ 0 → ⊥) where
    pub is_token-any : (token_len : Option ℕ) → token_len ≡ None → is_token token_len token ≡ true
    is_token-any token_len any = rw (any, non_empty-some token some_byte)

    pub is_token-exactly : (token_len : Option ℕ) (len count : ℕ) → token_len ≡ Some len → count ≡ characters token
        → is_token token_len token ≡ eqb count len
    is_token-exactly token_len len count exactly counted = rw (exactly, non_empty-some token some_byte, counted)
