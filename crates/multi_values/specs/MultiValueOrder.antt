-- A value cut at its spaces first and counted by tokens, as `is_multi_value_list` does, or turned into characters first and cut then, as the
-- Rust does: the answer is the same. Characters stand here by their first bytes, `leads`; a character is a space where that is 20. Assumes nothing.
--
--   is_token_of token_len token        the Rust's test of a token, on its characters: non-empty, and so many where `token_len` is set
--   leads_of_parts expected parts     each part by the first bytes of its characters; before the first part a character is open that expects this
--   cut-before-or-behind            the theorem
use Rattle.std.specs.Prelude.{◌≡◌, ℕ, ◌<◌, Bool, ◌&&◌, eqb, length, Option, Some, None}
use Rattle.std.proofs.Math.Path.{refl, sym, ap}
use Rattle.std.proofs.Common.{◌∙◌}
use Prim.Native.Char.{code}
use Rattle.std.proofs.Math.Bool.{true, false}
use Rattle.std.proofs.lemmas.Bool.{false≢true}
use mathlib.Core.List.{List, [], ◌∷◌}
use native.Mathlib.Omega.{arith}
use borrow.Author.Tests.{eqb-true}
use Rattle.characters.specs.declared.characters.Expected.{Expected}
use Rattle.ascii.specs.Notation.{◌≡ᵇ◌}
use Rattle.ascii.specs.Bytes.{non_empty}
use Rattle.characters.specs.Characters.{nothing_expected, expected_after, continues, next, leads_from, leads}
use Rattle.characters.specs.CharactersLaws.{
  BehindAscii,
  expected_after-below,
  expected_after-behind,
  continues-ascii,
  leads_from-continues,
  leads_from-begins,
  length-leads,
  non_empty-leads,
}
use Rattle.ascii.specs.Split.{Parts, last, part, with_first, split, every_part}
use Rattle.multi_values.specs.MultiValue.{is_token, is_multi_value_list}

unfoldable pub is_token_of : Option ℕ → List ℕ → Bool
is_token_of None token = non_empty token
is_token_of (Some len) token = non_empty token && length token ≡ᵇ len

unfoldable pub leads_of_parts : Expected → Parts → Parts
leads_of_parts expected (last bytes) = last (leads_from expected bytes)
leads_of_parts expected (part bytes others) = part (leads_from expected bytes) (leads_of_parts nothing_expected others)

-- ---- leads_of_parts of parts with a byte before them

module _ (expected : Expected) (byte : ℕ) where
  leads_of_parts-continues : continues expected byte ≡ true → (parts : Parts)
      → leads_of_parts expected (with_first byte parts) ≡ leads_of_parts (next expected) parts
  unfolding leads_of_parts with_first
  leads_of_parts-continues going_on (last bytes) = rw (leads_from-continues expected byte bytes going_on)
  leads_of_parts-continues going_on (part bytes others) = rw (leads_from-continues expected byte bytes going_on)

  leads_of_parts-begins : continues expected byte ≡ false → (parts : Parts)
      → leads_of_parts expected (with_first byte parts) ≡ with_first byte (leads_of_parts (expected_after byte) parts)
  unfolding leads_of_parts with_first
  leads_of_parts-begins other (last bytes) = rw (leads_from-begins expected byte bytes other)
  leads_of_parts-begins other (part bytes others) = rw (leads_from-begins expected byte bytes other)

-- ---- characters cut at an ASCII separator

module _ (separator : ℕ) (small : separator < 0x80) where
  split-leads_by : (expected : Expected) → BehindAscii expected → (byte : ℕ) (rest : List ℕ) (going_on same : Bool)
      → continues expected byte ≡ going_on
      → eqb byte separator ≡ same
      → split separator (leads_from (next expected) rest) ≡ leads_of_parts (next expected) (split separator rest)
      → split separator (leads_from (expected_after byte) rest) ≡ leads_of_parts (expected_after byte) (split separator rest)
      → split separator (leads_from expected (byte ∷ rest)) ≡ leads_of_parts expected (split separator (byte ∷ rest))
  unfolding split leads_of_parts leads_from
  split-leads_by expected range byte rest true true continued separates of-next of-begun =
      absurd (false≢true (sym (continues-ascii expected byte range (omega (arith, eqb-true byte separator separates))) ∙ continued))
  split-leads_by expected range byte rest true false continued other of-next of-begun =
      rw (continued, other) (of-next ∙ sym (leads_of_parts-continues expected byte continued (split separator rest)))
  split-leads_by expected range byte rest false true begun separates of-next of-begun =
      let none : expected_after byte ≡ nothing_expected = expected_after-below byte (omega (arith, eqb-true byte separator separates)) in
      rw (begun, separates) (ap (part []) (of-begun ∙ ap (λ (state : Expected). leads_of_parts state (split separator rest)) none))
  split-leads_by expected range byte rest false false begun other of-next of-begun =
      rw (begun, other) (ap (with_first byte) of-begun ∙ sym (leads_of_parts-begins expected byte begun (split separator rest)))

  split-leads_from : (expected : Expected) → BehindAscii expected → (value : List ℕ)
      → split separator (leads_from expected value) ≡ leads_of_parts expected (split separator value)
  unfolding split leads_of_parts leads_from
  split-leads_from expected range [] = refl
  split-leads_from expected range (byte ∷ rest) =
      split-leads_by
      expected
      range
      byte
      rest
      (continues expected byte)
      (eqb byte separator)
      refl
      refl
      (split-leads_from (next expected) (record { from = omega arith }) rest)
      (split-leads_from (expected_after byte) (expected_after-behind byte) rest)

  pub split-leads : (value : List ℕ) → split separator (leads value) ≡ leads_of_parts nothing_expected (split separator value)
  split-leads value = split-leads_from nothing_expected (record { from = omega arith }) value

-- ---- tokens

pub is_token-leads : (token_len : Option ℕ) (token : List ℕ) → is_token_of token_len (leads token) ≡ is_token token_len token
unfolding is_token_of
is_token-leads None token = non_empty-leads token
is_token-leads (Some len) token = rw (non_empty-leads token, length-leads token)

every_part-leads : (token_len : Option ℕ) (parts : Parts)
    → every_part (is_token_of token_len) (leads_of_parts nothing_expected parts) ≡ every_part (is_token token_len) parts
unfolding every_part leads_of_parts
every_part-leads token_len (last bytes) = is_token-leads token_len bytes
every_part-leads token_len (part bytes others) = rw (is_token-leads token_len bytes, every_part-leads token_len others)

pub cut-before_or_behind : (token_len : Option ℕ) (value : List ℕ)
    → is_multi_value_list token_len value ≡ every_part (is_token_of token_len) (split (code " ") (leads value))
unfolding is_multi_value_list
cut-before_or_behind token_len value =
    sym (ap (every_part (is_token_of token_len)) (split-leads (code " ") (omega arith) value) ∙ every_part-leads token_len (split (code " ") value))
