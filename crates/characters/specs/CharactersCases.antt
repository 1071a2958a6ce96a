-- Examples of `characters`, by computation: invalid parts, and the first and last of the rows that are narrower than 80 to BF. Assumes nothing.
use Rattle.std.specs.Prelude.{◌≡◌, refl, [], ◌∷◌}
use Rattle.ascii.specs.Notation.{is_between}
use Rattle.ascii.specs.Bytes.{ascii}
use Rattle.characters.specs.Characters.{expected_after, continues, characters_from, characters}

pub record CharactersCases : Type 0 where
  pub empty : characters [] ≡ 0
  pub letters : characters (ascii "AB") ≡ 2
  -- whole characters of two, three and four bytes
  pub pound : characters (0xC2 ∷ 0xA3 ∷ []) ≡ 1
  pub euro : characters (0xE2 ∷ 0x82 ∷ 0xAC ∷ []) ≡ 1
  pub smile : characters (0xF0 ∷ 0x9F ∷ 0x98 ∷ 0x80 ∷ []) ≡ 1
  pub two_euros : characters (0xE2 ∷ 0x82 ∷ 0xAC ∷ 0xE2 ∷ 0x82 ∷ 0xAC ∷ []) ≡ 2
  -- a byte that begins no character
  pub no_lead : characters (0xFF ∷ []) ≡ 1
  pub lone_continuation : characters (0x80 ∷ 0x80 ∷ []) ≡ 2
  -- a character that is broken off
  pub broken_off : characters (0xE2 ∷ 0x82 ∷ []) ≡ 1
  pub broken_off_by_a_letter : characters (0xE2 ∷ 0x82 ∷ 0x41 ∷ []) ≡ 2
  -- longer forms than needed, surrogates, numbers over 10FFFF
  pub overlong_two : characters (0xC0 ∷ 0x80 ∷ []) ≡ 2
  pub overlong_three : characters (0xE0 ∷ 0x9F ∷ 0xBF ∷ []) ≡ 3
  pub surrogate : characters (0xED ∷ 0xA0 ∷ 0x80 ∷ []) ≡ 3
  pub last_before_surrogates : characters (0xED ∷ 0x9F ∷ 0xBF ∷ []) ≡ 1
  pub overlong_four : characters (0xF0 ∷ 0x8F ∷ 0xBF ∷ 0xBF ∷ []) ≡ 4
  pub too_large : characters (0xF4 ∷ 0x90 ∷ 0x80 ∷ 0x80 ∷ []) ≡ 4
  pub largest : characters (0xF4 ∷ 0x8F ∷ 0xBF ∷ 0xBF ∷ []) ≡ 1

pub characters-cases : CharactersCases
unfolding is_between expected_after continues characters_from characters
characters-cases = record {
  empty = refl;
  letters = refl;
  pound = refl;
  euro = refl;
  smile = refl;
  two_euros = refl;
  no_lead = refl;
  lone_continuation = refl;
  broken_off = refl;
  broken_off_by_a_letter = refl;
  overlong_two = refl;
  overlong_three = refl;
  surrogate = refl;
  last_before_surrogates = refl;
  overlong_four = refl;
  too_large = refl;
  largest = refl;
}
