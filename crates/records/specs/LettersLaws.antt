-- Laws of the letters of a T in a word (`Records.antt`): what a look at each byte says, up to the first that is 0, of `holds_letters` and of the number that the
-- letters make. Assumes nothing.
--
--   second_of word, third_of word, fourth_of word    the letters from the second, third, fourth on
--   number_behind high bytes                       the number that `high` makes with the bytes written behind it, where they are digits
--   NumberSoFar word high bytes                   the letters before the bytes are digits and make `high`
use Rattle.std.specs.Prelude.{◌≡◌, ℕ, ◌+◌, ◌*◌, ◌-◌, ◌^◌, ◌<◌, Bool, ◌&&◌, cond, if◌then◌else◌, Option, Some, None}
use Rattle.std.proofs.Math.Path.{refl}
use Rattle.std.proofs.Common.{◌∙◌}
use Rattle.std.proofs.Math.Bool.{true, false}
use mathlib.Core.List.{List, [], ◌∷◌}
use borrow.Author.Tests.{lt-ltb, eq-eqb, ne_eqb}
use Rattle.ascii.specs.Notation.{◌<ᵇ◌}
use Rattle.ascii.specs.NotationLaws.{and-false}
use Rattle.ascii.specs.Bytes.{non_empty, every}
use Rattle.ascii.specs.Digits.{is_digit, decimal_from}
use Rattle.lines.specs.LineParts.{no_leading_zero, number_of, is_alphanumeric}
use Rattle.records.specs.Records.{byte0, byte1, byte2, byte3, is_zero, holds_byte, holds_part, letters_length, letters_text, holds_letters}

-- ---- the bytes of a T

abbrev pub fourth_of : ℕ → List ℕ
fourth_of word = if is_zero (byte3 word) then [] else byte3 word ∷ []

abbrev pub third_of : ℕ → List ℕ
third_of word = if is_zero (byte2 word) then [] else byte2 word ∷ fourth_of word

abbrev pub second_of : ℕ → List ℕ
second_of word = if is_zero (byte1 word) then [] else byte1 word ∷ third_of word

module _ (word : ℕ) where
  text-by : (one two three : Bool) → is_zero (byte1 word) ≡ one → is_zero (byte2 word) ≡ two → is_zero (byte3 word) ≡ three
      → letters_text word ≡ byte0 word ∷ cond one [] (byte1 word ∷ cond two [] (byte2 word ∷ cond three [] (byte3 word ∷ [])))
  unfolding letters_text letters_length
  text-by true two three ends second third = rw ends
  text-by false true three goes ends third = rw (goes, ends)
  text-by false false true goes on ends = rw (goes, on, ends)
  text-by false false false goes on further = rw (goes, on, further)

  pub letters_text-parts : letters_text word ≡ byte0 word ∷ second_of word
  letters_text-parts = text-by _ _ _ refl refl refl

  holds_by : (one two three : Bool) → is_zero (byte1 word) ≡ one → is_zero (byte2 word) ≡ two → is_zero (byte3 word) ≡ three
      → holds_letters word
      ≡ is_alphanumeric (byte0 word) && cond one (two && three) (is_alphanumeric (byte1 word) && cond two three (is_alphanumeric (byte2 word) && cond three true (is_alphanumeric (byte3 word))))
  unfolding holds_letters holds_part holds_byte letters_length
  holds_by true two three ends second third = rw (ends, second, third)
  holds_by false true three goes ends third = rw (goes, ends, third)
  holds_by false false true goes on ends = rw (goes, on, ends)
  holds_by false false false goes on further = rw (goes, on, further)

  pub holds_letters-parts : holds_letters word
      ≡ is_alphanumeric (byte0 word)
      && cond (is_zero (byte1 word)) (is_zero (byte2 word) && is_zero (byte3 word))
      (is_alphanumeric (byte1 word)
      && cond (is_zero (byte2 word)) (is_zero (byte3 word)) (is_alphanumeric (byte2 word) && cond (is_zero (byte3 word)) true (is_alphanumeric (byte3 word))))
  holds_letters-parts = holds_by _ _ _ refl refl refl

-- ---- the number that they make

abbrev number_behind : ℕ → List ℕ → Option ℕ
number_behind high bytes = if every is_digit bytes && decimal_from high bytes <ᵇ 2 ^ 32 then Some (decimal_from high bytes) else None

abbrev pub NumberSoFar : ℕ → ℕ → List ℕ → Type 0
NumberSoFar word high bytes = number_of (letters_text word) ≡ number_behind high bytes

number_of_first : (first : ℕ) (rest : List ℕ) → no_leading_zero (first ∷ rest) ≡ true → is_digit first ≡ true
    → number_of (first ∷ rest) ≡ number_behind (0 * 10 + (first - 48)) rest
unfolding number_of non_empty
number_of_first first rest plain digit = rw (plain, digit)

module _ (word : ℕ) where
  pub number_no_digit : is_digit (byte0 word) ≡ false → number_of (letters_text word) ≡ None
  unfolding number_of non_empty
  number_no_digit other = rw (letters_text-parts word, other, and-false (no_leading_zero (byte0 word ∷ second_of word)))

  pub number_leading_zero : (byte1 word ≡ 0 → ⊥) → byte0 word ≡ 48 → number_of (letters_text word) ≡ None
  unfolding number_of no_leading_zero
  number_leading_zero more leads = rw (letters_text-parts word, ne_eqb (byte1 word) 0 more, eq-eqb (byte0 word) 48 leads)

  module _ (high : ℕ) (digit : is_digit (byte0 word) ≡ true) (same : high ≡ 0 * 10 + (byte0 word - 48)) where
    pub number_of_one : byte1 word ≡ 0 → high < 2 ^ 32 → number_of (letters_text word) ≡ Some high
    unfolding no_leading_zero
    number_of_one ends few =
        let so_far : NumberSoFar word high [] = rw (letters_text-parts word, eq-eqb (byte1 word) 0 ends, same) (number_of_first (byte0 word) [] refl digit) in
        so_far ∙ rw (lt-ltb high (2 ^ 32) few)

    pub number_begins : (byte1 word ≡ 0 → ⊥) → (byte0 word ≡ 48 → ⊥) → NumberSoFar word high (byte1 word ∷ third_of word)
    unfolding no_leading_zero
    number_begins more plain =
        rw (letters_text-parts word, ne_eqb (byte1 word) 0 more, same) (number_of_first (byte0 word) (byte1 word ∷ third_of word) (rw (ne_eqb (byte0 word) 48 plain)) digit)

  module _ (high byte : ℕ) where
    pub number_stops : (rest : List ℕ) → NumberSoFar word high (byte ∷ rest) → is_digit byte ≡ false → number_of (letters_text word) ≡ None
    number_stops rest so_far other = so_far ∙ rw other

    module _ (more : ℕ) (digit : is_digit byte ≡ true) (same : more ≡ high * 10 + (byte - 48)) where
      pub number_of_all : NumberSoFar word high (byte ∷ []) → more < 2 ^ 32 → number_of (letters_text word) ≡ Some more
      number_of_all so_far few = so_far ∙ rw (digit, ← same, lt-ltb more (2 ^ 32) few)

      module _ (next : ℕ) (behind : List ℕ) (so_far : NumberSoFar word high (byte ∷ cond (is_zero next) [] (next ∷ behind))) where
        pub number_ends : next ≡ 0 → more < 2 ^ 32 → number_of (letters_text word) ≡ Some more
        number_ends ends few = number_of_all (so_far ∙ rw (eq-eqb next 0 ends)) few

        pub number_goes_on : (next ≡ 0 → ⊥) → NumberSoFar word more (next ∷ behind)
        number_goes_on some = so_far ∙ rw (ne_eqb next 0 some, digit, same)
