-- Laws of the bytes in words (`Records.antt`, `LineTexts.antt`): a T is read from `letters_text`, a V from `value_text`. Assumes nothing.
use Rattle.std.specs.Prelude.{◌≡◌, ℕ, zero, suc, ◌+◌, ◌*◌, ◌-◌, ◌/◌, ◌%◌, ◌^◌, ◌≤◌, ◌<◌, min, Bool, true, false, ◌&&◌, cond, List, [], ◌∷◌, leb, eqb, length, get_or, take, drop, Some}
use Rattle.std.proofs.Math.Path.{refl}
use Rattle.std.proofs.Common.{sym, ap, ◌∙◌, append-nil, length-take-le, take_all}
use Rattle.std.proofs.lemmas.Bool.{false≢true}
use native.Mathlib.Omega.{arith}
use Rattle.std.proofs.Math.Arith.{mod-mul}
use Rattle.std.proofs.Math.ListN.{get_or-eq_default}
use Rattle.std.proofs.Math.Seq.{take-nil}
use borrow.Author.Tests.{leb-true, leb-false, eqb-true, eq-eqb, ne_eqb}
use Rattle.ascii.specs.NotationLaws.{and_left, and_right, and-true, and-false, and_assoc}
use Rattle.ascii.specs.Bytes.{every}
use Rattle.ascii.specs.BytesLaws.{drop-step}
use Rattle.lines.specs.declared.line_parts.Admitted.{Admitted}
use Rattle.lines.specs.LineParts.{flag_of, word_at, is_alphanumeric, message_type_of, is_visible, admitted_bytes, value_of}
use Rattle.lines.specs.LinePartsLaws.{message_type_of-letters, value_of_bytes}
use Rattle.records.specs.Records.{byte0, byte1, byte2, byte3, bytes_of, is_zero, holds_byte, holds_part, letters_length, letters_text, holds_letters, holds_value, value_words, is_unused}
use Rattle.records.specs.RecordsLaws.{holds_byte-inside, holds_byte-behind}
use Rattle.records.specs.LineTexts.{flag_text, bytes_from, value_text}
use Rattle.records.specs.NumeralLaws.{every_append, every-weaker, is_above, alphanumeric_above}

-- ---- flag_text

pub flag_of-flag_text : (required : Bool) → flag_of (flag_text required) ≡ cond required (Some true) (Some false)
unfolding flag_of
flag_of-flag_text true = refl
flag_of-flag_text false = refl

-- ---- the bytes of a word

-- the first `left` bytes of the word pass the test, and behind them it has only zeros
pub record PartHeld (test : ℕ → Bool) (left word : ℕ) : Type 0 where
  pub passes : every test (take left (bytes_of word)) ≡ true
  pub at0 : get_or (take left (bytes_of word)) 0 0 ≡ byte0 word
  pub at1 : get_or (take left (bytes_of word)) 1 0 ≡ byte1 word
  pub at2 : get_or (take left (bytes_of word)) 2 0 ≡ byte2 word
  pub at3 : get_or (take left (bytes_of word)) 3 0 ≡ byte3 word

module _ (test : ℕ → Bool) (left word : ℕ) (held : holds_part test left word ≡ true) where
  held_by : (one two three four : Bool) → one && (two && (three && four)) ≡ true → (one ≡ true) × ((two ≡ true) × ((three ≡ true) × (four ≡ true)))
  held_by one two three four all =
      let second = and_right one (two && (three && four)) all in
      let third = and_right two (three && four) second in
      (and_left one (two && (three && four)) all, (and_left two (three && four) second, (and_left three four third, and_right three four third)))

  four-held : (holds_byte test left 0 (byte0 word) ≡ true)
      × ((holds_byte test left 1 (byte1 word) ≡ true) × ((holds_byte test left 2 (byte2 word) ≡ true) × (holds_byte test left 3 (byte3 word) ≡ true)))
  unfolding holds_part
  four-held = held_by (holds_byte test left 0 (byte0 word)) (holds_byte test left 1 (byte1 word)) (holds_byte test left 2 (byte2 word)) (holds_byte test left 3 (byte3 word)) held

  passes_at : (index byte : ℕ) → index < left → holds_byte test left index byte ≡ true → test byte ≡ true
  passes_at index byte inside holds = sym (holds_byte-inside test left index byte inside) ∙ holds

  zero_at : (index byte : ℕ) → left ≤ index → holds_byte test left index byte ≡ true → 0 ≡ byte
  zero_at index byte behind' holds = sym (eqb-true byte 0 (sym (holds_byte-behind test left index byte behind') ∙ holds))

pub part_held : (test : ℕ → Bool) (left word : ℕ) → holds_part test left word ≡ true → PartHeld test left word
part_held test zero word held =
    let bytes = four-held test 0 word held in
    record {
      passes = refl;
      at0 = zero_at test 0 word held 0 (byte0 word) (omega arith) bytes.0;
      at1 = zero_at test 0 word held 1 (byte1 word) (omega arith) bytes.1.0;
      at2 = zero_at test 0 word held 2 (byte2 word) (omega arith) bytes.1.1.0;
      at3 = zero_at test 0 word held 3 (byte3 word) (omega arith) bytes.1.1.1;
    }
part_held test (suc zero) word held =
    let bytes = four-held test 1 word held in
    record {
      passes = rw (passes_at test 1 word held 0 (byte0 word) (omega arith) bytes.0);
      at0 = refl;
      at1 = zero_at test 1 word held 1 (byte1 word) (omega arith) bytes.1.0;
      at2 = zero_at test 1 word held 2 (byte2 word) (omega arith) bytes.1.1.0;
      at3 = zero_at test 1 word held 3 (byte3 word) (omega arith) bytes.1.1.1;
    }
part_held test (suc (suc zero)) word held =
    let bytes = four-held test 2 word held in
    record {
      passes = rw (passes_at test 2 word held 0 (byte0 word) (omega arith) bytes.0, passes_at test 2 word held 1 (byte1 word) (omega arith) bytes.1.0);
      at0 = refl;
      at1 = refl;
      at2 = zero_at test 2 word held 2 (byte2 word) (omega arith) bytes.1.1.0;
      at3 = zero_at test 2 word held 3 (byte3 word) (omega arith) bytes.1.1.1;
    }
part_held test (suc (suc (suc zero))) word held =
    let bytes = four-held test 3 word held in
    record {
      passes =
          rw (
            passes_at test 3 word held 0 (byte0 word) (omega arith) bytes.0,
            passes_at test 3 word held 1 (byte1 word) (omega arith) bytes.1.0,
            passes_at test 3 word held 2 (byte2 word) (omega arith) bytes.1.1.0,
          );
      at0 = refl;
      at1 = refl;
      at2 = refl;
      at3 = zero_at test 3 word held 3 (byte3 word) (omega arith) bytes.1.1.1;
    }
part_held test (suc (suc (suc (suc more)))) word held =
    let left : ℕ = suc (suc (suc (suc more))) in
    let bytes = four-held test left word held in
    record {
      passes =
          rw (
            take-nil {A = ℕ} more,
            passes_at test left word held 0 (byte0 word) (omega arith) bytes.0,
            passes_at test left word held 1 (byte1 word) (omega arith) bytes.1.0,
            passes_at test left word held 2 (byte2 word) (omega arith) bytes.1.1.0,
            passes_at test left word held 3 (byte3 word) (omega arith) bytes.1.1.1,
          );
      at0 = refl;
      at1 = refl;
      at2 = refl;
      at3 = refl;
    }

-- a part without bytes is the word 0

none-held : (test : ℕ → Bool) (word : ℕ) → word ≡ 0 → holds_part test 0 word ≡ true
unfolding holds_part holds_byte
none-held test word zero_word = rw (zero_word)

module _ (word : ℕ) where
  no_highest : 0 ≡ byte0 word → word < 16777216
  no_highest none = omega arith

  no_high : word < 16777216 → 0 ≡ byte1 word → word < 65536
  no_high below none = omega arith

  no_low : word < 65536 → 0 ≡ byte2 word → word < 256
  no_low below none = omega arith

  no_lowest : word < 256 → 0 ≡ byte3 word → word ≡ 0
  no_lowest below none = omega arith

part-empty_by : (test : ℕ → Bool) (word : ℕ) (held : Bool) → holds_part test 0 word ≡ held → held ≡ eqb word 0
part-empty_by test word true held =
    let part = part_held test 0 word held in
    let high : word < 65536 = no_high word (no_highest word part.at0) part.at1 in
    sym (eq-eqb word 0 (no_lowest word (no_low word high part.at2) part.at3))
part-empty_by test word false other = sym (ne_eqb word 0 (λ zero_word. false≢true (sym other ∙ none-held test word zero_word)))

pub part-empty : (test : ℕ → Bool) (word : ℕ) → holds_part test 0 word ≡ eqb word 0
part-empty test word = part-empty_by test word (holds_part test 0 word) refl

-- the words behind the bytes of a value are 0

holds_value-none : (words : List ℕ) → holds_value 0 words ≡ every is_zero words
unfolding holds_value
holds_value-none [] = refl
holds_value-none (word ∷ rest) = rw (part-empty is_visible word, holds_value-none rest)

-- the bytes of a record that says at most four stand in one word
module _ (words : List ℕ) (ten : length words ≡ 10) (len : ℕ) (few : len ≤ 4) where
  value-in_one : holds_value len (drop 2 words) ≡ holds_part is_visible len (get_or words 2 0) && is_unused 3 words
  unfolding holds_value is_unused
  value-in_one =
      let none : len - 4 ≡ 0 = omega arith in
      rw (drop-step words 2 (omega arith), none, holds_value-none (drop 3 words))

  pub short-value : is_unused 3 words ≡ true → holds_value len (drop 2 words) ≡ holds_part is_visible len (get_or words 2 0)
  short-value unused = value-in_one ∙ rw unused (and-true (holds_part is_visible len (get_or words 2 0)))

-- a part of one byte

module _ (word : ℕ) where
  abbrev behind_first : Bool
  behind_first = is_zero (byte1 word) && (is_zero (byte2 word) && is_zero (byte3 word))

  behind-first_by : (held : Bool) → behind_first ≡ held → held ≡ eqb (word % 16777216) 0
  behind-first_by true held =
      let others = and_right (is_zero (byte1 word)) (is_zero (byte2 word) && is_zero (byte3 word)) held in
      let first = eqb-true (byte1 word) 0 (and_left (is_zero (byte1 word)) (is_zero (byte2 word) && is_zero (byte3 word)) held) in
      let second = eqb-true (byte2 word) 0 (and_left (is_zero (byte2 word)) (is_zero (byte3 word)) others) in
      let third = eqb-true (byte3 word) 0 (and_right (is_zero (byte2 word)) (is_zero (byte3 word)) others) in
      let low : word % 65536 ≡ 0 = omega arith in
      sym (eq-eqb (word % 16777216) 0 (omega (arith, mod-mul word {m = 256} {c = 65536} (omega arith) (omega arith))))
  behind-first_by false other = sym (ne_eqb (word % 16777216) 0 (λ none. false≢true (sym other ∙ all_none none)))
    where
      all_none : word % 16777216 ≡ 0 → behind_first ≡ true
      all_none none = rw (eq-eqb (byte1 word) 0 (omega arith), eq-eqb (byte2 word) 0 (omega arith), eq-eqb (byte3 word) 0 (omega arith))

  module _ (test : ℕ → Bool) where
    pub part-one : word % 16777216 ≡ 0 → holds_part test 1 word ≡ test (byte0 word)
    unfolding holds_part holds_byte
    part-one none = rw (behind-first_by behind_first refl, eq-eqb (word % 16777216) 0 none) (and-true (test (byte0 word)))

    pub part-one_more : (word % 16777216 ≡ 0 → ⊥) → holds_part test 1 word ≡ false
    unfolding holds_part holds_byte
    part-one_more some = rw (behind-first_by behind_first refl, ne_eqb (word % 16777216) 0 some) (and-false (test (byte0 word)))

-- a part of two bytes or more: first the bytes that are there, then 0

low-zero_by : (word : ℕ) (held : Bool) → is_zero (byte2 word) && is_zero (byte3 word) ≡ held → held ≡ eqb (word % 65536) 0
low-zero_by word true held =
    let third = eqb-true (byte2 word) 0 (and_left (is_zero (byte2 word)) (is_zero (byte3 word)) held) in
    let fourth = eqb-true (byte3 word) 0 (and_right (is_zero (byte2 word)) (is_zero (byte3 word)) held) in
    sym (eq-eqb (word % 65536) 0 (omega arith))
low-zero_by word false other = sym (ne_eqb (word % 65536) 0 (λ none. false≢true (sym other ∙ all_none none)))
  where
    all_none : word % 65536 ≡ 0 → is_zero (byte2 word) && is_zero (byte3 word) ≡ true
    all_none none = rw (eq-eqb (byte2 word) 0 (omega arith), eq-eqb (byte3 word) 0 (omega arith))

module _ (test : ℕ → Bool) (left word : ℕ) where
  pub part-other_first : 1 ≤ left → test (byte0 word) ≡ false → holds_part test left word ≡ false
  unfolding holds_part
  part-other_first some other = rw (holds_byte-inside test left 0 (byte0 word) some, other)

  module _ (first : test (byte0 word) ≡ true) where
    pub part-other_second : 2 ≤ left → test (byte1 word) ≡ false → holds_part test left word ≡ false
    unfolding holds_part
    part-other_second some other = rw (holds_byte-inside test left 0 (byte0 word) (omega arith), first, holds_byte-inside test left 1 (byte1 word) some, other)

    module _ (second : test (byte1 word) ≡ true) where
      pub part-of_two : left ≡ 2 → holds_part test left word ≡ eqb (word % 65536) 0
      unfolding holds_part holds_byte
      part-of_two two = rw (two, first, second) (low-zero_by word _ refl)

      pub part-other_third : 3 ≤ left → test (byte2 word) ≡ false → holds_part test left word ≡ false
      unfolding holds_part
      part-other_third some other =
          rw (
            holds_byte-inside test left 0 (byte0 word) (omega arith),
            first,
            holds_byte-inside test left 1 (byte1 word) (omega arith),
            second,
            holds_byte-inside test left 2 (byte2 word) some,
            other,
          )

      module _ (third : test (byte2 word) ≡ true) where
        pub part-of_three : left ≡ 3 → holds_part test left word ≡ eqb (word % 256) 0
        unfolding holds_part holds_byte
        part-of_three three = rw (three, first, second, third)

        pub part-of_four : 4 ≤ left → holds_part test left word ≡ test (byte3 word)
        unfolding holds_part
        part-of_four some =
            rw (
              holds_byte-inside test left 0 (byte0 word) (omega arith),
              first,
              holds_byte-inside test left 1 (byte1 word) (omega arith),
              second,
              holds_byte-inside test left 2 (byte2 word) (omega arith),
              third,
              holds_byte-inside test left 3 (byte3 word) some,
            )

-- four bytes make the word again
word_of : (bytes : List ℕ) (word : ℕ)
    → get_or bytes 0 0 ≡ byte0 word
    → get_or bytes 1 0 ≡ byte1 word
    → get_or bytes 2 0 ≡ byte2 word
    → get_or bytes 3 0 ≡ byte3 word
    → word_at 0 bytes ≡ word
unfolding word_at
word_of bytes word zeroth first second third = rw (zeroth, first, second, third) (omega arith)

-- ---- the bytes of a word as the code has them

module _ (word : ℕ) (small : word < 2 ^ 32) where
  pub bytes_of-word : word / 16777216 % 256 ∷ word / 65536 % 256 ∷ word / 256 % 256 ∷ word % 256 ∷ [] ≡ bytes_of word
  bytes_of-word = ap (λ first. first ∷ word / 65536 % 256 ∷ word / 256 % 256 ∷ word % 256 ∷ []) (omega arith)

-- the bytes that are to pass the test, and those behind them
module _ (test : ℕ → Bool) (word : ℕ) where
  abbrev split_at : ℕ → Bool
  split_at used = every test (take used (bytes_of word)) && every is_zero (drop used (bytes_of word))

  split-none : holds_part test 0 word ≡ split_at 0
  unfolding holds_part holds_byte
  split-none = rw (and-true (is_zero (byte3 word)))

  split-one : holds_part test 1 word ≡ split_at 1
  unfolding holds_part holds_byte
  split-one = rw (and-true (is_zero (byte3 word)), and-true (test (byte0 word)))

  split-two : holds_part test 2 word ≡ split_at 2
  unfolding holds_part holds_byte
  split-two = rw (and-true (is_zero (byte3 word)), and-true (test (byte1 word)), and_assoc (test (byte0 word)) (test (byte1 word)) (is_zero (byte2 word) && is_zero (byte3 word)))

  split-three : holds_part test 3 word ≡ split_at 3
  unfolding holds_part holds_byte
  split-three =
      rw (and-true (is_zero (byte3 word)), and-true (test (byte2 word)), and_assoc (test (byte0 word)) (test (byte1 word) && test (byte2 word)) (is_zero (byte3 word)))
      (ap (λ rest. test (byte0 word) && rest) (sym (and_assoc (test (byte1 word)) (test (byte2 word)) (is_zero (byte3 word)))))

  split-four : (left : ℕ) → 4 ≤ left → holds_part test left word ≡ split_at 4
  unfolding holds_part
  split-four left all =
      rw (
        holds_byte-inside test left 0 (byte0 word) (omega arith),
        holds_byte-inside test left 1 (byte1 word) (omega arith),
        holds_byte-inside test left 2 (byte2 word) (omega arith),
        holds_byte-inside test left 3 (byte3 word) (omega arith),
        and-true (test (byte3 word)),
        and-true (test (byte0 word) && (test (byte1 word) && (test (byte2 word) && test (byte3 word)))),
      )

  pub holds_part-split : (left used : ℕ) → used ≡ min left 4 → holds_part test left word ≡ split_at used
  holds_part-split zero used same = let none : used ≡ 0 = omega arith in rw none split-none
  holds_part-split (suc zero) used same = let one : used ≡ 1 = omega arith in rw one split-one
  holds_part-split (suc (suc zero)) used same = let two : used ≡ 2 = omega arith in rw two split-two
  holds_part-split (suc (suc (suc zero))) used same = let three : used ≡ 3 = omega arith in rw three split-three
  holds_part-split (suc (suc (suc (suc more)))) used same = let four : used ≡ 4 = omega arith in rw four (split-four (suc (suc (suc (suc more)))) (omega arith))

  -- of more than four bytes there are four
  pub holds_part-four : (left : ℕ) → 4 ≤ left → holds_part test 4 word ≡ holds_part test left word
  holds_part-four left all = split-four 4 (omega arith) ∙ sym (split-four left all)

-- ---- letters_text

pub letters_length-one : (word : ℕ) → byte1 word ≡ 0 → 1 ≡ letters_length word
unfolding letters_length
letters_length-one word ends = rw (eq-eqb (byte1 word) 0 ends)

pub letters_length-two : (word : ℕ) → (byte1 word ≡ 0 → ⊥) → byte2 word ≡ 0 → 2 ≡ letters_length word
unfolding letters_length
letters_length-two word second ends = rw (ne_eqb (byte1 word) 0 second, eq-eqb (byte2 word) 0 ends)

pub letters_length-three : (word : ℕ) → (byte1 word ≡ 0 → ⊥) → (byte2 word ≡ 0 → ⊥) → byte3 word ≡ 0 → 3 ≡ letters_length word
unfolding letters_length
letters_length-three word second third ends = rw (ne_eqb (byte1 word) 0 second, ne_eqb (byte2 word) 0 third, eq-eqb (byte3 word) 0 ends)

pub letters_length-four : (word : ℕ) → (byte1 word ≡ 0 → ⊥) → (byte2 word ≡ 0 → ⊥) → (byte3 word ≡ 0 → ⊥) → 4 ≡ letters_length word
unfolding letters_length
letters_length-four word second third fourth = rw (ne_eqb (byte1 word) 0 second, ne_eqb (byte2 word) 0 third, ne_eqb (byte3 word) 0 fourth)

letters_length-by : (one two three : Bool) → (1 ≤ cond one 1 (cond two 2 (cond three 3 4))) × (cond one 1 (cond two 2 (cond three 3 4)) ≤ 4)
letters_length-by true two three = (omega arith, omega arith)
letters_length-by false true three = (omega arith, omega arith)
letters_length-by false false true = (omega arith, omega arith)
letters_length-by false false false = (omega arith, omega arith)

pub letters_length-range : (word : ℕ) → (1 ≤ letters_length word) × (letters_length word ≤ 4)
unfolding letters_length
letters_length-range word = letters_length-by (eqb (byte1 word) 0) (eqb (byte2 word) 0) (eqb (byte3 word) 0)

module _ (word : ℕ) (small : word < 2 ^ 32) (bytes : List ℕ) (same : bytes ≡ word / 16777216 % 256 ∷ word / 65536 % 256 ∷ word / 256 % 256 ∷ word % 256 ∷ []) (letters : ℕ) (long : letters ≡ letters_length word) where
  pub letters-taken : take letters bytes ≡ letters_text word
  unfolding letters_text
  letters-taken = rw (same, long, bytes_of-word word small)

  pub letters-split : holds_letters word ≡ every is_alphanumeric (take letters bytes) && every is_zero (drop letters bytes)
  unfolding holds_letters
  letters-split =
      let range = letters_length-range word in
      holds_part-split is_alphanumeric word (letters_length word) letters (omega (arith, long, range)) ∙ rw (same, bytes_of-word word small)

pub letters_text-length : (word : ℕ) → length (letters_text word) ≡ letters_length word
unfolding letters_text
letters_text-length word = length-take-le (letters_length word) (bytes_of word) (letters_length-range word).1

module _ (word : ℕ) (held : holds_letters word ≡ true) where
  letters-held : PartHeld is_alphanumeric (letters_length word) word
  unfolding holds_letters
  letters-held = part_held is_alphanumeric (letters_length word) word held

  pub letters_text-letters : every is_alphanumeric (letters_text word) ≡ true
  unfolding letters_text
  letters_text-letters = letters-held.passes

  pub letters_text-above : every (is_above 44) (letters_text word) ≡ true
  letters_text-above = every-weaker is_alphanumeric (is_above 44) (letters_text word) alphanumeric_above letters_text-letters

  letters-word : word_at 0 (letters_text word) ≡ word
  unfolding letters_text
  letters-word = word_of (take (letters_length word) (bytes_of word)) word letters-held.at0 letters-held.at1 letters-held.at2 letters-held.at3

  pub message_type_of-letters_text : message_type_of (letters_text word) ≡ Some word
  message_type_of-letters_text =
      let range = letters_length-range word in
      let len = letters_text-length word in
      message_type_of-letters (letters_text word) (omega arith) (omega arith) letters_text-letters ∙ ap Some letters-word

-- ---- value_text

pub holds_value-length : (left : ℕ) (words : List ℕ) → holds_value left words ≡ true → left ≤ 4 * length words
unfolding holds_value
holds_value-length left [] held = omega (arith, eqb-true left 0 held)
holds_value-length left (word ∷ rest) held =
    omega (arith, holds_value-length (left - 4) rest (and_right (holds_part is_visible left word) (holds_value (left - 4) rest) held))

bytes_from-none : (words : List ℕ) → bytes_from 0 words ≡ []
unfolding bytes_from
bytes_from-none [] = refl
bytes_from-none (word ∷ rest) = bytes_from-none rest

module _ (left word : ℕ) (rest : List ℕ) where
  bytes_from-whole : 4 ≤ left → bytes_from left (word ∷ rest) ≡ byte0 word ∷ byte1 word ∷ byte2 word ∷ byte3 word ∷ bytes_from (left - 4) rest
  unfolding bytes_from
  bytes_from-whole large = rw (take_all left (bytes_of word) large)

  bytes_from-part : left ≤ 4 → bytes_from left (word ∷ rest) ≡ take left (bytes_of word)
  unfolding bytes_from
  bytes_from-part small =
      let none : left - 4 ≡ 0 = omega arith in
      rw (none, bytes_from-none rest) (append-nil (take left (bytes_of word)))

bytes_from-length_by : (whole : Bool) (left word : ℕ) (rest : List ℕ)
    → leb 4 left ≡ whole
    → length (bytes_from (left - 4) rest) ≡ left - 4
    → length (bytes_from left (word ∷ rest)) ≡ left
bytes_from-length_by true left word rest test deeper =
    let large = leb-true 4 left test in rw (bytes_from-whole left word rest large) (omega arith)
bytes_from-length_by false left word rest test deeper =
    let small = leb-false 4 left test in
    rw (bytes_from-part left word rest (omega arith)) (length-take-le left (bytes_of word) (omega arith))

pub bytes_from-length : (left : ℕ) (words : List ℕ) → left ≤ 4 * length words → length (bytes_from left words) ≡ left
bytes_from-length left [] few = unfold bytes_from in omega arith
bytes_from-length left (word ∷ rest) few = bytes_from-length_by (leb 4 left) left word rest refl (bytes_from-length (left - 4) rest (omega arith))

pub bytes_from-visible : (left : ℕ) (words : List ℕ) → holds_value left words ≡ true → every is_visible (bytes_from left words) ≡ true
unfolding holds_value bytes_from
bytes_from-visible left [] held = refl
bytes_from-visible left (word ∷ rest) held =
    every_append is_visible (take left (bytes_of word)) (bytes_from (left - 4) rest)
    (part_held is_visible left word (and_left (holds_part is_visible left word) (holds_value (left - 4) rest) held)).passes
    (bytes_from-visible (left - 4) rest (and_right (holds_part is_visible left word) (holds_value (left - 4) rest) held))

word_at_over : (first : ℕ) (bytes : List ℕ) → length bytes ≤ first → word_at first bytes ≡ 0
unfolding word_at
word_at_over first bytes over =
    rw (
      get_or-eq_default bytes 0 over,
      get_or-eq_default bytes 0 {n = first + 1} (omega arith),
      get_or-eq_default bytes 0 {n = first + 2} (omega arith),
      get_or-eq_default bytes 0 {n = first + 3} (omega arith),
    )

pub word_at_further : (zeroth first second third : ℕ) (rest : List ℕ) (place : ℕ)
    → word_at (4 + place) (zeroth ∷ first ∷ second ∷ third ∷ rest) ≡ word_at place rest
unfolding word_at
word_at_further first_word first second third rest place =
    let at0 : 4 + place ≡ suc (suc (suc (suc place))) = omega arith in
    let at1 : suc (suc (suc (suc place))) + 1 ≡ suc (suc (suc (suc (place + 1)))) = omega arith in
    let at2 : suc (suc (suc (suc place))) + 2 ≡ suc (suc (suc (suc (place + 2)))) = omega arith in
    let at3 : suc (suc (suc (suc place))) + 3 ≡ suc (suc (suc (suc (place + 3)))) = omega arith in
    rw (at0, at1, at2, at3)

-- the word with this number
word-here_by : (whole : Bool) (left word : ℕ) (rest : List ℕ) → leb 4 left ≡ whole → holds_part is_visible left word ≡ true → word_at 0 (bytes_from left (word ∷ rest)) ≡ word
word-here_by true left word rest test held =
    rw (bytes_from-whole left word rest (leb-true 4 left test)) (word_of (byte0 word ∷ byte1 word ∷ byte2 word ∷ byte3 word ∷ bytes_from (left - 4) rest) word refl refl refl refl)
word-here_by false left word rest test held =
    let small = leb-false 4 left test in
    let part = part_held is_visible left word held in
    rw (bytes_from-part left word rest (omega arith)) (word_of (take left (bytes_of word)) word part.at0 part.at1 part.at2 part.at3)

word-behind_by : (whole : Bool) (left word : ℕ) (rest : List ℕ) (place other : ℕ)
    → leb 4 left ≡ whole
    → word_at place (bytes_from (left - 4) rest) ≡ other
    → word_at (4 + place) (bytes_from left (word ∷ rest)) ≡ other
word-behind_by true left word rest place other test deeper =
    rw (bytes_from-whole left word rest (leb-true 4 left test)) (word_at_further (byte0 word) (byte1 word) (byte2 word) (byte3 word) (bytes_from (left - 4) rest) place ∙ deeper)
word-behind_by false left word rest place other test deeper =
    let small = leb-false 4 left test in
    let none : left - 4 ≡ 0 = omega arith in
    let nothing : word_at place [] ≡ other = rw (none, bytes_from-none rest) at deeper in
    let part : length (take left (bytes_of word)) ≡ left = length-take-le left (bytes_of word) (omega arith) in
    rw (bytes_from-part left word rest (omega arith)) (word_at_over (4 + place) (take left (bytes_of word)) (omega arith) ∙ sym (word_at_over place [] (omega arith)) ∙ nothing)

bytes_from-word : (left : ℕ) (words : List ℕ) → holds_value left words ≡ true → (number : ℕ) → number < length words → word_at (4 * number) (bytes_from left words) ≡ get_or words number 0
unfolding holds_value
bytes_from-word left [] held number inside = absurd (omega arith)
bytes_from-word left (word ∷ rest) held zero inside = word-here_by (leb 4 left) left word rest refl (and_left (holds_part is_visible left word) (holds_value (left - 4) rest) held)
bytes_from-word left (word ∷ rest) held (suc number) inside =
    let further : 4 * suc number ≡ 4 + 4 * number = omega arith in
    rw further
    (word-behind_by (leb 4 left) left word rest (4 * number) (get_or rest number 0) refl
    (bytes_from-word (left - 4) rest (and_right (holds_part is_visible left word) (holds_value (left - 4) rest) held) number (omega arith)))

module _ (value : Admitted) (some : 1 ≤ value.len) (held : holds_value value.len (value_words value) ≡ true) where
  value-within : value.len ≤ 32
  value-within = omega (arith, holds_value-length value.len (value_words value) held)

  pub value_text-length : length (value_text value) ≡ value.len
  unfolding value_text
  value_text-length = bytes_from-length value.len (value_words value) (holds_value-length value.len (value_words value) held)

  pub value_text-visible : every is_visible (value_text value) ≡ true
  unfolding value_text
  value_text-visible = bytes_from-visible value.len (value_words value) held

  value-word : (number : ℕ) → number < 8 → word_at (4 * number) (value_text value) ≡ get_or (value_words value) number 0
  unfolding value_text
  value-word number few = bytes_from-word value.len (value_words value) held number few

  value-back : admitted_bytes (value_text value) ≡ value
  value-back =
      rw (
        value_text-length,
        value-word 0 (omega arith),
        value-word 1 (omega arith),
        value-word 2 (omega arith),
        value-word 3 (omega arith),
        value-word 4 (omega arith),
        value-word 5 (omega arith),
        value-word 6 (omega arith),
        value-word 7 (omega arith),
      )

  pub value_of_value_text : value_of (value_text value) ≡ Some value
  value_of_value_text =
      let len = value_text-length in
      let within = value-within in
      value_of_bytes (value_text value) (omega arith) (omega arith) value_text-visible ∙ ap Some value-back
