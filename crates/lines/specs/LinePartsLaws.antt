-- Laws of `LineParts.antt`, in its order. Assumes nothing.
use Rattle.std.specs.Prelude.{◌≡◌, refl, ℕ, ◌+◌, ◌-◌, ◌^◌, ◌≤◌, ◌<◌, Bool, ◌&&◌, not, cond, List, [], ◌∷◌, leb, ltb, eqb, length, get_or, take, drop, Option, Some, None, Result, Ok, Err}
use Rattle.std.proofs.Math.Path.{sym}
use Rattle.std.proofs.Common.{ap, ◌∙◌, arith, length-drop, take_all, le-ltb, lt-ltb, ltb-true, ltb-false, eqb-true, le-leb}
use Rattle.std.proofs.Math.Bool.{true, false}
use Rattle.std.proofs.lemmas.Bool.{eqb-false, lt-leb}
use Rattle.ascii.specs.Notation.{is_between}
use Rattle.ascii.specs.NotationLaws.{and-false, is_between-below}
use Rattle.ascii.specs.Bytes.{every}
use Rattle.ascii.specs.Digits.{is_digits, decimal}
use Rattle.counts.specs.Count.{count_of}
use Rattle.lines.specs.Lines.{position_of, is_same, Pieces, last, piece, cut, comma}
use Rattle.std.specs.Result.{OkIff, result_ok}
use Rattle.std.specs.List.{position, position_from, slice_split}
use Rattle.std.proofs.lemmas.Iterator.Adapters.{position_from-zero}
use Rattle.std.proofs.lemmas.List.Quantifiers.{position-Some}
use Rattle.lines.specs.LinesLaws.{cut-at_piece, cut-at_last, pieces_listed, cut-split, pieces_few}
use Rattle.lines.specs.LineParts.{no_leading_zero, number_of, flag_of, type_in, word_at, is_alphanumeric, message_type_of, is_visible, admitted_bytes, value_of}

-- ---- no_leading_zero

pub no_leading_zero-short : (bytes : List ℕ) → length bytes ≤ 1 → no_leading_zero bytes ≡ true
unfolding no_leading_zero
no_leading_zero-short [] short = refl
no_leading_zero-short (first ∷ []) short = refl
no_leading_zero-short (first ∷ second ∷ rest) short = absurd (omega arith)

pub no_leading_zero-long : (bytes : List ℕ) → 1 < length bytes → no_leading_zero bytes ≡ not (eqb (get_or bytes 0 0) 48)
unfolding no_leading_zero
no_leading_zero-long [] long = absurd (omega arith)
no_leading_zero-long (first ∷ []) long = absurd (omega arith)
no_leading_zero-long (first ∷ second ∷ rest) long = refl

-- ---- number_of

pub number_of_leading_zero : (bytes : List ℕ) → no_leading_zero bytes ≡ false → number_of bytes ≡ None
unfolding number_of
number_of_leading_zero bytes zero-first = rw zero-first

-- what a count says of a number of 32 bits
abbrev pub number_from : Option ℕ → Option ℕ
number_from (Some count) = cond (ltb count (2 ^ 32)) (Some count) None
number_from None = None

-- as `u32::try_from` gives it
pub word_of_count : {E : Type 0} (given : Result ℕ E) (count : ℕ) → OkIff given (count < 4294967296) count → result_ok given ≡ number_from (Some count)
word_of_count (Ok word) count fits = rw (lt-ltb count 4294967296 fits.0, fits.1)
word_of_count (Err error) count large = by (ltb count 4294967296) refl
  where
    by : (test : Bool) → ltb count 4294967296 ≡ test → None ≡ cond test (Some count) None
    by true small = absurd (large (ltb-true count 4294967296 small))
    by false over = refl

below-count : (n : ℕ) (fits : Bool) → ltb n (2 ^ 64) ≡ fits → cond (ltb n (2 ^ 32)) (Some n) None ≡ number_from (cond fits (Some n) None)
below-count n true test = refl
below-count n false test = rw (le-ltb n (2 ^ 32) (omega (arith, ltb-false n (2 ^ 64) test)))

by_digits : (digits : Bool) (n : ℕ) → cond (digits && ltb n (2 ^ 32)) (Some n) None ≡ number_from (cond (digits && ltb n (2 ^ 64)) (Some n) None)
by_digits true n = below-count n (ltb n (2 ^ 64)) refl
by_digits false n = refl

pub number_of_count : (bytes : List ℕ) → no_leading_zero bytes ≡ true → number_of bytes ≡ number_from (count_of bytes)
unfolding number_of
number_of_count bytes good = rw good (by_digits (is_digits bytes) (decimal bytes))

-- ---- flag_of

pub flag_of-other_length : (bytes : List ℕ) → (length bytes ≡ 1 → ⊥) → flag_of bytes ≡ None
unfolding flag_of
flag_of-other_length [] other = refl
flag_of-other_length (byte ∷ []) other = absurd (other refl)
flag_of-other_length (byte ∷ second ∷ rest) other = refl

pub flag_of-one_byte : (bytes : List ℕ)
    → length bytes ≡ 1
    → flag_of bytes ≡ cond (eqb (get_or bytes 0 0) 49) (Some true) (cond (eqb (get_or bytes 0 0) 48) (Some false) None)
unfolding flag_of
flag_of-one_byte [] one = absurd (omega arith)
flag_of-one_byte (byte ∷ []) one = refl
flag_of-one_byte (byte ∷ second ∷ rest) one = absurd (omega arith)

-- ---- type_in

-- the name that begins at `first`, where a comma or the end of the names stands at `past`
module _ (name : List ℕ) (number : ℕ) (names : List ℕ) (first past : ℕ) (within : first ≤ length names) (found : past ≡ first + position_of comma (drop first names)) where
  to_the_end : past ≡ length names → take (past - first) (drop first names) ≡ drop first names
  to_the_end at-end = take_all (past - first) (drop first names) (omega (arith, length-drop first names))

  type-here_by : (at-end : Bool)
      → eqb past (length names) ≡ at-end
      → is_same name (take (past - first) (drop first names)) ≡ true
      → type_in name number (cut comma (drop first names)) ≡ Some number
  unfolding type_in
  type-here_by true test same = rw (cut-at_last comma names first past within found (eqb-true _ _ test), sym (ap (is_same name) (to_the_end (eqb-true _ _ test))) ∙ same)
  type-here_by false test same = rw (cut-at_piece comma names first past within found (eqb-false _ _ test), same)

  pub type-here : is_same name (take (past - first) (drop first names)) ≡ true → type_in name number (cut comma (drop first names)) ≡ Some number
  type-here same = type-here_by (eqb past (length names)) refl same

  module _ (other : is_same name (take (past - first) (drop first names)) ≡ false) where
    pub type-nowhere : past ≡ length names → type_in name number (cut comma (drop first names)) ≡ None
    unfolding type_in
    type-nowhere at-end = rw (cut-at_last comma names first past within found at-end, sym (ap (is_same name) (to_the_end at-end)) ∙ other)

    pub type-further : (past ≡ length names → ⊥) → type_in name number (cut comma (drop first names)) ≡ type_in name (number + 1) (cut comma (drop (past + 1) names))
    unfolding type_in
    type-further before-end = rw (cut-at_piece comma names first past within found before-end, other)

-- the same, among the names that the library's `split` gives
type_in-from : (name : List ℕ) (number : ℕ) (pieces : Pieces) → position_from (is_same name) number (pieces_listed pieces) ≡ type_in name number pieces
unfolding type_in pieces_listed
type_in-from name number (last bytes) = refl
type_in-from name number (piece bytes others) = ap (λ (goes_on : Option ℕ). cond (is_same name bytes) (Some number) goes_on) (type_in-from name (number + 1) others)

module _ (name names : List ℕ) where
  pub type_in-position : position (is_same name) (slice_split (λ each. eqb each comma) names) ≡ type_in name 0 (cut comma names)
  type_in-position =
      position_from-zero (is_same name) (slice_split (λ each. eqb each comma) names)
      ∙ ap (position_from (is_same name) 0) (sym (cut-split comma names))
      ∙ type_in-from name 0 (cut comma names)

  pub type_in-few : (place : ℕ) → type_in name 0 (cut comma names) ≡ Some place → place ≤ length names
  type_in-few place found =
      let here = position-Some (is_same name) (slice_split (λ each. eqb each comma) names) place [] (type_in-position ∙ found) in
      omega (arith, here.0, ap length (cut-split comma names), pieces_few comma names)

-- ---- is_alphanumeric

pub is_alphanumeric-digit : (byte : ℕ) → is_between 48 57 byte ≡ true → is_alphanumeric byte ≡ true
unfolding is_alphanumeric
is_alphanumeric-digit byte digit = rw digit

pub is_alphanumeric-capital : (byte : ℕ) → is_between 48 57 byte ≡ false → is_between 65 90 byte ≡ true → is_alphanumeric byte ≡ true
unfolding is_alphanumeric
is_alphanumeric-capital byte no_digit capital = rw (no_digit, capital)

pub is_alphanumeric-small : (byte : ℕ) → is_between 48 57 byte ≡ false → is_between 65 90 byte ≡ false → is_alphanumeric byte ≡ is_between 97 122 byte
unfolding is_alphanumeric
is_alphanumeric-small byte no_digit no-capital = rw (no_digit, no-capital)

-- ---- is_between

pub is_between-above : (low high n : ℕ) → high < n → is_between low high n ≡ false
unfolding is_between
is_between-above low high n above = rw (lt-leb n high above, and-false (leb low n))

pub is_between-inside : (low high n : ℕ) → low ≤ n → n ≤ high → is_between low high n ≡ true
unfolding is_between
is_between-inside low high n from to = rw (le-leb low n from, le-leb n high to)

-- ---- message_type_of

module _ (bytes : List ℕ) where
  pub message_type_of-empty : length bytes < 1 → message_type_of bytes ≡ None
  unfolding message_type_of
  message_type_of-empty empty = rw (is_between-below 1 4 (length bytes) empty)

  pub message_type_of-long : 4 < length bytes → message_type_of bytes ≡ None
  unfolding message_type_of
  message_type_of-long long = rw (is_between-above 1 4 (length bytes) long)

  module _ (from : 1 ≤ length bytes) (to : length bytes ≤ 4) where
    pub message_type_of-other : every is_alphanumeric bytes ≡ false → message_type_of bytes ≡ None
    unfolding message_type_of
    message_type_of-other other = rw (is_between-inside 1 4 (length bytes) from to, other)

    pub message_type_of-letters : every is_alphanumeric bytes ≡ true → message_type_of bytes ≡ Some (word_at 0 bytes)
    unfolding message_type_of
    message_type_of-letters letters = rw (is_between-inside 1 4 (length bytes) from to, letters)

  -- ---- value_of

  pub value_of_empty : length bytes < 1 → value_of bytes ≡ None
  unfolding value_of
  value_of_empty empty = rw (is_between-below 1 32 (length bytes) empty)

  pub value_of_long : 32 < length bytes → value_of bytes ≡ None
  unfolding value_of
  value_of_long long = rw (is_between-above 1 32 (length bytes) long)

  module _ (from : 1 ≤ length bytes) (to : length bytes ≤ 32) where
    pub value_of_other : every is_visible bytes ≡ false → value_of bytes ≡ None
    unfolding value_of
    value_of_other other = rw (is_between-inside 1 32 (length bytes) from to, other)

    pub value_of_bytes : every is_visible bytes ≡ true → value_of bytes ≡ Some (admitted_bytes bytes)
    unfolding value_of
    value_of_bytes visible = rw (is_between-inside 1 32 (length bytes) from to, visible)
