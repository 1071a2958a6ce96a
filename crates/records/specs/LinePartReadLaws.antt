-- What the parts of a line are read as (lines, `LineParts.antt`), against what a record holds: a number has 32 bits and at least as many digits as `digit_count`,
-- a TYPE is one of 34 and as long as its name, a T is `letters_text` of its word, a V fills its words. Assumes nothing.
use Rattle.std.specs.Prelude.{◌≡◌, refl, ℕ, zero, suc, ◌+◌, ◌*◌, ◌-◌, ◌^◌, ◌≤◌, ◌<◌, Bool, true, false, ◌&&◌, not, cond, List, [], ◌∷◌, ◌++◌, ltb, eqb, length, get_or, take, drop, Option, Some, None}
use Rattle.std.proofs.Common.{sym, ap, ◌∙◌, arith, length-drop, take-append-drop, length-take-le, drop-drop, get_or-drop, lt-ltb, ltb-true, ltb-false, eq-eqb, ne_eqb, eqb-true}
use Rattle.std.proofs.lemmas.Bool.{false≢true, eqb-false}
use Rattle.ascii.specs.Notation.{is_between}
use Rattle.ascii.specs.NotationLaws.{and_left, and_right, is_between-range}
use Rattle.ascii.specs.Bytes.{non_empty, every}
use Rattle.ascii.specs.Digits.{is_digit, is_digits, decimal_from, decimal}
use Rattle.ascii.specs.DigitsLaws.{is_digit-range, decimal_from-grows}
use Rattle.lines.specs.declared.line_parts.Admitted.{Admitted}
use Rattle.lines.specs.Lines.{position_of, before, behind, is_same, Pieces, last, piece, longer, cut, comma}
use Rattle.lines.specs.LinesLaws.{position_of_within}
use Rattle.lines.specs.LineParts.{no_leading_zero, number_of, flag_of, type_names, type_in, type_of, word_at, is_alphanumeric, message_type_of, is_visible, admitted_bytes, value_of}
use Rattle.records.specs.Records.{byte0, byte1, byte2, byte3, bytes_of, holds_byte, holds_part, letters_length, letters_text, holds_letters, holds_value, value_words}
use Rattle.records.specs.LineTexts.{name_at, type_text, bytes_from, value_text}
use Rattle.records.specs.LineLengths.{digit_count_from, digit_count, type_lengths}
use Rattle.records.specs.NumeralLaws.{alphanumeric_range}
use Rattle.records.specs.TypeTextLaws.{type_text-length}

-- ---- numbers

-- numbers of so many digits more than those below `bound` have
abbrev grown : ℕ → ℕ → ℕ
grown zero bound = bound
grown (suc digits) bound = grown digits (10 * bound)

decimal_from-below : (bytes : List ℕ) (high bound : ℕ) → every is_digit bytes ≡ true → high < bound → decimal_from high bytes < grown (length bytes) bound
decimal_from-below [] high bound digits below = below
decimal_from-below (byte ∷ rest) high bound digits below =
    let range = is_digit-range byte (and_left (is_digit byte) (every is_digit rest) digits) in
    decimal_from-below rest (high * 10 + (byte - 48)) (10 * bound) (and_right (is_digit byte) (every is_digit rest) digits) (omega arith)

count_by : (digits bound n more : ℕ) (few : Bool) → ltb n bound ≡ few → (bound ≤ n → digit_count_from digits (10 * bound) n ≤ more) → cond few 1 (suc (digit_count_from digits (10 * bound) n)) ≤ suc more
count_by digits bound n more true test deeper = omega arith
count_by digits bound n more false test deeper = omega (arith, deeper (ltb-false n bound test))

digit_count_from-few : (digits bound n more : ℕ) → n < grown more bound → digit_count_from digits bound n ≤ suc more
digit_count_from-few zero bound n more below = omega arith
digit_count_from-few (suc digits) bound n zero below = rw (lt-ltb n bound below) (omega arith)
digit_count_from-few (suc digits) bound n (suc more) below = count_by digits bound n (suc more) (ltb n bound) refl (λ large. digit_count_from-few digits (10 * bound) n more below)

decimal-count : (bytes : List ℕ) → is_digits bytes ≡ true → digit_count (decimal bytes) ≤ length bytes
unfolding non_empty digit_count
decimal-count [] digits = absurd (false≢true digits)
decimal-count (byte ∷ rest) digits =
    digit_count_from-few 10 10 (decimal (byte ∷ rest)) (length rest) (decimal_from-below (byte ∷ rest) 0 1 digits (omega arith))

-- what was read from so many bytes
abbrev pub NumberFits : ℕ → Option ℕ → Type 0
NumberFits len (Some n) = (n < 2 ^ 32) × (digit_count n ≤ len)
NumberFits len None = Unit

number_by : (bytes : List ℕ) (plain digits small : Bool)
    → is_digits bytes ≡ digits
    → ltb (decimal bytes) (2 ^ 32) ≡ small
    → NumberFits (length bytes) (cond (plain && (digits && small)) (Some (decimal bytes)) None)
number_by bytes true true true digits small = (ltb-true (decimal bytes) (2 ^ 32) small, decimal-count bytes digits)
number_by bytes true true false digits small = tt
number_by bytes true false small' digits small = tt
number_by bytes false digits' small' digits small = tt

pub number_of_fits : (bytes : List ℕ) → NumberFits (length bytes) (number_of bytes)
unfolding number_of
number_of_fits bytes = number_by bytes (no_leading_zero bytes) (is_digits bytes) (ltb (decimal bytes) (2 ^ 32)) refl refl

-- digits without a leading zero, five or more, make 10,000 or more
five-digits : (bytes : List ℕ) → no_leading_zero bytes ≡ true → is_digits bytes ≡ true → 5 ≤ length bytes → 10000 ≤ decimal bytes
unfolding no_leading_zero non_empty
five-digits [] plain digits long = absurd (omega arith)
five-digits (a ∷ []) plain digits long = absurd (omega arith)
five-digits (a ∷ b ∷ []) plain digits long = absurd (omega arith)
five-digits (a ∷ b ∷ c ∷ []) plain digits long = absurd (omega arith)
five-digits (a ∷ b ∷ c ∷ d ∷ []) plain digits long = absurd (omega arith)
five-digits (a ∷ b ∷ c ∷ d ∷ e ∷ rest) plain digits long =
    let range = is_digit-range a (and_left (is_digit a) _ digits) in
    let other : a ≡ 48 → ⊥ = eqb-false a 48 (not-true (eqb a 48) plain) in
    omega (arith, decimal_from-grows rest ((((((0 * 10 + (a - 48)) * 10 + (b - 48)) * 10 + (c - 48)) * 10 + (d - 48)) * 10) + (e - 48)))
  where
    not-true : (test : Bool) → not test ≡ true → test ≡ false
    not-true true never = absurd (false≢true never)
    not-true false holds = refl

abbrev pub LargeNumber : Option ℕ → Type 0
LargeNumber (Some n) = 10000 ≤ n
LargeNumber None = Unit

large_by : (bytes : List ℕ) (plain digits small : Bool)
    → no_leading_zero bytes ≡ plain
    → is_digits bytes ≡ digits
    → 5 ≤ length bytes
    → LargeNumber (cond (plain && (digits && small)) (Some (decimal bytes)) None)
large_by bytes true true true plain digits long = five-digits bytes plain digits long
large_by bytes true true false plain digits long = tt
large_by bytes true false small plain digits long = tt
large_by bytes false digits' small plain digits long = tt

pub number_of_large : (bytes : List ℕ) → 5 ≤ length bytes → LargeNumber (number_of bytes)
unfolding number_of
number_of_large bytes long = large_by bytes (no_leading_zero bytes) (is_digits bytes) (ltb (decimal bytes) (2 ^ 32)) refl refl long

-- ---- flags

abbrev pub FlagFits : ℕ → Option Bool → Type 0
FlagFits len (Some true) = len ≡ 1
FlagFits len (Some false) = len ≡ 1
FlagFits len None = Unit

flag_by : (one zero_flag : Bool) → FlagFits 1 (cond one (Some true) (cond zero_flag (Some false) None))
flag_by true zero_flag = refl
flag_by false true = refl
flag_by false false = tt

pub flag_of-fits : (bytes : List ℕ) → FlagFits (length bytes) (flag_of bytes)
unfolding flag_of
flag_of-fits [] = tt
flag_of-fits (byte ∷ []) = flag_by (eqb byte 49) (eqb byte 48)
flag_of-fits (byte ∷ second ∷ rest) = tt

-- ---- what stands before and behind a comma

pub parts-length : (rest : List ℕ) → 1 ≤ length (behind comma rest) → length (before comma rest) + (1 + length (behind comma rest)) ≡ length rest
parts-length rest some =
    let within = position_of_within comma rest in
    let first = length-take-le (position_of comma rest) rest within in
    let second = length-drop (suc (position_of comma rest)) rest in
    omega arith

-- ---- types

abbrev piece_count : Pieces → ℕ
piece_count (last bytes) = 1
piece_count (piece bytes others) = suc (piece_count others)

abbrev TypeIn : List ℕ → ℕ → Pieces → Option ℕ → Type 0
TypeIn name number pieces (Some place) = (number ≤ place) × ((place < number + piece_count pieces) × (length name ≡ length (name_at (place - number) pieces)))
TypeIn name number pieces None = Unit

pub same_length : (name bytes : List ℕ) → is_same name bytes ≡ true → length name ≡ length bytes
unfolding is_same
same_length name bytes same = eqb-true (length name) (length bytes) (and_left (eqb (length name) (length bytes)) _ same)

type-last_by : (name bytes : List ℕ) (number : ℕ) (same : Bool) → is_same name bytes ≡ same → TypeIn name number (last bytes) (cond same (Some number) None)
unfolding name_at
type-last_by name bytes number true test = (omega arith, (omega arith, let none : number - number ≡ 0 = omega arith in rw none (same_length name bytes test)))
type-last_by name bytes number false test = tt

type-later : (name bytes : List ℕ) (number : ℕ) (others : Pieces) (found : Option ℕ) → TypeIn name (number + 1) others found → TypeIn name number (piece bytes others) found
unfolding name_at
type-later name bytes number others (Some place) later =
    let next : place - number ≡ suc (place - (number + 1)) = omega (arith, later.0) in
    (omega (arith, later.0), (omega (arith, later.1.0), rw next later.1.1))
type-later name bytes number others None later = tt

type-piece_by : (name bytes : List ℕ) (number : ℕ) (others : Pieces) (same : Bool)
    → is_same name bytes ≡ same
    → TypeIn name (number + 1) others (type_in name (number + 1) others)
    → TypeIn name number (piece bytes others) (cond same (Some number) (type_in name (number + 1) others))
unfolding name_at
type-piece_by name bytes number others true test later =
    (omega arith, (omega arith, let none : number - number ≡ 0 = omega arith in rw none (same_length name bytes test)))
type-piece_by name bytes number others false test later = type-later name bytes number others (type_in name (number + 1) others) later

type_in-in : (name : List ℕ) (number : ℕ) (pieces : Pieces) → TypeIn name number pieces (type_in name number pieces)
unfolding type_in
type_in-in name number (last bytes) = type-last_by name bytes number (is_same name bytes) refl
type_in-in name number (piece bytes others) = type-piece_by name bytes number others (is_same name bytes) refl (type_in-in name (number + 1) others)

abbrev pub TypeFits : ℕ → Option ℕ → Type 0
TypeFits len (Some place) = (place < 34) × (get_or type_lengths place 0 ≡ len)
TypeFits len None = Unit

type-count : piece_count (cut comma type_names) ≡ 34
unfolding longer cut
type-count = refl

type-fits_by : (name : List ℕ) (found : Option ℕ) → TypeIn name 0 (cut comma type_names) found → TypeFits (length name) found
unfolding type_text
type-fits_by name (Some place) found =
    let few : place < 34 = omega (arith, found.1.0, type-count) in
    let same : place - 0 ≡ place = omega arith in
    let named : length name ≡ length (name_at place (cut comma type_names)) = rw same at found.1.1 in
    (few, sym (type_text-length place few) ∙ sym named)
type-fits_by name None found = tt

pub type_of_fits : (name : List ℕ) → TypeFits (length name) (type_of name)
unfolding type_of
type_of_fits name = type-fits_by name (type_in name 0 (cut comma type_names)) (type_in-in name 0 (cut comma type_names))

-- ---- message types

-- the bytes of a word that four bytes make
module _ (a b c d : ℕ) (small-a : a < 256) (small_b : b < 256) (small-c : c < 256) (small-d : d < 256) where
  word-byte0 : byte0 (a * 16777216 + b * 65536 + c * 256 + d) ≡ a
  word-byte0 = omega arith

  word-byte1 : byte1 (a * 16777216 + b * 65536 + c * 256 + d) ≡ b
  word-byte1 = omega arith

  word-byte2 : byte2 (a * 16777216 + b * 65536 + c * 256 + d) ≡ c
  word-byte2 = omega arith

  word-byte3 : byte3 (a * 16777216 + b * 65536 + c * 256 + d) ≡ d
  word-byte3 = omega arith

abbrev pub LettersFit : List ℕ → Option ℕ → Type 0
LettersFit bytes (Some letters) = (holds_letters letters ≡ true) × (letters_text letters ≡ bytes)
LettersFit bytes None = Unit

letters-fit : (bytes : List ℕ) → 1 ≤ length bytes → length bytes ≤ 4 → every is_alphanumeric bytes ≡ true → LettersFit bytes (Some (word_at 0 bytes))
unfolding word_at holds_letters holds_part holds_byte letters_length letters_text
letters-fit [] some few letters = absurd (omega arith)
letters-fit (a ∷ []) some few letters =
    let one = and_left (is_alphanumeric a) _ letters in
    let range-a = alphanumeric_range a one in
    let f0 = word-byte0 a 0 0 0 (omega arith) (omega arith) (omega arith) (omega arith) in
    let f1 = word-byte1 a 0 0 0 (omega arith) (omega arith) (omega arith) (omega arith) in
    let f2 = word-byte2 a 0 0 0 (omega arith) (omega arith) (omega arith) (omega arith) in
    let f3 = word-byte3 a 0 0 0 (omega arith) (omega arith) (omega arith) (omega arith) in
    (rw (f1, f0, f2, f3, one), rw (f1, f0))
letters-fit (a ∷ b ∷ []) some few letters =
    let one = and_left (is_alphanumeric a) _ letters in
    let rest = and_right (is_alphanumeric a) _ letters in
    let two = and_left (is_alphanumeric b) _ rest in
    let range-a = alphanumeric_range a one in
    let range-b = alphanumeric_range b two in
    let f0 = word-byte0 a b 0 0 (omega arith) (omega arith) (omega arith) (omega arith) in
    let f1 = word-byte1 a b 0 0 (omega arith) (omega arith) (omega arith) (omega arith) in
    let f2 = word-byte2 a b 0 0 (omega arith) (omega arith) (omega arith) (omega arith) in
    let f3 = word-byte3 a b 0 0 (omega arith) (omega arith) (omega arith) (omega arith) in
    let n1 : eqb b 0 ≡ false = ne_eqb b 0 (λ zero-byte. omega arith) in
    (rw (f1, n1, f2, f0, f3, one, two), rw (f1, n1, f2, f0))
letters-fit (a ∷ b ∷ c ∷ []) some few letters =
    let one = and_left (is_alphanumeric a) _ letters in
    let rest = and_right (is_alphanumeric a) _ letters in
    let two = and_left (is_alphanumeric b) _ rest in
    let others = and_right (is_alphanumeric b) _ rest in
    let three = and_left (is_alphanumeric c) _ others in
    let range-a = alphanumeric_range a one in
    let range-b = alphanumeric_range b two in
    let range-c = alphanumeric_range c three in
    let f0 = word-byte0 a b c 0 (omega arith) (omega arith) (omega arith) (omega arith) in
    let f1 = word-byte1 a b c 0 (omega arith) (omega arith) (omega arith) (omega arith) in
    let f2 = word-byte2 a b c 0 (omega arith) (omega arith) (omega arith) (omega arith) in
    let f3 = word-byte3 a b c 0 (omega arith) (omega arith) (omega arith) (omega arith) in
    let n1 : eqb b 0 ≡ false = ne_eqb b 0 (λ zero-byte. omega arith) in
    let n2 : eqb c 0 ≡ false = ne_eqb c 0 (λ zero-byte. omega arith) in
    (rw (f1, n1, f2, n2, f3, f0, one, two, three), rw (f1, n1, f2, n2, f3, f0))
letters-fit (a ∷ b ∷ c ∷ d ∷ []) some few letters =
    let one = and_left (is_alphanumeric a) _ letters in
    let rest = and_right (is_alphanumeric a) _ letters in
    let two = and_left (is_alphanumeric b) _ rest in
    let others = and_right (is_alphanumeric b) _ rest in
    let three = and_left (is_alphanumeric c) _ others in
    let four = and_left (is_alphanumeric d) _ (and_right (is_alphanumeric c) _ others) in
    let range-a = alphanumeric_range a one in
    let range-b = alphanumeric_range b two in
    let range-c = alphanumeric_range c three in
    let range-d = alphanumeric_range d four in
    let f0 = word-byte0 a b c d (omega arith) (omega arith) (omega arith) (omega arith) in
    let f1 = word-byte1 a b c d (omega arith) (omega arith) (omega arith) (omega arith) in
    let f2 = word-byte2 a b c d (omega arith) (omega arith) (omega arith) (omega arith) in
    let f3 = word-byte3 a b c d (omega arith) (omega arith) (omega arith) (omega arith) in
    let n1 : eqb b 0 ≡ false = ne_eqb b 0 (λ zero-byte. omega arith) in
    let n2 : eqb c 0 ≡ false = ne_eqb c 0 (λ zero-byte. omega arith) in
    let n3 : eqb d 0 ≡ false = ne_eqb d 0 (λ zero-byte. omega arith) in
    (rw (f1, n1, f2, n2, f3, n3, f0, one, two, three, four), rw (f1, n1, f2, n2, f3, n3, f0))
letters-fit (a ∷ b ∷ c ∷ d ∷ e ∷ rest) some few letters = absurd (omega arith)

letters-by : (bytes : List ℕ) (range letters : Bool)
    → is_between 1 4 (length bytes) ≡ range
    → every is_alphanumeric bytes ≡ letters
    → LettersFit bytes (cond (range && letters) (Some (word_at 0 bytes)) None)
letters-by bytes true true range letters = let between = is_between-range 1 4 (length bytes) range in letters-fit bytes between.0 between.1 letters
letters-by bytes true false range letters = tt
letters-by bytes false letters' range letters = tt

pub message_type_of-fits : (bytes : List ℕ) → LettersFit bytes (message_type_of bytes)
unfolding message_type_of
message_type_of-fits bytes = letters-by bytes (is_between 1 4 (length bytes)) (every is_alphanumeric bytes) refl refl

-- ---- values

word_at_drop : (first : ℕ) (bytes : List ℕ) → word_at first bytes ≡ word_at 0 (drop first bytes)
unfolding word_at
word_at_drop first bytes =
    let same : first + 0 ≡ first = omega arith in
    rw (get_or-drop first bytes 0 0, get_or-drop first bytes 1 0, get_or-drop first bytes 2 0, get_or-drop first bytes 3 0, same)

visible_small : (byte : ℕ) → is_visible byte ≡ true → byte < 256
visible_small byte visible = let range = is_between-range 0x21 0x7E byte visible in omega arith

holds-part : (bytes : List ℕ) → every is_visible bytes ≡ true → holds_part is_visible (length bytes) (word_at 0 bytes) ≡ true
unfolding word_at holds_part holds_byte
holds-part [] visible = refl
holds-part (a ∷ []) visible =
    let one = and_left (is_visible a) _ visible in
    let small-a = visible_small a one in
    rw (
      word-byte0 a 0 0 0 small-a (omega arith) (omega arith) (omega arith),
      word-byte1 a 0 0 0 small-a (omega arith) (omega arith) (omega arith),
      word-byte2 a 0 0 0 small-a (omega arith) (omega arith) (omega arith),
      word-byte3 a 0 0 0 small-a (omega arith) (omega arith) (omega arith),
      one,
    )
holds-part (a ∷ b ∷ []) visible =
    let one = and_left (is_visible a) _ visible in
    let rest = and_right (is_visible a) _ visible in
    let two = and_left (is_visible b) _ rest in
    let small-a = visible_small a one in
    let small_b = visible_small b two in
    rw (
      word-byte0 a b 0 0 small-a small_b (omega arith) (omega arith),
      word-byte1 a b 0 0 small-a small_b (omega arith) (omega arith),
      word-byte2 a b 0 0 small-a small_b (omega arith) (omega arith),
      word-byte3 a b 0 0 small-a small_b (omega arith) (omega arith),
      one,
      two,
    )
holds-part (a ∷ b ∷ c ∷ []) visible =
    let one = and_left (is_visible a) _ visible in
    let rest = and_right (is_visible a) _ visible in
    let two = and_left (is_visible b) _ rest in
    let three = and_left (is_visible c) _ (and_right (is_visible b) _ rest) in
    let small-a = visible_small a one in
    let small_b = visible_small b two in
    let small-c = visible_small c three in
    rw (
      word-byte0 a b c 0 small-a small_b small-c (omega arith),
      word-byte1 a b c 0 small-a small_b small-c (omega arith),
      word-byte2 a b c 0 small-a small_b small-c (omega arith),
      word-byte3 a b c 0 small-a small_b small-c (omega arith),
      one,
      two,
      three,
    )
holds-part (a ∷ b ∷ c ∷ d ∷ more) visible =
    let one = and_left (is_visible a) _ visible in
    let rest = and_right (is_visible a) _ visible in
    let two = and_left (is_visible b) _ rest in
    let others = and_right (is_visible b) _ rest in
    let three = and_left (is_visible c) _ others in
    let four = and_left (is_visible d) _ (and_right (is_visible c) _ others) in
    let small-a = visible_small a one in
    let small_b = visible_small b two in
    let small-c = visible_small c three in
    let small-d = visible_small d four in
    rw (
      word-byte0 a b c d small-a small_b small-c small-d,
      word-byte1 a b c d small-a small_b small-c small-d,
      word-byte2 a b c d small-a small_b small-c small-d,
      word-byte3 a b c d small-a small_b small-c small-d,
      lt-ltb 0 (suc (suc (suc (suc (length more))))) (omega arith),
      lt-ltb 1 (suc (suc (suc (suc (length more))))) (omega arith),
      lt-ltb 2 (suc (suc (suc (suc (length more))))) (omega arith),
      lt-ltb 3 (suc (suc (suc (suc (length more))))) (omega arith),
      one,
      two,
      three,
      four,
    )

every_drop : (test : ℕ → Bool) (count : ℕ) (bytes : List ℕ) → every test bytes ≡ true → every test (drop count bytes) ≡ true
every_drop test zero bytes passes = passes
every_drop test (suc count) [] passes = refl
every_drop test (suc count) (byte ∷ rest) passes = every_drop test count rest (and_right (test byte) (every test rest) passes)

-- so many words from the bytes
abbrev words_from : ℕ → List ℕ → List ℕ
words_from zero bytes = []
words_from (suc count) bytes = word_at 0 bytes ∷ words_from count (drop 4 bytes)

holds-words : (count : ℕ) (bytes : List ℕ) → every is_visible bytes ≡ true → length bytes ≤ 4 * count → holds_value (length bytes) (words_from count bytes) ≡ true
unfolding holds_value
holds-words zero bytes visible few = eq-eqb (length bytes) 0 (omega arith)
holds-words (suc count) bytes visible few =
    let left = length-drop 4 bytes in
    rw (holds-part bytes visible, ← left) (holds-words count (drop 4 bytes) (every_drop is_visible 4 bytes visible) (omega arith))

eight_words : (bytes : List ℕ) → value_words (admitted_bytes bytes) ≡ words_from 8 bytes
eight_words bytes =
    rw (
      drop-drop 4 4 bytes,
      drop-drop 4 8 bytes,
      drop-drop 4 12 bytes,
      drop-drop 4 16 bytes,
      drop-drop 4 20 bytes,
      drop-drop 4 24 bytes,
      word_at_drop 4 bytes,
      word_at_drop 8 bytes,
      word_at_drop 12 bytes,
      word_at_drop 16 bytes,
      word_at_drop 20 bytes,
      word_at_drop 24 bytes,
      word_at_drop 28 bytes,
    )

abbrev pub ValueFits : ℕ → Option Admitted → Type 0
ValueFits len (Some value) = (1 ≤ value.len) × ((holds_value value.len (value_words value) ≡ true) × (value.len ≡ len))
ValueFits len None = Unit

value-by : (bytes : List ℕ) (range visible : Bool)
    → is_between 1 32 (length bytes) ≡ range
    → every is_visible bytes ≡ visible
    → ValueFits (length bytes) (cond (range && visible) (Some (admitted_bytes bytes)) None)
value-by bytes true true range visible =
    let between = is_between-range 1 32 (length bytes) range in
    (between.0, (ap (holds_value (length bytes)) (eight_words bytes) ∙ holds-words 8 bytes visible (omega arith), refl))
value-by bytes true false range visible = tt
value-by bytes false visible' range visible = tt

pub value_of_fits : (bytes : List ℕ) → ValueFits (length bytes) (value_of bytes)
unfolding value_of
value_of_fits bytes = value-by bytes (is_between 1 32 (length bytes)) (every is_visible bytes) refl refl

-- ---- a value is the text of what it is held as

take_none : (count : ℕ) → take {A = ℕ} count [] ≡ []
take_none zero = refl
take_none (suc count) = refl

first-four : (bytes : List ℕ) → every is_visible bytes ≡ true → take (length bytes) (bytes_of (word_at 0 bytes)) ≡ take 4 bytes
unfolding word_at
first-four [] visible = refl
first-four (a ∷ []) visible =
    let small-a = visible_small a (and_left (is_visible a) _ visible) in
    rw (word-byte0 a 0 0 0 small-a (omega arith) (omega arith) (omega arith))
first-four (a ∷ b ∷ []) visible =
    let small-a = visible_small a (and_left (is_visible a) _ visible) in
    let small_b = visible_small b (and_left (is_visible b) _ (and_right (is_visible a) _ visible)) in
    rw (word-byte0 a b 0 0 small-a small_b (omega arith) (omega arith), word-byte1 a b 0 0 small-a small_b (omega arith) (omega arith))
first-four (a ∷ b ∷ c ∷ []) visible =
    let small-a = visible_small a (and_left (is_visible a) _ visible) in
    let rest = and_right (is_visible a) _ visible in
    let small_b = visible_small b (and_left (is_visible b) _ rest) in
    let small-c = visible_small c (and_left (is_visible c) _ (and_right (is_visible b) _ rest)) in
    rw (
      word-byte0 a b c 0 small-a small_b small-c (omega arith),
      word-byte1 a b c 0 small-a small_b small-c (omega arith),
      word-byte2 a b c 0 small-a small_b small-c (omega arith),
    )
first-four (a ∷ b ∷ c ∷ d ∷ more) visible =
    let small-a = visible_small a (and_left (is_visible a) _ visible) in
    let rest = and_right (is_visible a) _ visible in
    let small_b = visible_small b (and_left (is_visible b) _ rest) in
    let others = and_right (is_visible b) _ rest in
    let small-c = visible_small c (and_left (is_visible c) _ others) in
    let small-d = visible_small d (and_left (is_visible d) _ (and_right (is_visible c) _ others)) in
    rw (
      word-byte0 a b c d small-a small_b small-c small-d,
      word-byte1 a b c d small-a small_b small-c small-d,
      word-byte2 a b c d small-a small_b small-c small-d,
      word-byte3 a b c d small-a small_b small-c small-d,
      take_none (length more),
    )

-- the words of visible bytes have these bytes
bytes_back : (count : ℕ) (bytes : List ℕ) → every is_visible bytes ≡ true → length bytes ≤ 4 * count → bytes_from (length bytes) (words_from count bytes) ≡ bytes
unfolding bytes_from
bytes_back zero [] visible few = refl
bytes_back zero (byte ∷ rest) visible few = absurd (omega arith)
bytes_back (suc count) bytes visible few =
    let left = length-drop 4 bytes in
    rw (first-four bytes visible, ← left)
    (ap (λ (rest : List ℕ). take 4 bytes ++ rest) (bytes_back count (drop 4 bytes) (every_drop is_visible 4 bytes visible) (omega arith)) ∙ take-append-drop 4 bytes)

back_by : (bytes : List ℕ) (value : Admitted) (range visible : Bool)
    → is_between 1 32 (length bytes) ≡ range
    → every is_visible bytes ≡ visible
    → cond (range && visible) (Some (admitted_bytes bytes)) None ≡ Some value
    → value_text value ≡ bytes
unfolding value_text
back_by bytes value true true range visible there =
    let between = is_between-range 1 32 (length bytes) range in
    let same : admitted_bytes bytes ≡ value = cc in
    rw (← same, eight_words bytes) (bytes_back 8 bytes visible (omega arith))
back_by bytes value true false range visible there = let never : ◌≡◌ {A = ℕ} 0 1 = cc in absurd (omega arith)
back_by bytes value false other range visible there = let never : ◌≡◌ {A = ℕ} 0 1 = cc in absurd (omega arith)

pub value_text-value_of : (bytes : List ℕ) (value : Admitted) → value_of bytes ≡ Some value → value_text value ≡ bytes
unfolding value_of
value_text-value_of bytes value there = back_by bytes value (is_between 1 32 (length bytes)) (every is_visible bytes) refl refl there
