-- Laws of the numerals of `LineTexts.antt`: a number of 32 bits is read from its numeral, and `digit_count` is the numeral's length. First what is
-- known of bytes that all pass a test, and of a comma behind them. Assumes nothing.
use Rattle.std.specs.Prelude.{◌≡◌, ℕ, zero, suc, ◌+◌, ◌*◌, ◌-◌, ◌/◌, ◌%◌, ◌^◌, ◌≤◌, ◌<◌, Bool, true, false, ◌||◌, cond, List, [], ◌∷◌, ◌++◌, leb, ltb, length, get_or, drop, Some}
use Rattle.std.specs.List.{count_by}
use Rattle.std.proofs.Math.Path.{refl}
use Rattle.std.proofs.Common.{sym, ap, ◌∙◌, length-append, zero-add}
use Rattle.std.proofs.lemmas.Bool.{false≢true}
use native.Mathlib.Omega.{arith}
use Rattle.std.proofs.Math.Seq.{take-append_seam}
use borrow.Author.Tests.{lt-ltb, le-ltb, lt-leb, le-leb, ltb-true, ltb-false, eq-eqb, ne_eqb}
use Rattle.ascii.specs.Notation.{is_between}
use Rattle.ascii.specs.NotationLaws.{and_left, and_right, is_between-range}
use Rattle.ascii.specs.Bytes.{non_empty, every}
use Rattle.ascii.specs.Digits.{is_digit, decimal_from}
use Rattle.ascii.specs.DigitsLaws.{is_digit-range}
use Rattle.lines.specs.Lines.{position_of, before, behind}
use Rattle.lines.specs.LineParts.{no_leading_zero, number_of, is_alphanumeric, is_visible}
use Rattle.lines.specs.LinePartsLaws.{is_between-inside}
use Rattle.records.specs.LineTexts.{digits_of, numeral}
use Rattle.records.specs.LineLengths.{digit_count_from, digit_count, reaches}

-- ---- every

pub every_append : (test : ℕ → Bool) (bytes others : List ℕ) → every test bytes ≡ true → every test others ≡ true → every test (bytes ++ others) ≡ true
every_append test [] others passes also = also
every_append test (byte ∷ bytes) others passes also =
    rw (and_left (test byte) (every test bytes) passes) (every_append test bytes others (and_right (test byte) (every test bytes) passes) also)

pub every-weaker : (test other : ℕ → Bool) (bytes : List ℕ)
    → ((byte : ℕ) → test byte ≡ true → other byte ≡ true)
    → every test bytes ≡ true
    → every other bytes ≡ true
every-weaker test other [] weaker passes = refl
every-weaker test other (byte ∷ bytes) weaker passes =
    rw (weaker byte (and_left (test byte) (every test bytes) passes)) (every-weaker test other bytes weaker (and_right (test byte) (every test bytes) passes))

-- the byte is above `low`
abbrev pub is_above : ℕ → ℕ → Bool
is_above low byte = ltb low byte

pub digit-above : (byte : ℕ) → is_digit byte ≡ true → is_above 44 byte ≡ true
digit-above byte digit = let range = is_digit-range byte digit in lt-ltb 44 byte (omega arith)

alphanumeric_by : (byte : ℕ) (digit capital small : Bool)
    → is_between 48 57 byte ≡ digit
    → is_between 65 90 byte ≡ capital
    → is_between 97 122 byte ≡ small
    → digit || (capital || small) ≡ true
    → (48 ≤ byte) × (byte ≤ 122)
alphanumeric_by byte true capital small one two three some = let range = is_between-range 48 57 byte one in (omega arith, omega arith)
alphanumeric_by byte false true small one two three some = let range = is_between-range 65 90 byte two in (omega arith, omega arith)
alphanumeric_by byte false false true one two three some = let range = is_between-range 97 122 byte three in (omega arith, omega arith)
alphanumeric_by byte false false false one two three some = absurd (false≢true some)

pub alphanumeric_range : (byte : ℕ) → is_alphanumeric byte ≡ true → (48 ≤ byte) × (byte ≤ 122)
unfolding is_alphanumeric
alphanumeric_range byte holds = alphanumeric_by byte (is_between 48 57 byte) (is_between 65 90 byte) (is_between 97 122 byte) refl refl refl holds

pub alphanumeric_above : (byte : ℕ) → is_alphanumeric byte ≡ true → is_above 44 byte ≡ true
alphanumeric_above byte holds = let range = alphanumeric_range byte holds in lt-ltb 44 byte (omega arith)

pub visible_above : (byte : ℕ) → is_visible byte ≡ true → is_above 32 byte ≡ true
visible_above byte holds = let range = is_between-range 0x21 0x7E byte holds in lt-ltb 32 byte (omega arith)

pub above-above : (low lower byte : ℕ) → lower ≤ low → is_above low byte ≡ true → is_above lower byte ≡ true
above-above low lower byte order above = let over = ltb-true low byte above in lt-ltb lower byte (omega arith)

-- ---- a byte behind larger ones is where they end

pub position_of_behind : (byte : ℕ) (bytes rest : List ℕ) → every (is_above byte) bytes ≡ true → position_of byte (bytes ++ (byte ∷ rest)) ≡ length bytes
unfolding position_of
position_of_behind byte [] rest above = rw (eq-eqb byte byte refl)
position_of_behind byte (first ∷ bytes) rest above =
    let over = ltb-true byte first (and_left (ltb byte first) (every (is_above byte) bytes) above) in
    rw (ne_eqb first byte (λ same. omega arith)) (ap suc (position_of_behind byte bytes rest (and_right (ltb byte first) (every (is_above byte) bytes) above)))

drop-behind : (byte : ℕ) (bytes rest : List ℕ) → drop (suc (length bytes)) (bytes ++ (byte ∷ rest)) ≡ rest
drop-behind byte [] rest = refl
drop-behind byte (first ∷ bytes) rest = drop-behind byte bytes rest

module _ (byte : ℕ) (bytes rest : List ℕ) (above : every (is_above byte) bytes ≡ true) where
  pub before-behind : before byte (bytes ++ (byte ∷ rest)) ≡ bytes
  before-behind = rw (position_of_behind byte bytes rest above) (take-append_seam bytes (byte ∷ rest))

  pub behind-behind : behind byte (bytes ++ (byte ∷ rest)) ≡ rest
  behind-behind = rw (position_of_behind byte bytes rest above) (drop-behind byte bytes rest)

-- ---- digits_of: digits, without a leading zero, that make the number

decimal_from-last : (bytes : List ℕ) (high byte : ℕ) → decimal_from high (bytes ++ (byte ∷ [])) ≡ decimal_from high bytes * 10 + (byte - 48)
decimal_from-last [] high byte = refl
decimal_from-last (first ∷ bytes) high byte = decimal_from-last bytes (high * 10 + (first - 48)) byte

non_empty-last : (bytes : List ℕ) (byte : ℕ) → non_empty (bytes ++ (byte ∷ [])) ≡ true
unfolding non_empty
non_empty-last [] byte = refl
non_empty-last (first ∷ bytes) byte = refl

first-append : (bytes others : List ℕ) → non_empty bytes ≡ true → get_or (bytes ++ others) 0 0 ≡ get_or bytes 0 0
unfolding non_empty
first-append [] others some_byte = absurd (false≢true some_byte)
first-append (first ∷ bytes) others some_byte = refl

no_leading_zero-append : (bytes : List ℕ) (byte : ℕ) → non_empty bytes ≡ true → (get_or bytes 0 0 ≡ 48 → ⊥) → no_leading_zero (bytes ++ (byte ∷ [])) ≡ true
unfolding non_empty no_leading_zero
no_leading_zero-append [] byte some_byte other = absurd (false≢true some_byte)
no_leading_zero-append (first ∷ []) byte some_byte other = rw (ne_eqb first 48 other)
no_leading_zero-append (first ∷ second ∷ bytes) byte some_byte other = rw (ne_eqb first 48 other)

digit-of : (n : ℕ) → n < 10 → is_digit (48 + n) ≡ true
digit-of n small = is_between-inside 48 57 (48 + n) (omega arith) (omega arith)

-- numbers of at most so many digits
abbrev pub bound : ℕ → ℕ
bound zero = 1
bound (suc digits) = 10 * bound digits

makes-by : (one : Bool) (digits n : ℕ)
    → ltb n 10 ≡ one
    → (n / 10 < bound digits → decimal_from 0 (digits_of digits (n / 10)) ≡ n / 10)
    → n < 10 * bound digits
    → decimal_from 0 (cond one ((48 + n) ∷ []) (digits_of digits (n / 10) ++ ((48 + n % 10) ∷ []))) ≡ n
makes-by true digits n test deeper small = omega arith
makes-by false digits n test deeper small = omega (arith, decimal_from-last (digits_of digits (n / 10)) 0 (48 + n % 10), deeper (omega arith))

pub digits_of-makes : (digits n : ℕ) → n < bound digits → decimal_from 0 (digits_of digits n) ≡ n
unfolding digits_of
digits_of-makes zero n small = omega arith
digits_of-makes (suc digits) n small = makes-by (ltb n 10) digits n refl (digits_of-makes digits (n / 10)) small

digits-by : (one : Bool) (digits n : ℕ)
    → ltb n 10 ≡ one
    → every is_digit (digits_of digits (n / 10)) ≡ true
    → every is_digit (cond one ((48 + n) ∷ []) (digits_of digits (n / 10) ++ ((48 + n % 10) ∷ []))) ≡ true
digits-by true digits n test deeper = rw (digit-of n (ltb-true n 10 test))
digits-by false digits n test deeper =
    every_append is_digit (digits_of digits (n / 10)) ((48 + n % 10) ∷ []) deeper (rw (digit-of (n % 10) (omega arith)))

pub digits_of-digits : (digits n : ℕ) → every is_digit (digits_of digits n) ≡ true
unfolding digits_of
digits_of-digits zero n = refl
digits_of-digits (suc digits) n = digits-by (ltb n 10) digits n refl (digits_of-digits digits (n / 10))

some-by : (one : Bool) (digits n : ℕ) → non_empty (cond one ((48 + n) ∷ []) (digits_of digits (n / 10) ++ ((48 + n % 10) ∷ []))) ≡ true
some-by true digits n = unfold non_empty in refl
some-by false digits n = non_empty-last (digits_of digits (n / 10)) (48 + n % 10)

digits_of-some : (digits n : ℕ) → non_empty (digits_of (suc digits) n) ≡ true
unfolding digits_of
digits_of-some digits n = some-by (ltb n 10) digits n

first_by : (one : Bool) (digits n : ℕ)
    → ltb n 10 ≡ one
    → 1 ≤ n
    → non_empty (digits_of digits (n / 10)) ≡ true
    → (1 ≤ n / 10 → get_or (digits_of digits (n / 10)) 0 0 ≡ 48 → ⊥)
    → get_or (cond one ((48 + n) ∷ []) (digits_of digits (n / 10) ++ ((48 + n % 10) ∷ []))) 0 0 ≡ 48
    → ⊥
first_by true digits n test positive some deeper zero-first = omega arith
first_by false digits n test positive some deeper zero-first =
    let large : 10 ≤ n = ltb-false n 10 test in
    deeper (omega arith) (sym (first-append (digits_of digits (n / 10)) ((48 + n % 10) ∷ []) some) ∙ zero-first)

-- a number that is not 0 does not begin with the digit 0
digits_of-first : (digits n : ℕ) → 1 ≤ n → n < bound (suc digits) → get_or (digits_of (suc digits) n) 0 0 ≡ 48 → ⊥
unfolding digits_of
digits_of-first zero n positive small zero-first = let one : ltb n 10 ≡ true = lt-ltb n 10 (omega arith) in omega (arith, rw one at zero-first)
digits_of-first (suc digits) n positive small zero-first =
    first_by (ltb n 10) (suc digits) n refl positive (digits_of-some digits (n / 10)) (λ more. digits_of-first digits (n / 10) more (omega arith)) zero-first

plain_by : (one : Bool) (digits n : ℕ)
    → ltb n 10 ≡ one
    → non_empty (digits_of digits (n / 10)) ≡ true
    → (1 ≤ n / 10 → get_or (digits_of digits (n / 10)) 0 0 ≡ 48 → ⊥)
    → no_leading_zero (cond one ((48 + n) ∷ []) (digits_of digits (n / 10) ++ ((48 + n % 10) ∷ []))) ≡ true
plain_by true digits n test some deeper = unfold no_leading_zero in refl
plain_by false digits n test some deeper =
    let large : 10 ≤ n = ltb-false n 10 test in
    no_leading_zero-append (digits_of digits (n / 10)) (48 + n % 10) some (deeper (omega arith))

pub digits_of-plain : (digits n : ℕ) → n < bound (suc (suc digits)) → no_leading_zero (digits_of (suc (suc digits)) n) ≡ true
unfolding digits_of
digits_of-plain digits n small = plain_by (ltb n 10) (suc digits) n refl (digits_of-some digits (n / 10)) (λ more. digits_of-first digits (n / 10) more (omega arith))

-- a number of 32 bits is read from its numeral
pub number_of_numeral : (n : ℕ) → n < 2 ^ 32 → number_of (numeral n) ≡ Some n
unfolding number_of
number_of_numeral n small =
    rw (digits_of-plain 8 n (omega arith), digits_of-some 9 n, digits_of-digits 10 n, digits_of-makes 10 n (omega arith), lt-ltb n (2 ^ 32) small)

pub numeral-above : (n : ℕ) → every (is_above 44) (numeral n) ≡ true
numeral-above n = every-weaker is_digit (is_above 44) (numeral n) digit-above (digits_of-digits 10 n)

-- ---- digit_count

count-tenth_by : (digits limit n : ℕ) (few : Bool) → ltb (n / 10) limit ≡ few
    → digit_count_from digits (10 * (10 * limit)) n ≡ digit_count_from digits (10 * limit) (n / 10)
    → cond (ltb n (10 * limit)) 1 (suc (digit_count_from digits (10 * (10 * limit)) n)) ≡ cond few 1 (suc (digit_count_from digits (10 * limit) (n / 10)))
count-tenth_by digits limit n true test deeper = rw (lt-ltb n (10 * limit) (omega (arith, ltb-true (n / 10) limit test)))
count-tenth_by digits limit n false test deeper = rw (le-ltb n (10 * limit) (omega (arith, ltb-false (n / 10) limit test)), deeper)

count-tenth : (digits limit n : ℕ) → digit_count_from digits (10 * limit) n ≡ digit_count_from digits limit (n / 10)
count-tenth zero limit n = refl
count-tenth (suc digits) limit n = count-tenth_by digits limit n (ltb (n / 10) limit) refl (count-tenth digits (10 * limit) n)

digits_of-length_by : (one : Bool) (digits n : ℕ) → length (digits_of digits (n / 10)) ≡ digit_count_from digits 10 (n / 10)
    → length (cond one ((48 + n) ∷ []) (digits_of digits (n / 10) ++ ((48 + n % 10) ∷ []))) ≡ cond one 1 (suc (digit_count_from digits 100 n))
digits_of-length_by true digits n deeper = refl
digits_of-length_by false digits n deeper =
    omega (arith, length-append (digits_of digits (n / 10)) ((48 + n % 10) ∷ []), deeper, count-tenth digits 10 n)

digits_of-length : (digits n : ℕ) → length (digits_of digits n) ≡ digit_count_from digits 10 n
unfolding digits_of
digits_of-length zero n = refl
digits_of-length (suc digits) n = digits_of-length_by (ltb n 10) digits n (digits_of-length digits (n / 10))

pub numeral-length : (n : ℕ) → length (numeral n) ≡ digit_count n
unfolding digit_count
numeral-length n = digits_of-length 10 n

-- ---- digit_count as a sum: the tests of `digit_count`

count-more_by : (digits bound n : ℕ) (few : Bool) → ltb n bound ≡ few
    → cond few 1 (suc (digit_count_from (suc digits) (10 * bound) n)) ≡ cond few 0 1 + digit_count_from (suc digits) (10 * bound) n
count-more_by digits bound n true few = let below = ltb-true n bound few in rw (lt-ltb n (10 * bound) (omega arith))
count-more_by digits bound n false many = omega arith

count-more : (digits bound n : ℕ) → digit_count_from (suc (suc digits)) bound n ≡ reaches bound n + digit_count_from (suc digits) (10 * bound) n
count-more digits bound n = count-more_by digits bound n (ltb n bound) refl

module _ (n : ℕ) where
  pub digit_count-small : n < 10000 → 1 + reaches 10 n + reaches 100 n + reaches 1000 n ≡ digit_count n
  unfolding digit_count
  digit_count-small small =
      let last : digit_count_from 7 10000 n ≡ 1 = rw (lt-ltb n 10000 small) in
      omega (arith, count-more 8 10 n, count-more 7 100 n, count-more 6 1000 n)

  pub digit_count-large : 10000 ≤ n → n < 2 ^ 32
      → 1 + reaches 10 n + reaches 100 n + reaches 1000 n + 1 + reaches 100000 n + reaches 1000000 n + reaches 10000000 n + reaches 100000000 n + reaches 1000000000 n ≡ digit_count n
  unfolding digit_count
  digit_count-large large few =
      let last : digit_count_from 1 10000000000 n ≡ 1 = rw (lt-ltb n 10000000000 (omega arith)) in
      rw (le-ltb n 10 (omega arith), le-ltb n 100 (omega arith), le-ltb n 1000 (omega arith), le-ltb n 10000 (omega arith))
      (omega (arith, count-more 4 100000 n, count-more 3 1000000 n, count-more 2 10000000 n, count-more 1 100000000 n, count-more 0 1000000000 n))

-- a digit more for each power of ten that is reached

abbrev pub powers_of_ten : List ℕ
powers_of_ten = 10 ∷ 100 ∷ 1000 ∷ 10000 ∷ 100000 ∷ 1000000 ∷ 10000000 ∷ 100000000 ∷ 1000000000 ∷ []

module _ (n : ℕ) where
  abbrev reached : ℕ → ℕ
  reached power = cond (leb power n) 1 0

  reached-by : (power : ℕ) (below : Bool) → ltb n power ≡ below → reached power ≡ reaches power n
  reached-by power true below = rw (below, lt-leb power n (ltb-true n power below))
  reached-by power false from = rw (from, le-leb power n (ltb-false n power from))

  reached-is : (power : ℕ) → reached power ≡ reaches power n
  reached-is power = reached-by power (ltb n power) refl

  none-reached : (power : ℕ) → n < power → reaches power n ≡ 0
  none-reached power below = rw (lt-ltb n power below)

  all-reached : (power : ℕ) → power ≤ n → reaches power n ≡ 1
  all-reached power from = rw (le-ltb n power from)

  counted : count_by (λ power. leb power n) powers_of_ten
      ≡ reaches 10 n + reaches 100 n + reaches 1000 n + reaches 10000 n + reaches 100000 n + reaches 1000000 n + reaches 10000000 n + reaches 100000000 n + reaches 1000000000 n
  counted = rw (reached-is 10, reached-is 100, reached-is 1000, reached-is 10000, reached-is 100000, reached-is 1000000, reached-is 10000000, reached-is 100000000, reached-is 1000000000, zero-add (reaches 10 n))

  powers-few : n < 10000 → 1 + count_by (λ power. leb power n) powers_of_ten ≡ digit_count n
  powers-few small =
      omega (
        arith,
        counted,
        digit_count-small n small,
        none-reached 10000 (omega arith),
        none-reached 100000 (omega arith),
        none-reached 1000000 (omega arith),
        none-reached 10000000 (omega arith),
        none-reached 100000000 (omega arith),
        none-reached 1000000000 (omega arith),
      )

  powers-by : n < 2 ^ 32 → (few : Bool) → ltb n 10000 ≡ few → 1 + count_by (λ power. leb power n) powers_of_ten ≡ digit_count n
  powers-by small true few = powers-few (ltb-true n 10000 few)
  powers-by small false many = let large = ltb-false n 10000 many in omega (arith, counted, digit_count-large n large small, all-reached 10000 large)

  pub digit_count-powers : n < 2 ^ 32 → 1 + count_by (λ power. leb power n) powers_of_ten ≡ digit_count n
  digit_count-powers small = powers-by small (ltb n 10000) refl

-- ---- digit_count: a number below a power of ten

-- the bound multiplied by ten so many times
abbrev pub scaled : ℕ → ℕ → ℕ
scaled zero bound = bound
scaled (suc steps) bound = scaled steps (10 * bound)

one_digit_more : (test : Bool) {rest digits : ℕ} → rest ≤ digits → cond test 1 (suc rest) ≤ suc digits
one_digit_more true few = omega arith
one_digit_more false few = omega arith

pub digits_from : (digits steps bound n : ℕ) → n < scaled steps bound → digit_count_from digits bound n ≤ suc steps
digits_from zero steps bound n below = omega arith
digits_from (suc digits) zero bound n below = rw (lt-ltb n bound below) (omega arith)
digits_from (suc digits) (suc steps) bound n below = one_digit_more (ltb n bound) (digits_from digits steps (10 * bound) n below)

all_digits : (digits bound n : ℕ) → digit_count_from digits bound n ≤ digits
all_digits zero bound n = omega arith
all_digits (suc digits) bound n = one_digit_more (ltb n bound) (all_digits digits (10 * bound) n)

pub digit_count-few : (n : ℕ) → digit_count n ≤ 10
unfolding digit_count
digit_count-few n = all_digits 10 10 n
