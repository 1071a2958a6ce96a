-- Laws of `Records.antt`, in its order: the loops of its tests, then that a line's record is read as the line (`line_from-record_of`), and that words that are
-- read as a line are its record (`record_of-line_from`), so that a line has one record and every word of it counts. Assumes nothing.
--
--   Held line         a record can hold the line: its numbers have 32 bits, its parts are what document 01 admits
use Rattle.std.specs.Prelude.{◌≡◌, ℕ, suc, ◌+◌, ◌-◌, ◌^◌, ◌≤◌, ◌<◌, Bool, true, false, ◌&&◌, cond, leb, ltb, eqb, get_or, take, drop, replicate, if◌then◌else◌, Option, Some, None, Ok, Err}
use Rattle.std.proofs.Math.Path.{refl}
use Rattle.std.proofs.Common.{sym, ap, ◌∙◌}
use mathlib.Core.List.{List, [], ◌∷◌}
use native.Mathlib.Omega.{arith}
use Rattle.std.specs.Int.Bits.{bit_or, or_add_and}
use Rattle.std.specs.List.{fold}
use Rattle.std.proofs.lemmas.Nat.{and_le_l, and_le_r}
use Rattle.std.proofs.Math.ListN.{length, drop_of_length-le}
use borrow.Author.Tests.{lt-ltb, le-ltb, ltb-true, le-leb, leb-true, ne_eqb, eqb-true, eqb-false}
use Rattle.ascii.specs.Notation.{◌≤ᵇ◌, ◌≡ᵇ◌}
use Rattle.ascii.specs.Bytes.{every}
use Rattle.ascii.specs.BytesLaws.{drop-step, part_to_end}
use Rattle.ascii.specs.NotationLaws.{and_left, and_right, and-true, and_assoc, if_same}
use Rattle.line_forms.specs.declared.line.Line.{Line}
use Rattle.line_forms.specs.declared.line.Line.TheVariants.{Def, Value, BeginHeader, BeginTrailer, EndHeader, EndTrailer, Component, Message, Field, Group, Use, End, Member, RequiredTag, Unknown}
use Rattle.lines.specs.LineParts.{number_of, is_visible}
use Rattle.records.specs.Records.{Words32, holds_byte, holds_part, letters_text, holds_letters, holds_value, is_zero, value_words, is_unused, flag_word, record4, record_of, if_unused, def_from, value_from, message_from, field_from, group_from, use_from, end_of_letters, end_of_number, outer_from, body_from, line_from}
use Rattle.records.specs.declared.record_kind.RecordKind.{RecordKind}
use Rattle.records.specs.declared.record_kind.UnknownKind.{UnknownKind}
use Rattle.records.specs.RecordKind.{kind_number, kind_numbered}
use Rattle.records.specs.RecordKindLaws.{NoneTo, number-kind_numbered, none-numbered}
use Rattle.records.specs.WordPairs.{pair_of, pair_at}

-- ---- holds_byte

module _ (test : ℕ → Bool) (left index byte : ℕ) where
  pub holds_byte-inside : index < left → holds_byte test left index byte ≡ test byte
  unfolding holds_byte
  holds_byte-inside inside = rw (lt-ltb index left inside)

  pub holds_byte-behind : left ≤ index → holds_byte test left index byte ≡ eqb byte 0
  unfolding holds_byte
  holds_byte-behind behind = rw (le-ltb index left behind)

-- ---- holds_value: the loop of `holds_value`

-- the words before `index` hold their part of the bytes, and `left` bytes are to come
pub record ValueSoFar (len : ℕ) (words : List ℕ) (left index : ℕ) : Type 0 where
  pub within : index ≤ length words
  pub held : holds_value len words ≡ holds_value left (drop index words)

pub value-begins : (len : ℕ) (words : List ℕ) → ValueSoFar len words len 0
value-begins len words = record { within = omega arith; held = refl }

module _ (len : ℕ) (words : List ℕ) (left index : ℕ) (so_far : ValueSoFar len words left index) where
  pub value-ends : length words ≤ index → holds_value len words ≡ eqb left 0
  unfolding holds_value
  value-ends over = so_far.held ∙ rw (drop_of_length-le words over)

  module _ (inside : index < length words) where
    pub value-stops : holds_part is_visible left (get_or words index 0) ≡ false → holds_value len words ≡ false
    unfolding holds_value
    value-stops other = so_far.held ∙ rw (drop-step words index inside, other)

    pub value-goes_on : (less : ℕ) → holds_part is_visible left (get_or words index 0) ≡ true → less ≡ left - 4 → ValueSoFar len words less (index + 1)
    unfolding holds_value
    value-goes_on less holds same = record { within = omega arith; held = so_far.held ∙ rw (drop-step words index inside, holds, ← same) }

-- ---- is_unused: words that are joined two at a time

is_unused-step : (used : ℕ) (words : List ℕ) → used < length words → is_unused used words ≡ is_zero (get_or words used 0) && is_unused (used + 1) words
unfolding is_unused
is_unused-step used words inside = rw (drop-step words used inside)

pub or-least : (a b : ℕ) → (a ≤ bit_or a b) × (b ≤ bit_or a b)
or-least a b =
    let together = or_add_and a b in
    let first = and_le_l a b in
    let second = and_le_r a b in
    (omega arith, omega arith)

pub or-none : (a b : ℕ) → bit_or a b ≡ 0 → (a ≡ 0) × (b ≡ 0)
or-none a b none = let least = or-least a b in (omega arith, omega arith)

or-zero_by : (a b : ℕ) (first second : Bool) → is_zero a ≡ first → is_zero b ≡ second → is_zero (bit_or a b) ≡ first && second
or-zero_by a b true true no-a no-b = rw (eqb-true a 0 no-a, eqb-true b 0 no-b)
or-zero_by a b true false no-a some-b = ne_eqb _ 0 (λ none. eqb-false b 0 some-b (or-none a b none).1)
or-zero_by a b false second some-a b-is = ne_eqb _ 0 (λ none. eqb-false a 0 some-a (or-none a b none).0)

or-zero : (a b : ℕ) → is_zero (bit_or a b) ≡ is_zero a && is_zero b
or-zero a b = or-zero_by a b _ _ refl refl

-- words that are joined one after the other
fold-or_zero : (joined : ℕ) (words : List ℕ) → is_zero (fold bit_or joined words) ≡ is_zero joined && every is_zero words
fold-or_zero joined [] = sym (and-true (is_zero joined))
fold-or_zero joined (word ∷ rest) = fold-or_zero (bit_or joined word) rest ∙ rw (or-zero joined word) (and_assoc (is_zero joined) (is_zero word) (every is_zero rest))

pub joined-zero : (words : List ℕ) → is_zero (fold bit_or 0 words) ≡ every is_zero words
joined-zero words = fold-or_zero 0 words

-- the words behind the first `used` of ten, joined
pub unused-joined : (used : ℕ) (words : List ℕ) → length words ≡ 10 → is_zero (fold bit_or 0 (take (10 - used) (drop used words))) ≡ is_unused used words
unfolding is_unused
unused-joined used words ten = joined-zero (take (10 - used) (drop used words)) ∙ rw (← ten, part_to_end words used)

pair_none : (low high : ℕ) → pair_of low high ≡ 0 → (low ≡ 0) × (high ≡ 0)
pair_none low high none = (omega arith, omega arith)

pair_zero_by : (low high : ℕ) (first second : Bool) → is_zero low ≡ first → is_zero high ≡ second → is_zero (pair_of low high) ≡ first && second
pair_zero_by low high true true no_low no_high = rw (eqb-true low 0 no_low, eqb-true high 0 no_high)
pair_zero_by low high true false no_low some-high = ne_eqb _ 0 (λ none. eqb-false high 0 some-high (pair_none low high none).1)
pair_zero_by low high false second some-low high_is = ne_eqb _ 0 (λ none. eqb-false low 0 some-low (pair_none low high none).0)

pair_zero : (words : List ℕ) (at : ℕ) → is_zero (pair_at words at) ≡ is_zero (get_or words at 0) && is_zero (get_or words (at + 1) 0)
pair_zero words at = pair_zero_by (get_or words at 0) (get_or words (at + 1) 0) _ _ refl refl

shared_word : (a b rest : Bool) → (a && b) && (b && rest) ≡ a && (b && rest)
shared_word false b rest = refl
shared_word true false rest = refl
shared_word true true rest = refl

module _ (words : List ℕ) (ten : length words ≡ 10) where
  abbrev zero_at : ℕ → Bool
  zero_at index = is_zero (get_or words index 0)

  module _ (at rest : ℕ) (inside : at < 9) where
    -- a pair before the words that stand behind it
    join-pair : is_zero rest ≡ is_unused (at + 1 + 1) words → is_zero (bit_or (pair_at words at) rest) ≡ is_unused at words
    join-pair behind =
        rw (or-zero (pair_at words at) rest, pair_zero words at, behind, is_unused-step at words (omega arith), is_unused-step (at + 1) words (omega arith))
        (and_assoc (zero_at at) (zero_at (at + 1)) (is_unused (at + 1 + 1) words))

    -- a pair before words of which the first is its own second
    join-shared : is_zero rest ≡ is_unused (at + 1) words → is_zero (bit_or (pair_at words at) rest) ≡ is_unused at words
    join-shared behind =
        rw (or-zero (pair_at words at) rest, pair_zero words at, behind, is_unused-step at words (omega arith), is_unused-step (at + 1) words (omega arith))
        (shared_word (zero_at at) (zero_at (at + 1)) (is_unused (at + 1 + 1) words))

  behind-eight : is_zero (pair_at words 8) ≡ is_unused 8 words
  unfolding is_unused
  behind-eight =
      let no_more : length words ≤ 10 = omega arith in
      rw (pair_zero words 8, is_unused-step 8 words (omega arith), is_unused-step 9 words (omega arith), drop_of_length-le words no_more, and-true (zero_at 9))

  pub behind-four : is_zero (bit_or (pair_at words 4) (bit_or (pair_at words 6) (pair_at words 8))) ≡ is_unused 4 words
  behind-four = join-pair 4 _ (omega arith) (join-pair 6 _ (omega arith) behind-eight)

  module _ (last : ℕ) (behind : is_zero last ≡ is_unused 4 words) where
    pub behind-three : is_zero (bit_or (pair_at words 3) last) ≡ is_unused 3 words
    behind-three = join-shared 3 last (omega arith) behind

    pub behind-two : is_zero (bit_or (pair_at words 2) last) ≡ is_unused 2 words
    behind-two = join-pair 2 last (omega arith) behind

    pub behind-one : is_zero (bit_or (pair_at words 1) (bit_or (pair_at words 3) last)) ≡ is_unused 1 words
    behind-one = join-pair 1 _ (omega arith) behind-three

  pub is_unused-short : is_zero (bit_or (pair_at words 3) (bit_or (pair_at words 4) (bit_or (pair_at words 6) (pair_at words 8)))) ≡ is_unused 3 words
  is_unused-short = behind-three _ behind-four

-- ---- record_of: the ninth word behind the kind, as a run of stores counts

pub add-nine : (at : ℕ) → at + 9 ≡ suc (suc (suc (suc (suc (suc (suc (suc (suc at))))))))
add-nine at = omega arith

-- ---- what a record can hold

abbrev pub HeldEnd : Option ℕ → Option ℕ → Type 0
HeldEnd number (Some letters) = (holds_letters letters ≡ true) × (number ≡ number_of (letters_text letters))
HeldEnd (Some number) None = (10000 ≤ number) × (number < 2 ^ 32)
HeldEnd None None = ⊥

abbrev pub Held : Line → Type 0
Held (Def tag place) = (tag < 2 ^ 32) × (place < 34)
Held (Value value) = (1 ≤ value.len) × (holds_value value.len (value_words value) ≡ true)
Held BeginHeader = Unit
Held BeginTrailer = Unit
Held EndHeader = Unit
Held EndTrailer = Unit
Held (Component name) = name < 2 ^ 32
Held (Message letters app) = holds_letters letters ≡ true
Held (Field tag required) = tag < 2 ^ 32
Held (Group count delimiter required) = (count < 2 ^ 32) × (delimiter < 2 ^ 32)
Held (Use name required) = name < 2 ^ 32
Held (End number letters) = HeldEnd number letters
Held (Member tag) = ⊥
Held (RequiredTag tag) = ⊥
Held Unknown = ⊥

-- ---- a line's record is read as the line

end_back : (number : Option ℕ) (letters : Option ℕ) → HeldEnd number letters → line_from (record_of (End number letters)) ≡ End number letters
unfolding line_from record_of body_from is_unused
end_back read_number (Some letters) held = rw (held.0, ← held.1)
end_back (Some number) None held = rw (le-leb 10000 number held.0)
end_back None None held = absurd held

pub line_from-record_of : (line : Line) → Held line → line_from (record_of line) ≡ line
unfolding line_from record_of outer_from body_from is_unused
line_from-record_of (Def tag place) held = rw (lt-ltb place 34 held.1)
line_from-record_of (Value value) held = rw (le-leb 1 value.len held.0, held.1)
line_from-record_of BeginHeader held = refl
line_from-record_of BeginTrailer held = refl
line_from-record_of EndHeader held = refl
line_from-record_of EndTrailer held = refl
line_from-record_of (Component name) held = refl
line_from-record_of (Message letters true) held = rw held
line_from-record_of (Message letters false) held = rw held
line_from-record_of (Field tag true) held = refl
line_from-record_of (Field tag false) held = refl
line_from-record_of (Group count delimiter true) held = refl
line_from-record_of (Group count delimiter false) held = refl
line_from-record_of (Use name true) held = refl
line_from-record_of (Use name false) held = refl
line_from-record_of (End number letters) held = end_back number letters held
line_from-record_of (Member tag) held = absurd held
line_from-record_of (RequiredTag tag) held = absurd held
line_from-record_of Unknown held = absurd held

end-length : (number : Option ℕ) (letters : Option ℕ) → length (record_of (End number letters)) ≡ 10
unfolding record_of
end-length read_number (Some letters) = refl
end-length (Some number) None = refl
end-length None None = refl

pub record_of-length : (line : Line) → length (record_of line) ≡ 10
unfolding record_of
record_of-length (Def tag place) = refl
record_of-length (Value value) = refl
record_of-length BeginHeader = refl
record_of-length BeginTrailer = refl
record_of-length EndHeader = refl
record_of-length EndTrailer = refl
record_of-length (Component name) = refl
record_of-length (Message letters app) = refl
record_of-length (Field tag required) = refl
record_of-length (Group count delimiter required) = refl
record_of-length (Use name required) = refl
record_of-length (End number letters) = end-length number letters
record_of-length (Member tag) = refl
record_of-length (RequiredTag tag) = refl
record_of-length Unknown = refl

-- ---- words that are read as a line are its record

-- what these words are read as, if it is a line, is held by just these words
abbrev pub Read : List ℕ → Line → Type 0
Read words line = (line ≡ Unknown → ⊥) → (record_of line ≡ words) × Held line

no_line : (words : List ℕ) → Read words Unknown
no_line words known = absurd (known refl)

read_by : (test : Bool) (words : List ℕ) (this that : Line)
    → (test ≡ true → Read words this)
    → (test ≡ false → Read words that)
    → Read words (cond test this that)
read_by true words this that yes' no' = yes' refl
read_by false words this that yes' no' = no' refl

-- a test that must hold
read-if : (test : Bool) (words : List ℕ) (this : Line) → (test ≡ true → Read words this) → Read words (cond test this Unknown)
read-if test words this holds = read_by test words this Unknown holds (λ fails. no_line words)

all-zero : (words : List ℕ) → every is_zero words ≡ true → words ≡ replicate (length words) 0
all-zero [] zeros = refl
all-zero (word ∷ rest) zeros =
    rw (eqb-true word 0 (and_left (eqb word 0) (every is_zero rest) zeros)) (ap (λ (words : List ℕ). 0 ∷ words) (all-zero rest (and_right (eqb word 0) (every is_zero rest) zeros)))

flag_by : (flag : ℕ) (test : Bool) → eqb flag 1 ≡ test → flag ≤ 1 → flag_word test ≡ flag
flag_by flag true same small = sym (eqb-true flag 1 same)
flag_by flag false other small = let differ : flag ≡ 1 → ⊥ = eqb-false flag 1 other in omega arith

flag-back : (flag : ℕ) → leb flag 1 ≡ true → flag_word (eqb flag 1) ≡ flag
flag-back flag small = flag_by flag (eqb flag 1) refl (leb-true flag 1 small)

abbrev ten_words : ℕ → ℕ → ℕ → ℕ → ℕ → ℕ → ℕ → ℕ → ℕ → ℕ → List ℕ
ten_words kind first second third fourth fifth sixth seventh eighth ninth =
    kind ∷ first ∷ second ∷ third ∷ fourth ∷ fifth ∷ sixth ∷ seventh ∷ eighth ∷ ninth ∷ []

module _ (kind first second third fourth fifth sixth seventh eighth ninth : ℕ) where
  abbrev words : List ℕ
  words = ten_words kind first second third fourth fifth sixth seventh eighth ninth

  module _ (small : Words32 words) where
    plain-read : (line : Line) (number : ℕ) → record_of line ≡ record4 number 0 0 0 → Held line → eqb kind number ≡ true → Read words (if_unused 1 words line)
    unfolding is_unused
    plain-read line number same held is =
        read-if (every is_zero (drop 1 words)) words line
        (λ zeros known. (let rest = all-zero (drop 1 words) zeros in same ∙ rw (eqb-true kind number is) (ap (λ (others : List ℕ). number ∷ others) (sym rest)), held))

    def_read : eqb kind 1 ≡ true → Read words (def_from words)
    unfolding is_unused record_of
    def_read is =
        read-if (ltb second 34) words _
        (λ place. read-if (every is_zero (drop 3 words)) words _
        (λ zeros known. (let rest = all-zero (drop 3 words) zeros in rw (eqb-true kind 1 is) (ap (λ (others : List ℕ). 1 ∷ first ∷ second ∷ others) (sym rest)), (small 1, ltb-true second 34 place))))

    value_read : eqb kind 2 ≡ true → Read words (value_from words)
    unfolding record_of
    value_read is =
        read-if (leb 1 first) words _
        (λ some_byte. read-if (holds_value first (drop 2 words)) words _
        (λ holds known. (rw (eqb-true kind 2 is), (leb-true 1 first some_byte, holds))))

    component-read : eqb kind 5 ≡ true → Read words (if_unused 2 words (Component first))
    unfolding is_unused record_of
    component-read is =
        read-if (every is_zero (drop 2 words)) words _
        (λ zeros known. (let rest = all-zero (drop 2 words) zeros in rw (eqb-true kind 5 is) (ap (λ (others : List ℕ). 5 ∷ first ∷ others) (sym rest)), small 1))

    flagged : (number : ℕ) → eqb kind number ≡ true → leb second 1 ≡ true → every is_zero (drop 3 words) ≡ true → record4 number first (flag_word (eqb second 1)) 0 ≡ words
    flagged number is flag zeros =
        let rest = all-zero (drop 3 words) zeros in
        rw (eqb-true kind number is, flag-back second flag) (ap (λ (others : List ℕ). number ∷ first ∷ second ∷ others) (sym rest))

    message-read : eqb kind 6 ≡ true → Read words (message_from words)
    unfolding is_unused record_of
    message-read is =
        read-if (holds_letters first) words _
        (λ letters. read-if (leb second 1) words _
        (λ flag. read-if (every is_zero (drop 3 words)) words _
        (λ zeros known. (flagged 6 is flag zeros, letters))))

    field_read : eqb kind 7 ≡ true → Read words (field_from words)
    unfolding is_unused record_of
    field_read is =
        read-if (leb second 1) words _
        (λ flag. read-if (every is_zero (drop 3 words)) words _
        (λ zeros known. (flagged 7 is flag zeros, small 1)))

    group-read : eqb kind 8 ≡ true → Read words (group_from words)
    unfolding is_unused record_of
    group-read is =
        read-if (leb third 1) words _
        (λ flag. read-if (every is_zero (drop 4 words)) words _
        (λ zeros known. (
          let rest = all-zero (drop 4 words) zeros in
              rw (eqb-true kind 8 is, flag-back third flag) (ap (λ (others : List ℕ). 8 ∷ first ∷ second ∷ third ∷ others) (sym rest)),
          (small 1, small 2),
        )))

    use_read : eqb kind 9 ≡ true → Read words (use_from words)
    unfolding is_unused record_of
    use_read is =
        read-if (leb second 1) words _
        (λ flag. read-if (every is_zero (drop 3 words)) words _
        (λ zeros known. (flagged 9 is flag zeros, small 1)))

    letters-read : eqb kind 12 ≡ true → Read words (end_of_letters words)
    unfolding is_unused record_of
    letters-read is =
        read-if (holds_letters first) words _
        (λ letters. read-if (every is_zero (drop 2 words)) words _
        (λ zeros known. (let rest = all-zero (drop 2 words) zeros in rw (eqb-true kind 12 is) (ap (λ (others : List ℕ). 12 ∷ first ∷ others) (sym rest)), (letters, refl))))

    number_read : eqb kind 13 ≡ true → Read words (end_of_number words)
    unfolding is_unused record_of
    number_read is =
        read-if (leb 10000 first) words _
        (λ large. read-if (every is_zero (drop 2 words)) words _
        (λ zeros known. (let rest = all-zero (drop 2 words) zeros in rw (eqb-true kind 13 is) (ap (λ (others : List ℕ). 13 ∷ first ∷ others) (sym rest)), (leb-true 10000 first large, small 1))))

    ten-read : Read words (line_from words)
    unfolding line_from outer_from body_from record_of
    ten-read =
        read_by (leb kind 6) words _ _
        (λ _.
        read_by (eqb kind 1) words _ _ def_read (λ _.
        read_by (eqb kind 2) words _ _ value_read (λ _.
        read_by (eqb kind 3) words _ _ (plain-read BeginHeader 3 refl tt) (λ _.
        read_by (eqb kind 4) words _ _ (plain-read BeginTrailer 4 refl tt) (λ _.
        read_by (eqb kind 5) words _ _ component-read (λ _.
        read-if (eqb kind 6) words _ message-read))))))
        (λ _.
        read_by (eqb kind 7) words _ _ field_read (λ _.
        read_by (eqb kind 8) words _ _ group-read (λ _.
        read_by (eqb kind 9) words _ _ use_read (λ _.
        read_by (eqb kind 10) words _ _ (plain-read EndHeader 10 refl tt) (λ _.
        read_by (eqb kind 11) words _ _ (plain-read EndTrailer 11 refl tt) (λ _.
        read_by (eqb kind 12) words _ _ letters-read (λ _.
        read-if (eqb kind 13) words _ number_read)))))))

-- ten words are ten_words
pub line_from-read : (words : List ℕ) → length words ≡ 10 → Words32 words → Read words (line_from words)
line_from-read [] ten small = absurd (omega arith)
line_from-read (w0 ∷ []) ten small = absurd (omega arith)
line_from-read (w0 ∷ w1 ∷ []) ten small = absurd (omega arith)
line_from-read (w0 ∷ w1 ∷ w2 ∷ []) ten small = absurd (omega arith)
line_from-read (w0 ∷ w1 ∷ w2 ∷ w3 ∷ []) ten small = absurd (omega arith)
line_from-read (w0 ∷ w1 ∷ w2 ∷ w3 ∷ w4 ∷ []) ten small = absurd (omega arith)
line_from-read (w0 ∷ w1 ∷ w2 ∷ w3 ∷ w4 ∷ w5 ∷ []) ten small = absurd (omega arith)
line_from-read (w0 ∷ w1 ∷ w2 ∷ w3 ∷ w4 ∷ w5 ∷ w6 ∷ []) ten small = absurd (omega arith)
line_from-read (w0 ∷ w1 ∷ w2 ∷ w3 ∷ w4 ∷ w5 ∷ w6 ∷ w7 ∷ []) ten small = absurd (omega arith)
line_from-read (w0 ∷ w1 ∷ w2 ∷ w3 ∷ w4 ∷ w5 ∷ w6 ∷ w7 ∷ w8 ∷ []) ten small = absurd (omega arith)
line_from-read (w0 ∷ w1 ∷ w2 ∷ w3 ∷ w4 ∷ w5 ∷ w6 ∷ w7 ∷ w8 ∷ w9 ∷ []) ten small = ten-read w0 w1 w2 w3 w4 w5 w6 w7 w8 w9 small
line_from-read (w0 ∷ w1 ∷ w2 ∷ w3 ∷ w4 ∷ w5 ∷ w6 ∷ w7 ∷ w8 ∷ w9 ∷ w10 ∷ rest) ten small = absurd (omega arith)

module _ (words : List ℕ) (ten : length words ≡ 10) (small : Words32 words) (known : line_from words ≡ Unknown → ⊥) where
  pub record_of-line_from : record_of (line_from words) ≡ words
  record_of-line_from = (line_from-read words ten small known).0

  pub line_from-held : Held (line_from words)
  line_from-held = (line_from-read words ten small known).1

-- ---- line_from: the arms of `line_from`

abbrev pub line_of_kind : ℕ → List ℕ → Line
line_of_kind kind words =
    if kind ≤ᵇ 6
    then if kind ≡ᵇ 1 then def_from words
    else if kind ≡ᵇ 2 then value_from words
    else if kind ≡ᵇ 3 then if_unused 1 words BeginHeader
    else if kind ≡ᵇ 4 then if_unused 1 words BeginTrailer
    else if kind ≡ᵇ 5 then if_unused 2 words (Component (get_or words 1 0))
    else if kind ≡ᵇ 6 then message_from words
    else Unknown
    else if kind ≡ᵇ 7 then field_from words
    else if kind ≡ᵇ 8 then group_from words
    else if kind ≡ᵇ 9 then use_from words
    else if kind ≡ᵇ 10 then if_unused 1 words EndHeader
    else if kind ≡ᵇ 11 then if_unused 1 words EndTrailer
    else if kind ≡ᵇ 12 then end_of_letters words
    else if kind ≡ᵇ 13 then end_of_number words
    else Unknown

pub line_from-kind : (words : List ℕ) (kind : ℕ) → get_or words 0 0 ≡ kind → line_of_kind kind words ≡ line_from words
unfolding line_from outer_from body_from
line_from-kind words kind same = ap (λ known. line_of_kind known words) (sym same)

pub line_from-other : (words : List ℕ) → NoneTo 13 (get_or words 0 0) → Unknown ≡ line_from words
line_from-other words none =
    sym (
    rw (
      ne_eqb (get_or words 0 0) 1 none.0.0.0.0.0.0.0.0.0.0.0.0.1,
      ne_eqb (get_or words 0 0) 2 none.0.0.0.0.0.0.0.0.0.0.0.1,
      ne_eqb (get_or words 0 0) 3 none.0.0.0.0.0.0.0.0.0.0.1,
      ne_eqb (get_or words 0 0) 4 none.0.0.0.0.0.0.0.0.0.1,
      ne_eqb (get_or words 0 0) 5 none.0.0.0.0.0.0.0.0.1,
      ne_eqb (get_or words 0 0) 6 none.0.0.0.0.0.0.0.1,
      ne_eqb (get_or words 0 0) 7 none.0.0.0.0.0.0.1,
      ne_eqb (get_or words 0 0) 8 none.0.0.0.0.0.1,
      ne_eqb (get_or words 0 0) 9 none.0.0.0.0.1,
      ne_eqb (get_or words 0 0) 10 none.0.0.0.1,
      ne_eqb (get_or words 0 0) 11 none.0.0.1,
      ne_eqb (get_or words 0 0) 12 none.0.1,
      ne_eqb (get_or words 0 0) 13 none.1,
    ) (if_same (leb (get_or words 0 0) 6) Unknown)
    ) ∙ line_from-kind words (get_or words 0 0) refl

-- the words of a kind, and those of none
module _ (words : List ℕ) where
  pub line_from-numbered : (known kind : RecordKind) → Ok kind ≡ kind_numbered (get_or words 0 0) → kind ≡ known → line_of_kind (kind_number known) words ≡ line_from words
  line_from-numbered known kind numbered same = line_from-kind words (kind_number known) (number-kind_numbered (get_or words 0 0) kind (sym numbered) ∙ ap kind_number same)

  pub line_from-unknown : (unknown : UnknownKind) → Err unknown ≡ kind_numbered (get_or words 0 0) → Unknown ≡ line_from words
  line_from-unknown unknown numbered = line_from-other words (none-numbered (get_or words 0 0) unknown (sym numbered))

-- the ten words that `&words[at..past]` lends
pub line_from-part : (words : List ℕ) (at past : ℕ) → past ≡ at + 10 → line_from (take (past - at) (drop at words)) ≡ line_from (take 10 (drop at words))
line_from-part words at past same = let ten : past - at ≡ 10 = omega arith in rw ten
