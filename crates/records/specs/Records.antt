-- A record: a line of a dictionary text as ten words of 32 bits, the number of its kind first (`RecordKind.antt`). A word that a kind does not use is 0.
--
--   kind   line                       the words behind the kind
--     1    def=TAG,TYPE               TAG, the place of TYPE among the names of `FieldType`, from 0
--     2    value=V                    how many bytes V has, its bytes in eight words
--     3    begin=header
--     4    begin=trailer
--     5    component=N                N
--     6    message=T,app or T,admin   the letters of T, 1 for app and 0 for admin
--     7    field=TAG,R                TAG, R
--     8    group=COUNT,DELIMITER,R    COUNT, DELIMITER, R
--     9    use=N,R                    N, R
--    10    end=header
--    11    end=trailer
--    12    end=X, X a T               the letters of X: an X of at most four characters, also where it is a number
--    13    end=X, X no T              the number X: 10,000 or more
--
-- Bytes stand four to a word, the first highest, and 0 behind the last one (`word_at` of texts). Every word of a record is given by the line, and ten words
-- that are the record of no line are read as `Unknown`. Assumes nothing.
--
--   bytes_of word                 the four bytes of a word
--   holds_part test left word     the first `left` bytes of the word pass the test, those behind them are 0
--   letters_text word             the letters or digits of a T
--   holds_letters word            the word is some T's
--   holds_value left words        the words hold `left` bytes 21 to 7E, then 0
--   record_of line                the ten words of a line
--   line_from record              the line of ten words
--   flag_from record              the flag in the third word, where it is the last that is used
--   lines_from count words        the lines of so many records
--   Words32 words                every word has 32 bits, as the words that are lent have
use Rattle.std.specs.Prelude.{ℕ, zero, suc, ◌-◌, ◌/◌, ◌%◌, ◌^◌, ◌<◌, Bool, true, false, ◌&&◌, List, [], ◌∷◌, get_or, take, drop, replicate, if◌then◌else◌, Option, Some, None}
use Rattle.ascii.specs.Notation.{◌≤ᵇ◌, ◌<ᵇ◌, ◌≡ᵇ◌}
use Rattle.ascii.specs.Bytes.{every}
use Rattle.line_forms.specs.declared.line.Line.{Line}
use Rattle.line_forms.specs.declared.line.Line.TheVariants.{Def, Value, BeginHeader, BeginTrailer, EndHeader, EndTrailer, Component, Message, Field, Group, Use, End, Member, RequiredTag, Unknown}
use Rattle.lines.specs.declared.line_parts.Admitted.{Admitted}
use Rattle.lines.specs.LineParts.{number_of, is_alphanumeric, is_visible}

-- ---- bytes in words

abbrev pub byte0 : ℕ → ℕ
byte0 word = word / 16777216

abbrev pub byte1 : ℕ → ℕ
byte1 word = word / 65536 % 256

abbrev pub byte2 : ℕ → ℕ
byte2 word = word / 256 % 256

abbrev pub byte3 : ℕ → ℕ
byte3 word = word % 256

abbrev pub bytes_of : ℕ → List ℕ
bytes_of word = byte0 word ∷ byte1 word ∷ byte2 word ∷ byte3 word ∷ []

abbrev pub is_zero : ℕ → Bool
is_zero word = word ≡ᵇ 0

-- the byte with this index, where `left` bytes are to pass the test
unfoldable pub holds_byte : (ℕ → Bool) → ℕ → ℕ → ℕ → Bool
holds_byte test left index byte = if index <ᵇ left then test byte else is_zero byte

unfoldable pub holds_part : (ℕ → Bool) → ℕ → ℕ → Bool
holds_part test left word =
    holds_byte test left 0 (byte0 word)
    && (holds_byte test left 1 (byte1 word) && (holds_byte test left 2 (byte2 word) && holds_byte test left 3 (byte3 word)))

-- "T is 1 to 4 letters or digits."

unfoldable pub letters_length : ℕ → ℕ
letters_length word =
    if is_zero (byte1 word) then 1
    else if is_zero (byte2 word) then 2
    else if is_zero (byte3 word) then 3
    else 4

unfoldable pub letters_text : ℕ → List ℕ
letters_text word = take (letters_length word) (bytes_of word)

unfoldable pub holds_letters : ℕ → Bool
holds_letters word = holds_part is_alphanumeric (letters_length word) word

-- "V is 1 to 32 bytes, 21 to 7E hexadecimal."

unfoldable pub holds_value : ℕ → List ℕ → Bool
holds_value left [] = left ≡ᵇ 0
holds_value left (word ∷ rest) = holds_part is_visible left word && holds_value (left - 4) rest

abbrev pub value_words : Admitted → List ℕ
value_words value =
    value.word0 ∷ value.word1 ∷ value.word2 ∷ value.word3 ∷ value.word4 ∷ value.word5 ∷ value.word6 ∷ value.word7 ∷ []

-- ---- the record of a line

abbrev pub flag_word : Bool → ℕ
flag_word true = 1
flag_word false = 0

-- a kind and three words
abbrev pub record4 : ℕ → ℕ → ℕ → ℕ → List ℕ
record4 kind first second third = kind ∷ first ∷ second ∷ third ∷ replicate 6 0

abbrev pub value_record : Admitted → List ℕ
value_record value = 2 ∷ value.len ∷ value_words value

abbrev pub end_record : Option ℕ → Option ℕ → List ℕ
end_record read_number (Some letters) = record4 12 letters 0 0
end_record (Some number) None = record4 13 number 0 0
end_record None None = record4 0 0 0 0

unfoldable pub record_of : Line → List ℕ
record_of (Def tag place) = record4 1 tag place 0
record_of (Value value) = value_record value
record_of BeginHeader = record4 3 0 0 0
record_of BeginTrailer = record4 4 0 0 0
record_of (Component name) = record4 5 name 0 0
record_of (Message letters app) = record4 6 letters (flag_word app) 0
record_of (Field tag required) = record4 7 tag (flag_word required) 0
record_of (Group count delimiter required) = record4 8 count delimiter (flag_word required)
record_of (Use name required) = record4 9 name (flag_word required) 0
record_of EndHeader = record4 10 0 0 0
record_of EndTrailer = record4 11 0 0 0
record_of (End number letters) = end_record number letters
record_of (Member tag) = record4 0 0 0 0
record_of (RequiredTag tag) = record4 0 0 0 0
record_of Unknown = record4 0 0 0 0

-- ---- the line of a record

-- the words of the record behind the first `used` are 0
unfoldable pub is_unused : ℕ → List ℕ → Bool
is_unused used words = every is_zero (drop used words)

abbrev pub if_unused : ℕ → List ℕ → Line → Line
if_unused used words line = if is_unused used words then line else Unknown

abbrev pub def_from : List ℕ → Line
def_from words =
    if get_or words 2 0 <ᵇ 34
    then if_unused 3 words (Def (get_or words 1 0) (get_or words 2 0))
    else Unknown

abbrev pub admitted_from : List ℕ → Admitted
admitted_from words = record {
  len = get_or words 1 0;
  word0 = get_or words 2 0;
  word1 = get_or words 3 0;
  word2 = get_or words 4 0;
  word3 = get_or words 5 0;
  word4 = get_or words 6 0;
  word5 = get_or words 7 0;
  word6 = get_or words 8 0;
  word7 = get_or words 9 0;
}

abbrev pub value_from : List ℕ → Line
value_from words =
    if 1 ≤ᵇ get_or words 1 0
    then if holds_value (get_or words 1 0) (drop 2 words) then Value (admitted_from words) else Unknown
    else Unknown

abbrev pub message_from : List ℕ → Line
message_from words =
    if holds_letters (get_or words 1 0)
    then if get_or words 2 0 ≤ᵇ 1 then if_unused 3 words (Message (get_or words 1 0) (get_or words 2 0 ≡ᵇ 1)) else Unknown
    else Unknown

-- the flag that stands last of the words that are used
abbrev pub flag_from : List ℕ → Option Bool
flag_from words =
    if get_or words 2 0 ≤ᵇ 1
    then if is_unused 3 words then Some (get_or words 2 0 ≡ᵇ 1) else None
    else None

abbrev pub field_from : List ℕ → Line
field_from words =
    if get_or words 2 0 ≤ᵇ 1
    then if_unused 3 words (Field (get_or words 1 0) (get_or words 2 0 ≡ᵇ 1))
    else Unknown

abbrev pub group_from : List ℕ → Line
group_from words =
    if get_or words 3 0 ≤ᵇ 1
    then if_unused 4 words (Group (get_or words 1 0) (get_or words 2 0) (get_or words 3 0 ≡ᵇ 1))
    else Unknown

abbrev pub use_from : List ℕ → Line
use_from words =
    if get_or words 2 0 ≤ᵇ 1
    then if_unused 3 words (Use (get_or words 1 0) (get_or words 2 0 ≡ᵇ 1))
    else Unknown

abbrev pub end_of_letters : List ℕ → Line
end_of_letters words =
    if holds_letters (get_or words 1 0)
    then if_unused 2 words (End (number_of (letters_text (get_or words 1 0))) (Some (get_or words 1 0)))
    else Unknown

abbrev pub end_of_number : List ℕ → Line
end_of_number words =
    if 10000 ≤ᵇ get_or words 1 0
    then if_unused 2 words (End (Some (get_or words 1 0)) None)
    else Unknown

-- kinds 1 to 6
unfoldable pub outer_from : List ℕ → Line
outer_from words =
    if get_or words 0 0 ≡ᵇ 1 then def_from words
    else if get_or words 0 0 ≡ᵇ 2 then value_from words
    else if get_or words 0 0 ≡ᵇ 3 then if_unused 1 words BeginHeader
    else if get_or words 0 0 ≡ᵇ 4 then if_unused 1 words BeginTrailer
    else if get_or words 0 0 ≡ᵇ 5 then if_unused 2 words (Component (get_or words 1 0))
    else if get_or words 0 0 ≡ᵇ 6 then message_from words
    else Unknown

-- kinds 7 to 13
unfoldable pub body_from : List ℕ → Line
body_from words =
    if get_or words 0 0 ≡ᵇ 7 then field_from words
    else if get_or words 0 0 ≡ᵇ 8 then group_from words
    else if get_or words 0 0 ≡ᵇ 9 then use_from words
    else if get_or words 0 0 ≡ᵇ 10 then if_unused 1 words EndHeader
    else if get_or words 0 0 ≡ᵇ 11 then if_unused 1 words EndTrailer
    else if get_or words 0 0 ≡ᵇ 12 then end_of_letters words
    else if get_or words 0 0 ≡ᵇ 13 then end_of_number words
    else Unknown

unfoldable pub line_from : List ℕ → Line
line_from words = if get_or words 0 0 ≤ᵇ 6 then outer_from words else body_from words

-- ---- the lines of records

unfoldable pub lines_from : ℕ → List ℕ → List Line
lines_from zero words = []
lines_from (suc count) words = line_from (take 10 words) ∷ lines_from count (drop 10 words)

abbrev pub Words32 : List ℕ → Type 0
Words32 words = (place : ℕ) → get_or words place 0 < 2 ^ 32
