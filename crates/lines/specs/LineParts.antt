-- The parts of a line. Document 01: "R is 1 for required, else 0. TAG, COUNT, DELIMITER and N are 32-bit, without leading zeros; 0 is allowed.
-- T is 1 to 4 letters or digits. V is 1 to 32 bytes, 21 to 7E hexadecimal." and "TYPE spelled as a `FieldType`". Letters and digits are ASCII's,
-- case matters; a TYPE is the name of a variant of `FieldType` (schema.rs), to the letter. Assumes nothing.
--
--   number_of bytes        what the bytes say where TAG, COUNT, DELIMITER or N stands
--   flag_of bytes          .. where R stands
--   type_of bytes          .. where TYPE stands: the place of the name among the names of `FieldType`, from 0
--   word_at first bytes    four bytes from `first` on as one number, the first highest, with 0 for a byte behind the last
--   message_type_of bytes   .. where T stands
--   value_of bytes         .. where V stands
use Rattle.std.specs.Prelude.{ℕ, ◌+◌, ◌*◌, ◌^◌, Bool, true, ◌&&◌, ◌||◌, not, List, [], ◌∷◌, length, get_or, if◌then◌else◌, Option, Some, None, false}
use Prim.Native.Char.{code}
use Rattle.ascii.specs.Notation.{◌<ᵇ◌, ◌≡ᵇ◌, is_between}
use Rattle.ascii.specs.Bytes.{ascii, every}
use Rattle.ascii.specs.Digits.{is_digits, decimal}
use Rattle.lines.specs.declared.line_parts.Admitted.{Admitted}
use Rattle.lines.specs.Lines.{is_same, Pieces, last, piece, cut, comma}

-- ---- TAG, COUNT, DELIMITER, N

unfoldable pub no_leading_zero : List ℕ → Bool
no_leading_zero [] = true
no_leading_zero (first ∷ []) = true
no_leading_zero (first ∷ second ∷ rest) = not (first ≡ᵇ code "0")

unfoldable pub number_of : List ℕ → Option ℕ
number_of bytes =
    if no_leading_zero bytes && (is_digits bytes && decimal bytes <ᵇ 2 ^ 32)
    then Some (decimal bytes)
    else None

-- ---- R

unfoldable pub flag_of : List ℕ → Option Bool
flag_of [] = None
flag_of (byte ∷ []) = if byte ≡ᵇ code "1" then (Some true) else if byte ≡ᵇ code "0" then (Some false) else None
flag_of (byte ∷ second ∷ rest) = None

-- ---- TYPE

-- the variants of `FieldType`, in the order of schema.rs
abbrev pub type_names : List ℕ
type_names = ascii "Int,Length,SeqNum,NumInGroup,TagNum,DayOfMonth,Float,Qty,Price,PriceOffset,Amt,Percentage,Char,Boolean,String,MultipleCharValue,MultipleStringValue,Country,Currency,Exchange,MonthYear,UtcTimestamp,UtcTimeOnly,UtcDateOnly,LocalMktDate,LocalMktTime,TzTimeOnly,TzTimestamp,Data,XmlData,Language,Pattern,Tenor,Reserved"

-- the place of the name among names of which the first has this number
unfoldable pub type_in : List ℕ → ℕ → Pieces → Option ℕ
type_in name number (last bytes) = if is_same name bytes then Some number else None
type_in name number (piece bytes others) = if is_same name bytes then Some number else type_in name (number + 1) others

unfoldable pub type_of : List ℕ → Option ℕ
type_of name = type_in name 0 (cut comma type_names)

-- ---- T

unfoldable pub word_at : ℕ → List ℕ → ℕ
word_at first bytes =
    get_or bytes first 0 * 16777216 + get_or bytes (first + 1) 0 * 65536 + get_or bytes (first + 2) 0 * 256 + get_or bytes (first + 3) 0

unfoldable pub is_alphanumeric : ℕ → Bool
is_alphanumeric byte = is_between (code "0") (code "9") byte || (is_between (code "A") (code "Z") byte || is_between (code "a") (code "z") byte)

unfoldable pub message_type_of : List ℕ → Option ℕ
message_type_of bytes =
    if is_between 1 4 (length bytes) && every is_alphanumeric bytes
    then Some (word_at 0 bytes)
    else None

-- ---- V

abbrev pub is_visible : ℕ → Bool
is_visible byte = is_between 0x21 0x7E byte

abbrev pub admitted_bytes : List ℕ → Admitted
admitted_bytes bytes = record {
  len = length bytes;
  word0 = word_at 0 bytes;
  word1 = word_at 4 bytes;
  word2 = word_at 8 bytes;
  word3 = word_at 12 bytes;
  word4 = word_at 16 bytes;
  word5 = word_at 20 bytes;
  word6 = word_at 24 bytes;
  word7 = word_at 28 bytes;
}

unfoldable pub value_of : List ℕ → Option Admitted
value_of bytes =
    if is_between 1 32 (length bytes) && every is_visible bytes
    then Some (admitted_bytes bytes)
    else None
