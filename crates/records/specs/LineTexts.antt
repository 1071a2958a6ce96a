-- The text of a line, as document 01 writes it ('The layout of a message type'), without its line feed. A line is read from one text only,
-- since numbers have no leading zeros and names are spelled in one way; so the words of a dictionary stand for the text they were read from.
-- Assumes nothing.
--
--   numeral n           the number in decimal, without leading zeros
--   type_text place      the name of `FieldType` at this place
--   bytes_from left words   the first `left` bytes of the words
--   text_of line         the bytes of the line, without its line feed
use Rattle.std.specs.Prelude.{ℕ, zero, suc, ◌+◌, ◌-◌, ◌/◌, ◌%◌, Bool, true, false, List, [], ◌∷◌, ◌++◌, take, if◌then◌else◌, Option, Some, None}
use Prim.Native.Char.{code}
use Rattle.ascii.specs.Notation.{◌<ᵇ◌}
use Rattle.ascii.specs.Bytes.{ascii}
use Rattle.line_forms.specs.declared.line.Line.{Line}
use Rattle.line_forms.specs.declared.line.Line.TheVariants.{Def, Value, BeginHeader, BeginTrailer, EndHeader, EndTrailer, Component, Message, Field, Group, Use, End, Member, RequiredTag, Unknown}
use Rattle.lines.specs.declared.line_parts.Admitted.{Admitted}
use Rattle.lines.specs.Lines.{Pieces, last, piece, cut, comma}
use Rattle.lines.specs.LineParts.{type_names}
use Rattle.records.specs.Records.{bytes_of, letters_text, value_words}

-- ---- TAG, COUNT, DELIMITER, N

-- the last digits of a number, at most so many
unfoldable pub digits_of : ℕ → ℕ → List ℕ
digits_of zero n = []
digits_of (suc digits) n =
    if n <ᵇ 10
    then (code "0" + n) ∷ []
    else digits_of digits (n / 10) ++ ((code "0" + n % 10) ∷ [])

-- a number of 32 bits has at most ten digits
abbrev pub numeral : ℕ → List ℕ
numeral n = digits_of 10 n

-- ---- R

abbrev pub flag_text : Bool → List ℕ
flag_text true = ascii "1"
flag_text false = ascii "0"

-- ---- TYPE

unfoldable pub name_at : ℕ → Pieces → List ℕ
name_at zero (last bytes) = bytes
name_at zero (piece bytes others) = bytes
name_at (suc place) (last bytes) = []
name_at (suc place) (piece bytes others) = name_at place others

unfoldable pub type_text : ℕ → List ℕ
type_text place = name_at place (cut comma type_names)

-- ---- V

unfoldable pub bytes_from : ℕ → List ℕ → List ℕ
bytes_from left [] = []
bytes_from left (word ∷ rest) = take left (bytes_of word) ++ bytes_from (left - 4) rest

unfoldable pub value_text : Admitted → List ℕ
value_text value = bytes_from value.len (value_words value)

-- ---- a line

abbrev pub app_text : Bool → List ℕ
app_text true = ascii "app"
app_text false = ascii "admin"

abbrev pub end_text : Option ℕ → Option ℕ → List ℕ
end_text read_number (Some letters) = ascii "end=" ++ letters_text letters
end_text (Some number) None = ascii "end=" ++ numeral number
end_text None None = []

unfoldable pub text_of : Line → List ℕ
text_of (Def tag place) = ascii "def=" ++ (numeral tag ++ (comma ∷ type_text place))
text_of (Value value) = ascii "value=" ++ value_text value
text_of BeginHeader = ascii "begin=header"
text_of BeginTrailer = ascii "begin=trailer"
text_of EndHeader = ascii "end=header"
text_of EndTrailer = ascii "end=trailer"
text_of (Component name) = ascii "component=" ++ numeral name
text_of (Message letters app) = ascii "message=" ++ (letters_text letters ++ (comma ∷ app_text app))
text_of (Field tag required) = ascii "field=" ++ (numeral tag ++ (comma ∷ flag_text required))
text_of (Group count delimiter required) = ascii "group=" ++ (numeral count ++ (comma ∷ (numeral delimiter ++ (comma ∷ flag_text required))))
text_of (Use name required) = ascii "use=" ++ (numeral name ++ (comma ∷ flag_text required))
text_of (End number letters) = end_text number letters
text_of (Member tag) = []
text_of (RequiredTag tag) = []
text_of Unknown = []
