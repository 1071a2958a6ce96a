-- The message text, msg.txt (document 01, 'One list in full'): "one tag=value line a field". "A msg.txt over 65,536 bytes is refused with 1, and a line of another
-- form or without its line feed with 2, places as for texts. The tag is written as TAG above; the value is all behind the first =, perhaps empty."
-- Its fields are given by a field table over the text itself (`FieldTable.antt` of field_table). "one too small gives 13": three words a field are needed.
-- `Refusal` is declared in the crate refusals. Assumes nothing.
--
--   field_line_of line            the tag of a line, and where its value begins in the line, or None for a line of another form
--   rows_from first lines        the rows of lines of which the first begins at this index of the text, up to a line of another form
--   table_of text                the field table of the text
--   count_from count lines       how many fields there are where these lines come after so many, or the refusal of the first line of another form
--   message_text_of text          how many fields the text has, or its refusal
--   read_message_of text space    what `read_message` answers where so many words are lent
--   fields_in text words         what the lent words hold afterwards
use Rattle.std.specs.Prelude.{ℕ, ◌+◌, ◌*◌, List, [], ◌∷◌, ◌++◌, length, drop, if◌then◌else◌, Option, Some, None, Result, Ok, Err}
use Prim.Native.Char.{code}
use Rattle.ascii.specs.Notation.{◌≤ᵇ◌, ◌<ᵇ◌, ◌≡ᵇ◌}
use Rattle.ascii.specs.Bytes.{non_empty}
use Rattle.refusals.specs.declared.refusal.Refusal.TheVariants.{TextTooLong, UnknownForm, SpaceShort}
use Rattle.lines.specs.Lines.{position_of, before, Pieces, last, piece, lines_of}
use Rattle.lines.specs.LineParts.{number_of}
use Rattle.refusals.specs.declared.refusal.Refusal.{Refusal}

-- ---- a line

abbrev pub equals_sign : ℕ
equals_sign = code "="

abbrev pub field_with : ℕ → Option ℕ → Option (ℕ × ℕ)
field_with value (Some tag) = Some (tag, value)
field_with value None = None

unfoldable pub field_line_of : List ℕ → Option (ℕ × ℕ)
field_line_of line =
    if position_of equals_sign line ≡ᵇ length line
    then None
    else field_with (position_of equals_sign line + 1) (number_of (before equals_sign line))

-- ---- the field table: "tag, first byte, byte after the last, in the message"

abbrev pub rows_with : ℕ → ℕ → Option (ℕ × ℕ) → List ℕ → List ℕ
rows_with first past (Some (tag, value)) others = tag ∷ (first + value) ∷ past ∷ others
rows_with first past None others = []

unfoldable pub rows_from : ℕ → Pieces → List ℕ
rows_from first (last bytes) = []
rows_from first (piece line others) =
    rows_with first (first + length line) (field_line_of line) (rows_from (first + length line + 1) others)

abbrev pub table_of : List ℕ → List ℕ
table_of text = rows_from 0 (lines_of text)

-- ---- rows 1 and 2

abbrev pub on_field : Option (ℕ × ℕ) → Result ℕ Refusal → Result ℕ Refusal → Result ℕ Refusal
on_field (Some (tag, value)) goes_on refused = goes_on
on_field None goes_on refused = refused

unfoldable pub count_from : ℕ → Pieces → Result ℕ Refusal
count_from count (last bytes) = if non_empty bytes then Err (UnknownForm (count + 1)) else Ok count
count_from count (piece line others) = on_field (field_line_of line) (count_from (count + 1) others) (Err (UnknownForm (count + 1)))

unfoldable pub message_text_of : List ℕ → Result ℕ Refusal
message_text_of text = if 65536 <ᵇ length text then Err TextTooLong else count_from 0 (lines_of text)

-- ---- 13

abbrev pub space_answer : Result ℕ Refusal → ℕ → Result ℕ Refusal
space_answer (Ok count) space = if 3 * count ≤ᵇ space then Ok count else Err (SpaceShort (3 * count))
space_answer (Err refusal) space = Err refusal

abbrev pub space_with : Result ℕ Refusal → List ℕ → List ℕ → List ℕ
space_with (Ok count) table words = if 3 * count ≤ᵇ length words then table ++ drop (3 * count) words else words
space_with (Err refusal) table words = words

unfoldable pub read_message_of : List ℕ → ℕ → Result ℕ Refusal
read_message_of text space = space_answer (message_text_of text) space

unfoldable pub fields_in : List ℕ → List ℕ → List ℕ
fields_in text words = space_with (message_text_of text) (table_of text) words
