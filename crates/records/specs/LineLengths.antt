-- How long the text of a line is (`LineTexts.antt`), as the code counts it without writing the text (`text_of_length`, LineTextsLaws.antt). Assumes nothing.
--
--   digit_count n        how many digits a number of 32 bits has
--   reaches bound n     1 where the number is at least the bound
--   length_of line       how many bytes the line has, without its line feed
--   text_length lines    how many bytes the text of these lines has
use Rattle.std.specs.Prelude.{ℕ, zero, suc, ◌+◌, ◌*◌, Bool, true, false, List, [], ◌∷◌, get_or, if◌then◌else◌, Option, Some, None}
use Rattle.ascii.specs.Notation.{◌<ᵇ◌}
use Rattle.line_forms.specs.declared.line.Line.{Line}
use Rattle.line_forms.specs.declared.line.Line.TheVariants.{Def, Value, BeginHeader, BeginTrailer, EndHeader, EndTrailer, Component, Message, Field, Group, Use, End, Member, RequiredTag, Unknown}
use Rattle.records.specs.Records.{letters_length}

-- where numbers below `bound` have one digit, those below 10 * bound two, and so on up to `digits`
abbrev pub digit_count_from : ℕ → ℕ → ℕ → ℕ
digit_count_from zero bound n = 0
digit_count_from (suc digits) bound n = if n <ᵇ bound then 1 else suc (digit_count_from digits (10 * bound) n)

unfoldable pub digit_count : ℕ → ℕ
digit_count n = digit_count_from 10 10 n

-- 1 where the number is at least the bound
abbrev pub reaches : ℕ → ℕ → ℕ
reaches bound n = if n <ᵇ bound then 0 else 1

-- the lengths of the names of `FieldType`, Int to Reserved
abbrev pub type_lengths : List ℕ
type_lengths =
    3 ∷ 6 ∷ 6 ∷ 10 ∷ 6 ∷ 10 ∷ 5 ∷ 3 ∷ 5 ∷ 11 ∷ 3 ∷ 10 ∷ 4 ∷ 7 ∷ 6 ∷ 17 ∷ 19 ∷ 7 ∷ 8 ∷ 8 ∷ 9 ∷ 12 ∷ 11 ∷ 11 ∷ 12 ∷ 12 ∷ 10 ∷ 11 ∷ 4 ∷ 7 ∷ 8 ∷ 7 ∷ 5 ∷ 8 ∷ []

abbrev pub app_length : Bool → ℕ
app_length true = 3
app_length false = 5

abbrev pub end_length : Option ℕ → Option ℕ → ℕ
end_length read_number (Some letters) = 4 + letters_length letters
end_length (Some number) None = 4 + digit_count number
end_length None None = 0

unfoldable pub length_of : Line → ℕ
length_of (Def tag place) = 5 + digit_count tag + get_or type_lengths place 0
length_of (Value value) = 6 + value.len
length_of BeginHeader = 12
length_of BeginTrailer = 13
length_of EndHeader = 10
length_of EndTrailer = 11
length_of (Component name) = 10 + digit_count name
length_of (Message letters app) = 9 + letters_length letters + app_length app
length_of (Field tag required) = 8 + digit_count tag
length_of (Group count delimiter required) = 9 + digit_count count + digit_count delimiter
length_of (Use name required) = 6 + digit_count name
length_of (End number letters) = end_length number letters
length_of (Member tag) = 0
length_of (RequiredTag tag) = 0
length_of Unknown = 0

-- ---- the text of lines

-- each line ends with a line feed
unfoldable pub text_length : List Line → ℕ
text_length [] = 0
text_length (line ∷ rest) = length_of line + 1 + text_length rest
