-- The words of a dictionary: their arrangement, from the lines of its text. docs/ARRANGEMENT.md says the same in a table.
--
--   word 0                 the number of lines
--   words 1, 2, 3          the number of definitions, of components, of messages
--   words 4 on             the records of the lines, ten words each, in the text's order (`Records.antt`)
--   behind them            the index of the definitions: their tags in ascending order, then for each of these tags the number of its record, from 0;
--                          the index of the components by N, and that of the messages by T, likewise
--
-- A record whose kind is that of a definition, a component or a message has its name in the word behind its kind: the tag, N or the letters of T. Assumes nothing.
--
--   lines_in pieces               the lines of a text that was cut at its line feeds
--   is_of kind line               the line's record is of this kind
--   name_of line                  the word behind the kind
--   names_of kind lines           the names of the lines of this kind, in the text's order
--   place_of kind name lines      the number of the record that has this kind and this name
--   index_of kind lines           the names in ascending order, then the place of each
--   dictionary_words lines        the words of the dictionary that has these lines
--   word_lines words              the lines that the words tell; for the words of an accepted text its lines (`word_lines-arranged`, WordLinesLaws.antt)
use Rattle.std.specs.Prelude.{ℕ, suc, Bool, ◌&&◌, List, [], ◌∷◌, ◌++◌, map, length, get_or, drop, if◌then◌else◌}
use Rattle.ascii.specs.Notation.{◌≡ᵇ◌}
use Rattle.ascending.specs.Sort.{sorted}
use Rattle.line_forms.specs.declared.line.Line.{Line}
use Rattle.lines.specs.Lines.{Pieces, last, piece}
use Rattle.line_forms.specs.LineForms.{line_of}
use Rattle.records.specs.Records.{record_of, lines_from}
use Rattle.records.specs.declared.record_kind.RecordKind.TheVariants.{Def, Component, Message}
use Rattle.records.specs.RecordKind.{kind_number}

-- ---- kinds that an index has

abbrev pub definitions : ℕ
definitions = kind_number Def

abbrev pub components : ℕ
components = kind_number Component

abbrev pub messages : ℕ
messages = kind_number Message

-- ---- names

unfoldable pub is_of : ℕ → Line → Bool
is_of kind line = get_or (record_of line) 0 0 ≡ᵇ kind

unfoldable pub name_of : Line → ℕ
name_of line = get_or (record_of line) 1 0

unfoldable pub names_of : ℕ → List Line → List ℕ
names_of kind [] = []
names_of kind (line ∷ rest) = if is_of kind line then name_of line ∷ names_of kind rest else names_of kind rest

unfoldable pub place_of : ℕ → ℕ → List Line → ℕ
place_of kind name [] = 0
place_of kind name (line ∷ rest) = if is_of kind line && name_of line ≡ᵇ name then 0 else suc (place_of kind name rest)

-- ---- the lines of a text

unfoldable pub lines_in : Pieces → List Line
lines_in (last bytes) = []
lines_in (piece bytes others) = line_of bytes ∷ lines_in others

-- ---- the arrangement

unfoldable pub records_of : List Line → List ℕ
records_of [] = []
records_of (line ∷ rest) = record_of line ++ records_of rest

unfoldable pub index_of : ℕ → List Line → List ℕ
index_of kind lines =
    sorted (names_of kind lines)
    ++ map (λ name. place_of kind name lines) (sorted (names_of kind lines))

unfoldable pub dictionary_words : List Line → List ℕ
dictionary_words lines =
    length lines
    ∷ length (names_of definitions lines)
    ∷ length (names_of components lines)
    ∷ length (names_of messages lines)
    ∷ (records_of lines ++ (index_of definitions lines ++ (index_of components lines ++ index_of messages lines)))

-- ---- and back

abbrev pub word_lines : List ℕ → List Line
word_lines words = lines_from (get_or words 0 0) (drop 4 words)
