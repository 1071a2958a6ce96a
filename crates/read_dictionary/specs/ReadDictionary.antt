-- The call `read_dictionary` (document 01, 'When the gate says no'): what it answers, and what the lent words hold afterwards. "Dictionary text: then 13."
-- Row 13: "event, verdict, dictionary or layout space short", place "words needed". "A refusal writes nothing; an answer leaves the words behind its last
-- one as they were." `Read` is declared in src/read_dictionary.rt; number and place of a refusal are in `Refusal.antt` of refusals. Assumes nothing.
--
--   text_lines text        the lines of a dictionary text
--   needed_for read        how many words the dictionary needs whose text was counted so
--   read_of text space     what the call answers, where so many words are lent
--   read_in text words     what the lent words hold afterwards
use Rattle.std.specs.Prelude.{ℕ, ◌+◌, ◌*◌, List, ◌++◌, length, drop, if◌then◌else◌, Result, Ok, Err}
use Rattle.ascii.specs.Notation.{◌≤ᵇ◌}
use Rattle.refusals.specs.declared.refusal.Refusal.TheVariants.{SpaceShort}
use Rattle.line_forms.specs.declared.line.Line.{Line}
use Rattle.texts.specs.declared.dictionary_text.Counts.{Counts}
use Rattle.lines.specs.Lines.{lines_of}
use Rattle.texts.specs.DictionaryText.{dictionary_text_of}
use Rattle.dictionary.specs.DictionaryWords.{dictionary_words, lines_in}
use Rattle.refusals.specs.declared.refusal.Refusal.{Refusal}

abbrev pub text_lines : List ℕ → List Line
text_lines text = lines_in (lines_of text)

-- a head of four words, ten a line, two for each name (`dictionary_words-length`)
abbrev pub needed_for : Counts → ℕ
needed_for read = 4 + 10 * read.lines + 2 * read.tags + 2 * read.components + 2 * read.messages

-- 13, or how many words are written
abbrev pub space_answer : List ℕ → ℕ → Result ℕ Refusal
space_answer dictionary space = if length dictionary ≤ᵇ space then Ok (length dictionary) else Err (SpaceShort (length dictionary))

abbrev pub space_with : List ℕ → List ℕ → List ℕ
space_with dictionary words = if length dictionary ≤ᵇ length words then dictionary ++ drop (length dictionary) words else words

-- 1 to 5 before it
abbrev pub text_answer : Result Counts Refusal → List ℕ → ℕ → Result ℕ Refusal
text_answer (Ok read) dictionary space = space_answer dictionary space
text_answer (Err refusal) dictionary space = Err refusal

abbrev pub text_with : Result Counts Refusal → List ℕ → List ℕ → List ℕ
text_with (Ok read) dictionary words = space_with dictionary words
text_with (Err refusal) dictionary words = words

unfoldable pub read_of : List ℕ → ℕ → Result ℕ Refusal
read_of text space = text_answer (dictionary_text_of text) (dictionary_words (text_lines text)) space

unfoldable pub read_in : List ℕ → List ℕ → List ℕ
read_in text words = text_with (dictionary_text_of text) (dictionary_words (text_lines text)) words
