-- The dictionary text, read as a whole: rows 1 to 5 of document 01's 'When the gate says no'. Rows 2 to 4 are found by reading the lines in order
-- (`DictionaryOrder.antt`), row 5 by comparing what they define; the first faulty line of the two decides, and on one line the lower number.
-- Assumes nothing.
--
--   defined_by line             the tag, component or message type that the line defines, if any
--   order_of text               rows 2 to 4: the first line of no known form, out of place or of a 41st group block; else what the text has
--   again_of text               row 5: the first line that defines again what a line before it defines
--   dictionary_text_of text      rows 1 to 5: what an accepted dictionary text has, or the refusal
use Rattle.std.specs.Prelude.{ℕ, ◌+◌, Bool, false, ◌||◌, List, [], ◌∷◌, ◌++◌, length, if◌then◌else◌, Option, Some, None, Result, Ok, Err}
use Rattle.ascii.specs.Notation.{◌<ᵇ◌, ◌≡ᵇ◌}
use Rattle.ascii.specs.Bytes.{non_empty}
use Rattle.refusals.specs.declared.refusal.Refusal.{Refusal}
use Rattle.refusals.specs.declared.refusal.Refusal.TheVariants.{TextTooLong, UnknownForm, NotAllowed, DefinedAgain}
use Rattle.line_forms.specs.declared.line.Line.{Line}
use Rattle.line_forms.specs.declared.line.Line.TheVariants.{Def, Value, BeginHeader, BeginTrailer, EndHeader, EndTrailer, Component, Message, Field, Group, Use, End, Member, RequiredTag, Unknown}
use Rattle.dictionary_order.specs.declared.dictionary_order.State.{State}
use Rattle.texts.specs.declared.dictionary_text.Defined.{Defined}
use Rattle.texts.specs.declared.dictionary_text.Defined.TheVariants.{Tag, ComponentName, MessageName}
use Rattle.texts.specs.declared.dictionary_text.Counts.{Counts}
use Rattle.refusals.specs.Refusal.{refusal_place}
use Rattle.lines.specs.Lines.{Pieces, last, piece, lines_of}
use Rattle.line_forms.specs.LineForms.{line_of}
use Rattle.dictionary_order.specs.DictionaryOrder.{start, step_of, may_end}

-- ---- what a line defines

abbrev pub defined_by : Line → Option Defined
defined_by (Def tag place) = Some (Tag tag)
defined_by (Value admitted) = None
defined_by BeginHeader = None
defined_by BeginTrailer = None
defined_by EndHeader = None
defined_by EndTrailer = None
defined_by (Component name) = Some (ComponentName name)
defined_by (Message letters app) = Some (MessageName letters)
defined_by (Field tag required) = None
defined_by (Group count delimiter required) = None
defined_by (Use name required) = None
defined_by (End name read_letters) = None
defined_by (Member tag) = None
defined_by (RequiredTag tag) = None
defined_by Unknown = None

-- ---- the lines of a text, counted

abbrev pub counts : ℕ → ℕ → ℕ → ℕ → Counts
counts lines tags components messages = record { lines = lines; tags = tags; components = components; messages = messages }

abbrev pub counted : Counts → Option Defined → Counts
counted before (Some (Tag tag)) = counts (before.lines + 1) (before.tags + 1) before.components before.messages
counted before (Some (ComponentName name)) = counts (before.lines + 1) before.tags (before.components + 1) before.messages
counted before (Some (MessageName letters)) = counts (before.lines + 1) before.tags before.components (before.messages + 1)
counted before None = counts (before.lines + 1) before.tags before.components before.messages

-- ---- rows 2 to 4

-- row 3: "or the text stops with a block open, or a dictionary text before `end=trailer`"; the place is "last plus 1"
abbrev pub at_end : State → Counts → Result Counts Refusal
at_end state read =
    if may_end state
    then Ok read
    else Err (NotAllowed (read.lines + 1))

abbrev pub on_taken : Result State Refusal → (State → Result Counts Refusal) → Result Counts Refusal
on_taken (Ok next) goes_on = goes_on next
on_taken (Err refusal) goes_on = Err refusal

-- "Texts are read from the top .. the first faulty line decides, its number (from 1) being the place"; "a last line without its line feed is of
-- no known form"
unfoldable pub order_from : State → Counts → Pieces → Result Counts Refusal
order_from state read (last bytes) = if non_empty bytes then Err (UnknownForm (read.lines + 1)) else at_end state read
order_from state read (piece bytes others) =
    on_taken (step_of state (read.lines + 1) (line_of bytes)) (λ next. order_from next (counted read (defined_by (line_of bytes))) others)

unfoldable pub order_of : List ℕ → Result Counts Refusal
order_of text = order_from start (counts 0 0 0 0) (lines_of text)

-- ---- row 5: "tag, component or type defined again"

-- what is defined, as one number
abbrev pub key_of : Option Defined → Option ℕ
key_of (Some (Tag tag)) = Some tag
key_of (Some (ComponentName name)) = Some (4294967296 + name)
key_of (Some (MessageName letters)) = Some (8589934592 + letters)
key_of None = None

unfoldable pub is_in : ℕ → List ℕ → Bool
is_in key [] = false
is_in key (first ∷ rest) = first ≡ᵇ key || is_in key rest

abbrev pub on_key : Option ℕ → List ℕ → ℕ → (List ℕ → Option ℕ) → Option ℕ
on_key (Some key) seen number goes_on = if is_in key seen then Some number else goes_on (seen ++ (key ∷ []))
on_key None seen number goes_on = goes_on seen

-- the lines from this number on, where `seen` is defined before them
unfoldable pub again_from : List ℕ → ℕ → Pieces → Option ℕ
again_from seen number (last bytes) = None
again_from seen number (piece bytes others) = on_key (key_of (defined_by (line_of bytes))) seen number (λ more. again_from more (number + 1) others)

unfoldable pub again_of : List ℕ → Option ℕ
again_of text = again_from [] 1 (lines_of text)

-- ---- rows 1 to 5: "of two faults on a line the lower number is given"

abbrev pub refused_earlier : ℕ → Refusal → Result Counts Refusal
refused_earlier line refusal =
    if line <ᵇ refusal_place refusal
    then Err (DefinedAgain line)
    else Err refusal

abbrev pub first_of : Option ℕ → Result Counts Refusal → Result Counts Refusal
first_of (Some line) (Ok read) = Err (DefinedAgain line)
first_of (Some line) (Err refusal) = refused_earlier line refusal
first_of None outcome = outcome

-- "text over 65,536 bytes"
unfoldable pub dictionary_text_of : List ℕ → Result Counts Refusal
dictionary_text_of text =
    if 65536 <ᵇ length text
    then Err TextTooLong
    else first_of (again_of text) (order_of text)
