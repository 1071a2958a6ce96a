-- What the functions of src/build.rt promise: the trace tells the message level that the definition builds (`build`, Expansion.antt), or the refusal is the
-- first error met; and so it decides the expansion of a message type (`expand_of`). Assumes nothing.
--
--   built_of words message       the level that is built of the message whose line is at this place, with the header and the trailer
--   top_frame level              the top level, alone in work
--   Built words message added trace   the trace tells that level, and what was spent and added; or why it stopped
--   Traced words type added trace     the trace tells the level whose finished form is the layout of the type, and the nodes spent; or the refusal is its refusal; or the trace has no room, and
--                               not a word for each step that the limits allow
use Rattle.std.specs.Prelude.{◌≡◌, ℕ, ◌+◌, ◌<◌, false, List, [], length, Result, Ok, Err}
use Rattle.layouts.specs.Limits.{gate_limits}
use Rattle.expansion.specs.declared.builder.Stop.TheVariants.{Error, NoRoom}
use Rattle.dictionary.specs.DictionaryWords.{word_lines}
use Rattle.bodies.specs.DictionaryInWords.{dictionary_in, expansion_in}
use Rattle.bodies.specs.DictionaryLookups.{body_at}
use Rattle.expansion.specs.Expansion.{OpenLevel, Work, finish, build, Expanded}
use Rattle.expansion.specs.Expansion as Definition
use Rattle.expansion.specs.Trace.{Frame, InWork, Stops, Fits, builder_of}
use Rattle.expansion.specs.declared.builder.Builder.{Builder}
use Rattle.expansion.specs.declared.builder.Stop.{Stop}

abbrev pub built_of : List ℕ → ℕ → Work
built_of words message = build gate_limits (dictionary_in words) (dictionary_in words) (body_at (word_lines words) (message + 1))

abbrev pub top_frame : OpenLevel → Frame
top_frame level = record { count_tag = 0; needed = false; level = level }

unfoldable pub Built : List ℕ → ℕ → Result Builder Stop → List ℕ → Type 0
Built words message (Ok builder) trace =
    InWork builder trace (top_frame (built_of words message).level) []
    × (((built_of words message).builder ≡ builder_of builder) × Fits builder)
Built words message (Err stop) trace = Stops stop trace (built_of words message).builder

unfoldable pub Traced : List ℕ → List ℕ → Result Builder Stop → List ℕ → Type 0
Traced words type (Ok builder) trace =
    (level : OpenLevel)
    × (InWork builder trace (top_frame level) [] × ((expansion_in words type ≡ Expanded (finish level) builder.nodes) × Fits builder))
Traced words type (Err (Error refusal)) trace = expansion_in words type ≡ Definition.Refused refusal
Traced words type (Err NoRoom) trace = length trace < 14336
