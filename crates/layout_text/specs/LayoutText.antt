-- The layout text: which lines may stand where. Document 01: "A hand-made layout text has per level `member=TAG` lines, `required=TAG` lines, then
-- group blocks as above", and rows 1 to 4 of 'When the gate says no'. The top level needs no block; an empty text is an empty top. The seven rules
-- are not stated here. Assumes nothing.
--
--   level_step_of state number line   what the line of this number does in this state: its refusal, or the state after it
--   layout_text_of text               rows 1 to 4: how many lines the text has, or the refusal
use Rattle.std.specs.Prelude.{ℕ, ◌+◌, ◌-◌, Bool, true, false, List, length, get_or, set, replicate, if◌then◌else◌, Option, Some, None, Result, Ok, Err}
use Rattle.ascii.specs.Notation.{◌<ᵇ◌, ◌≡ᵇ◌}
use Rattle.ascii.specs.Bytes.{non_empty}
use Rattle.refusals.specs.declared.refusal.Refusal.{Refusal}
use Rattle.refusals.specs.declared.refusal.Refusal.TheVariants.{TextTooLong, UnknownForm, NotAllowed, TooManyOpen}
use Rattle.line_forms.specs.declared.line.Line.{Line}
use Rattle.line_forms.specs.declared.line.Line.TheVariants.{Def, Value, BeginHeader, BeginTrailer, EndHeader, EndTrailer, Component, Message, Field, Group, Use, End, Member, RequiredTag, Unknown}
use Rattle.layout_text.specs.declared.layout_text.LevelState.{LevelState}
use Rattle.layout_text.specs.declared.layout_text.Part.{Part}
use Rattle.layout_text.specs.declared.layout_text.Part.TheVariants.{Members, Required, Blocks, Other}
use Rattle.lines.specs.Lines.{Pieces, last, piece, lines_of}
use Rattle.line_forms.specs.LineForms.{line_of}

-- ---- what was read last of the innermost open level; where a group block has closed, that is a group block

-- numbered as they follow one another
abbrev pub part_number : Part → ℕ
part_number Members = 0
part_number Required = 1
part_number Blocks = 2
-- none of them
part_number (Other above) = 3 + above

-- member lines come first, then required lines, then group blocks
abbrev pub takes_member : Part → Bool
takes_member Members = true
takes_member Required = false
takes_member Blocks = false
takes_member (Other above) = false

abbrev pub takes_required : Part → Bool
takes_required Members = true
takes_required Required = true
takes_required Blocks = false
takes_required (Other above) = false

-- ---- states

abbrev pub level : Part → ℕ → List ℕ → LevelState
level part depth counts = record { part = part; depth = depth; counts = counts }

abbrev pub top : LevelState
top = level Members 0 (replicate 40 0)

abbrev pub in_part : Part → LevelState → LevelState
in_part part state = level part state.depth state.counts

-- ---- lines of a level

abbrev pub member_step : LevelState → ℕ → Result LevelState Refusal
member_step state number =
    if takes_member state.part
    then Ok state
    else Err (NotAllowed number)

abbrev pub required_step : LevelState → ℕ → Result LevelState Refusal
required_step state number =
    if takes_required state.part
    then Ok (in_part Required state)
    else Err (NotAllowed number)

-- row 4: "41 group blocks open"
abbrev pub open_level : ℕ → LevelState → ℕ → Result LevelState Refusal
open_level count state number =
    if state.depth <ᵇ 40
    then Ok (level Members (state.depth + 1) (set state.counts state.depth count))
    else Err (TooManyOpen number)

-- an end line closes the innermost open group block
abbrev pub close_open : ℕ → LevelState → ℕ → Result LevelState Refusal
close_open count state number =
    if count ≡ᵇ get_or state.counts (state.depth - 1) 0
    then Ok (level Blocks (state.depth - 1) state.counts)
    else Err (NotAllowed number)

abbrev pub close_level : ℕ → LevelState → ℕ → Result LevelState Refusal
close_level count state number =
    if state.depth ≡ᵇ 0
    then Err (NotAllowed number)
    else close_open count state number

-- of the end lines a layout text knows only `end=COUNT`
abbrev pub numbered_end : Option ℕ → LevelState → ℕ → Result LevelState Refusal
numbered_end (Some count) state number = close_level count state number
numbered_end None state number = Err (UnknownForm number)

-- ---- a line; row 2: "line of no form known to its kind of text"

unfoldable pub level_step_of : LevelState → ℕ → Line → Result LevelState Refusal
level_step_of state number (Def tag place) = Err (UnknownForm number)
level_step_of state number (Value admitted) = Err (UnknownForm number)
level_step_of state number BeginHeader = Err (UnknownForm number)
level_step_of state number BeginTrailer = Err (UnknownForm number)
level_step_of state number EndHeader = Err (UnknownForm number)
level_step_of state number EndTrailer = Err (UnknownForm number)
level_step_of state number (Component name) = Err (UnknownForm number)
level_step_of state number (Message letters app) = Err (UnknownForm number)
level_step_of state number (Field tag flag) = Err (UnknownForm number)
level_step_of state number (Group count delimiter flag) = open_level count state number
level_step_of state number (Use name flag) = Err (UnknownForm number)
level_step_of state number (End name read_letters) = numbered_end name state number
level_step_of state number (Member tag) = member_step state number
level_step_of state number (RequiredTag tag) = required_step state number
level_step_of state number Unknown = Err (UnknownForm number)

-- ---- rows 2 to 4

-- row 3: "or the text stops with a block open"; the place is "last plus 1"
abbrev pub layout_end : LevelState → ℕ → Result ℕ Refusal
layout_end state lines =
    if state.depth ≡ᵇ 0
    then Ok lines
    else Err (NotAllowed (lines + 1))

abbrev pub on_taken : Result LevelState Refusal → (LevelState → Result ℕ Refusal) → Result ℕ Refusal
on_taken (Ok next) goes_on = goes_on next
on_taken (Err refusal) goes_on = Err refusal

unfoldable pub layout_order_from : LevelState → ℕ → Pieces → Result ℕ Refusal
layout_order_from state lines (last bytes) = if non_empty bytes then Err (UnknownForm (lines + 1)) else layout_end state lines
layout_order_from state lines (piece bytes others) =
    on_taken (level_step_of state (lines + 1) (line_of bytes)) (λ next. layout_order_from next (lines + 1) others)

unfoldable pub layout_order_of : List ℕ → Result ℕ Refusal
layout_order_of text = layout_order_from top 0 (lines_of text)

-- ---- rows 1 to 4

unfoldable pub layout_text_of : List ℕ → Result ℕ Refusal
layout_text_of text =
    if 65536 <ᵇ length text
    then Err TextTooLong
    else layout_order_of text
