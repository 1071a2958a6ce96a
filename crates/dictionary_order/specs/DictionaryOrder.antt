-- The order of the lines of a dictionary text: which lines may stand where. Document 01, 'The layout of a message type', and rows 2 to 4 of 'When
-- the gate says no'. Assumes nothing.
--
--   step_of state number line   what the line of this number does in this state: its refusal, or the state after it
use Rattle.std.specs.Prelude.{ℕ, ◌+◌, ◌-◌, Bool, false, ◌&&◌, ◌||◌, List, get_or, set, replicate, if◌then◌else◌, Option, Some, None, Result, Ok, Err}
use Rattle.ascii.specs.Notation.{◌≤ᵇ◌, ◌<ᵇ◌, ◌≡ᵇ◌, is_between}
use Rattle.refusals.specs.declared.refusal.Refusal.{Refusal}
use Rattle.refusals.specs.declared.refusal.Refusal.TheVariants.{UnknownForm, NotAllowed, TooManyOpen}
use Rattle.line_forms.specs.declared.line.Line.{Line}
use Rattle.line_forms.specs.declared.line.Line.TheVariants.{Def, Value, BeginHeader, BeginTrailer, EndHeader, EndTrailer, Component, Message, Field, Group, Use, End, Member, RequiredTag, Unknown}
use Rattle.dictionary_order.specs.declared.dictionary_order.State.{State}
use Rattle.dictionary_order.specs.declared.dictionary_order.Stage.{Stage}
use Rattle.dictionary_order.specs.declared.dictionary_order.Stage.TheVariants.{Beginning, Definitions, AfterHeader, AfterTrailer, AfterMessage, InHeader, InTrailer, InComponent, InMessage}
use Rattle.dictionary_order.specs.declared.dictionary_order.Stage.TheVariants as stages
use Rattle.dictionary_order.specs.declared.dictionary_order.Part.{Part}
use Rattle.dictionary_order.specs.declared.dictionary_order.Part.TheVariants.{Fields, Groups, Uses, NoBody}
use Rattle.dictionary_order.specs.declared.dictionary_order.Part.TheVariants as parts

-- ---- the stages of a text: no block open, and what was read last; then the block that is open. Numbered as they may follow one another

abbrev pub stage_number : Stage → ℕ
stage_number Beginning = 0
stage_number Definitions = 1
stage_number AfterHeader = 2
-- components may still come
stage_number AfterTrailer = 3
-- only messages may still come
stage_number AfterMessage = 4
stage_number InHeader = 5
stage_number InTrailer = 6
stage_number InComponent = 7
stage_number InMessage = 8
-- none of them
stage_number (stages.Other above) = 9 + above

abbrev pub is_at : Stage → Stage → Bool
is_at here stage = stage_number stage ≡ᵇ stage_number here

-- the stage is one of `low` to `high`
abbrev pub is_from : Stage → Stage → Stage → Bool
is_from low high stage = is_between (stage_number low) (stage_number high) (stage_number stage)

-- ---- "A body holds `field=TAG,R` lines, then `group=COUNT,DELIMITER,R` .. `end=COUNT` blocks, then `use=N,R` lines." What was read last of the
-- innermost open body; where a group block has closed, that is a group block

abbrev pub part_number : Part → ℕ
part_number Fields = 0
part_number Groups = 1
part_number Uses = 2
part_number NoBody = 3
-- none of them
part_number (parts.Other above) = 4 + above

-- a body of which this part was read last may go on with that one
abbrev pub goes_on_with : Part → Part → Bool
goes_on_with next part = part_number part ≤ᵇ part_number next

-- ---- states

abbrev pub standing : Stage → Part → ℕ → ℕ → List ℕ → State
standing stage part name depth counts = record { stage = stage; part = part; name = name; depth = depth; counts = counts }

abbrev pub start : State
start = standing Beginning NoBody 0 0 (replicate 40 0)

abbrev pub opened_block : Stage → ℕ → State → State
opened_block stage name state = standing stage Fields name 0 state.counts

abbrev pub closed_block : Stage → State → State
closed_block stage state = standing stage NoBody 0 0 state.counts

abbrev pub used_in : State → State
used_in state = standing state.stage Uses state.name state.depth state.counts

-- row 3: "line not allowed there"
abbrev pub allowed_if : Bool → State → ℕ → Result State Refusal
allowed_if test next number =
    if test
    then Ok next
    else Err (NotAllowed number)

-- the state after a line: a line that is refused leaves it as it was
abbrev pub after : State → Result State Refusal → State
after state (Ok next) = next
after state (Err refusal) = state

-- ---- definitions: "`def=TAG,TYPE`, .. each followed by its `value=V` lines"

abbrev pub def_step : State → ℕ → Result State Refusal
def_step state number = allowed_if (is_from Beginning Definitions state.stage) (closed_block Definitions state) number

abbrev pub value_step : State → ℕ → Result State Refusal
value_step state number = allowed_if (is_at Definitions state.stage) state number

-- ---- blocks

abbrev pub open_block : Bool → Stage → ℕ → State → ℕ → Result State Refusal
open_block is_allowed stage name state number = allowed_if is_allowed (opened_block stage name state) number

-- the header or the trailer closes where no group block is open in it
abbrev pub close_block : Bool → Stage → State → ℕ → Result State Refusal
close_block is_open stage state number = allowed_if (is_open && state.depth ≡ᵇ 0) (closed_block stage state) number

-- ---- bodies

abbrev pub field_step : State → ℕ → Result State Refusal
field_step state number = allowed_if (goes_on_with Fields state.part) state number

-- row 4: "41 group blocks open"
abbrev pub open_group : ℕ → State → ℕ → Result State Refusal
open_group count state number =
    if state.depth <ᵇ 40
    then Ok (standing state.stage Fields state.name (state.depth + 1) (set state.counts state.depth count))
    else Err (TooManyOpen number)

abbrev pub group_step : ℕ → State → ℕ → Result State Refusal
group_step count state number =
    if goes_on_with Groups state.part
    then open_group count state number
    else Err (NotAllowed number)

-- of the named stages a component and a message
abbrev pub has_uses : Stage → Bool
has_uses stage = stage_number InComponent ≤ᵇ stage_number stage

-- "Header and trailer bodies have no `use`; group blocks in them may."
abbrev pub use_step : State → ℕ → Result State Refusal
use_step state number =
    allowed_if (goes_on_with Uses state.part && (0 <ᵇ state.depth || has_uses state.stage)) (used_in state) number

-- ---- ends: an end line closes the innermost open block

-- the name of the line is that of the block
abbrev pub is_name : ℕ → Option ℕ → Bool
is_name name (Some read) = read ≡ᵇ name
is_name name None = false

-- `end=COUNT`
abbrev pub close_group : Option ℕ → State → ℕ → Result State Refusal
close_group name state number =
    allowed_if (is_name (get_or state.counts (state.depth - 1) 0) name) (standing state.stage Groups state.name (state.depth - 1) state.counts) number

-- `end=N`
abbrev pub close_component : Option ℕ → State → ℕ → Result State Refusal
close_component name state number = allowed_if (is_name state.name name) (closed_block AfterTrailer state) number

-- `end=T`
abbrev pub close_message : Option ℕ → State → ℕ → Result State Refusal
close_message letters state number = allowed_if (is_name state.name letters) (closed_block AfterMessage state) number

abbrev pub end_step : Option ℕ → Option ℕ → State → ℕ → Result State Refusal
end_step name letters state number =
    if 0 <ᵇ state.depth then close_group name state number
    else if is_at InComponent state.stage then close_component name state number
    else if is_at InMessage state.stage then close_message letters state number
    else Err (NotAllowed number)

-- ---- a line; row 2: "line of no form known to its kind of text"

unfoldable pub step_of : State → ℕ → Line → Result State Refusal
step_of state number (Def tag place) = def_step state number
step_of state number (Value admitted) = value_step state number
step_of state number BeginHeader = open_block (is_from Beginning Definitions state.stage) InHeader 0 state number
step_of state number BeginTrailer = open_block (is_at AfterHeader state.stage) InTrailer 0 state number
step_of state number EndHeader = close_block (is_at InHeader state.stage) AfterHeader state number
step_of state number EndTrailer = close_block (is_at InTrailer state.stage) AfterTrailer state number
step_of state number (Component name) = open_block (is_at AfterTrailer state.stage) InComponent name state number
step_of state number (Message letters app) = open_block (is_from AfterTrailer AfterMessage state.stage) InMessage letters state number
step_of state number (Field tag required) = field_step state number
step_of state number (Group count delimiter required) = group_step count state number
step_of state number (Use name required) = use_step state number
step_of state number (End name letters) = end_step name letters state number
step_of state number (Member tag) = Err (UnknownForm number)
step_of state number (RequiredTag tag) = Err (UnknownForm number)
step_of state number Unknown = Err (UnknownForm number)

-- ---- the end of a text

-- row 3: "or the text stops with a block open, or a dictionary text before `end=trailer`"
abbrev pub may_end : State → Bool
may_end state = is_from AfterTrailer AfterMessage state.stage
