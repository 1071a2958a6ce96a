-- The order of the lines of a dictionary text (dictionary_order, `DictionaryOrder.antt`) as src/line_order.rt keeps it: the count tags of the open group blocks stand
-- apart from the rest of the state, and of a refusal is kept that there is one. Assumes nothing.
--
--   state_of standing counts      the state of texts with these count tags
--   kept_of state                 what is kept of a state, the count tags aside
--   standing_of step              what is kept of a step: nothing where the line is refused
--   Follows next before step     the step leads from the one standing to the other, whatever the count tags and the line's number are
use Rattle.std.specs.Prelude.{◌≡◌, ℕ, List, Option, Some, None, Result, Ok, Err}
use Rattle.refusals.specs.declared.refusal.Refusal.{Refusal}
use Rattle.dictionary_order.specs.declared.dictionary_order.State.{State}
use Rattle.dictionary_order.specs.DictionaryOrder as order
use Rattle.dictionary.specs.declared.line_order.Standing.{Standing}

abbrev pub state_of : Standing → List ℕ → State
state_of standing counts = order.standing standing.stage standing.part standing.name standing.depth counts

abbrev pub kept_of : State → Standing
kept_of state = record { stage = state.stage; part = state.part; name = state.name; depth = state.depth }

abbrev pub standing_of : Result State Refusal → Option Standing
standing_of (Ok next) = Some (kept_of next)
standing_of (Err refusal) = None

abbrev pub Follows : Option Standing → Standing → (State → ℕ → Result State Refusal) → Type 0
Follows next before step = (counts : List ℕ) (number : ℕ) → next ≡ standing_of (step (state_of before counts) number)
