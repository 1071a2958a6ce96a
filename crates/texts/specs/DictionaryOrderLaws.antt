-- Laws of `DictionaryOrder.antt`: a step leaves at most 40 group blocks open. Assumes nothing.
use Rattle.std.specs.Prelude.{◌≡◌, ℕ, ◌-◌, ◌≤◌, Bool, true, false, cond, ◌&&◌, ◌||◌, ltb, get_or, Option, Result, Ok}
use Rattle.std.proofs.Math.Path.{refl}
use Rattle.std.proofs.Common.{arith, ltb-true}
use Rattle.refusals.specs.declared.refusal.Refusal.{Refusal}
use Rattle.line_forms.specs.declared.line.Line.{Line}
use Rattle.line_forms.specs.declared.line.Line.TheVariants.{Def, Value, BeginHeader, BeginTrailer, EndHeader, EndTrailer, Component, Message, Field, Group, Use, End, Member, RequiredTag, Unknown}
use Rattle.dictionary_order.specs.declared.dictionary_order.State.{State}
use Rattle.dictionary_order.specs.declared.dictionary_order.Stage.{Stage}
use Rattle.dictionary_order.specs.declared.dictionary_order.Stage.TheVariants.{Beginning, Definitions, AfterHeader, AfterTrailer, AfterMessage, InHeader, InTrailer, InComponent, InMessage}
use Rattle.dictionary_order.specs.declared.dictionary_order.Part.TheVariants.{Fields, Groups, Uses}
use Rattle.dictionary_order.specs.DictionaryOrder.{is_at, is_from, goes_on_with, has_uses, standing, opened_block, closed_block, used_in, is_name, allowed_if, after, close_group, close_component, close_message, open_group, end_step, step_of}

-- ---- step_of: at most 40 group blocks are open

module _ (state : State) (number : ℕ) (within : state.depth ≤ 40) where
  abbrev FewOpen : Result State Refusal → Type 0
  FewOpen step = (after state step).depth ≤ 40

  step-either : (test : Bool) (this that : Result State Refusal) → FewOpen this → FewOpen that → FewOpen (cond test this that)
  step-either true this that one other = one
  step-either false this that one other = other

  -- a line out of place leaves the state; a line taken leads to `next`
  allowed-depth : (test : Bool) (next : State) → next.depth ≤ 40 → FewOpen (allowed_if test next number)
  allowed-depth true next few = few
  allowed-depth false next few = within

  open_group_by : (count : ℕ) (room : Bool) → ltb state.depth 40 ≡ room → FewOpen (open_group count state number)
  open_group_by count true test = rw test (omega (arith, ltb-true state.depth 40 test))
  open_group_by count false test = rw test within

  close_group_depth : (name : Option ℕ) → FewOpen (close_group name state number)
  close_group_depth name =
      let one_fewer : (standing state.stage Groups state.name (state.depth - 1) state.counts).depth ≤ 40 = omega arith in
      allowed-depth (is_name (get_or state.counts (state.depth - 1) 0) name) (standing state.stage Groups state.name (state.depth - 1) state.counts) one_fewer

  closed-depth : (test : Bool) (stage : Stage) → FewOpen (allowed_if test (closed_block stage state) number)
  closed-depth test stage = allowed-depth test (closed_block stage state) (omega arith)

  opened-depth : (test : Bool) (stage : Stage) (name : ℕ) → FewOpen (allowed_if test (opened_block stage name state) number)
  opened-depth test stage name = allowed-depth test (opened_block stage name state) (omega arith)

  end-depth : (name : Option ℕ) (letters : Option ℕ) → FewOpen (end_step name letters state number)
  end-depth name letters =
      step-either (ltb 0 state.depth) (close_group name state number) _ (close_group_depth name)
      (step-either (is_at InComponent state.stage) (close_component name state number) _ (closed-depth (is_name state.name name) AfterTrailer)
      (step-either (is_at InMessage state.stage) (close_message letters state number) _ (closed-depth (is_name state.name letters) AfterMessage) within))

  pub step-depth : (line : Line) → (after state (step_of state number line)).depth ≤ 40
  unfolding step_of
  step-depth (Def tag place) = closed-depth (is_from Beginning Definitions state.stage) Definitions
  step-depth (Value admitted) = allowed-depth (is_at Definitions state.stage) state within
  step-depth BeginHeader = opened-depth (is_from Beginning Definitions state.stage) InHeader 0
  step-depth BeginTrailer = opened-depth (is_at AfterHeader state.stage) InTrailer 0
  step-depth EndHeader = closed-depth _ AfterHeader
  step-depth EndTrailer = closed-depth _ AfterTrailer
  step-depth (Component name) = opened-depth (is_at AfterTrailer state.stage) InComponent name
  step-depth (Message letters app) = opened-depth (is_from AfterTrailer AfterMessage state.stage) InMessage letters
  step-depth (Field tag required) = allowed-depth (goes_on_with Fields state.part) state within
  step-depth (Group count delimiter required) =
      step-either (goes_on_with Groups state.part) (open_group count state number) _ (open_group_by count (ltb state.depth 40) refl) within
  step-depth (Use name required) =
      allowed-depth (goes_on_with Uses state.part && (ltb 0 state.depth || has_uses state.stage)) (used_in state) within
  step-depth (End name letters) = end-depth name letters
  step-depth (Member tag) = within
  step-depth (RequiredTag tag) = within
  step-depth Unknown = within

  pub taken-depth : (line : Line) (next : State) → step_of state number line ≡ Ok next → next.depth ≤ 40
  taken-depth line next taken = rw taken at (step-depth line)
