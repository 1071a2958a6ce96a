-- Laws of `DictionaryOrder.antt`: the numbers of the stages and of the parts tell them apart; a step leads from a named stage and part to named
-- ones. Assumes nothing.
use Rattle.std.specs.Prelude.{◌≡◌, refl, ℕ, ◌+◌, ◌-◌, ◌<◌, Bool, true, false, cond, ◌&&◌, ◌||◌, ltb, get_or, [], ◌∷◌, slice_index_or, if◌then◌else◌, Option, Result, Ok, Err, IfOk}
use Rattle.std.proofs.Common.{sym, ap, ◌∙◌, le-ltb}
use native.Mathlib.Omega.{arith}
use Rattle.ascii.specs.Notation.{◌<ᵇ◌, is_between}
use Rattle.refusals.specs.declared.refusal.Refusal.{Refusal}
use Rattle.refusals.specs.declared.refusal.Refusal.TheVariants.{NotAllowed}
use Rattle.line_forms.specs.declared.line.Line.{Line}
use Rattle.line_forms.specs.declared.line.Line.TheVariants.{Def, Value, BeginHeader, BeginTrailer, EndHeader, EndTrailer, Component, Message, Field, Group, Use, End, Member, RequiredTag, Unknown}
use Rattle.dictionary_order.specs.declared.dictionary_order.State.{State}
use Rattle.dictionary_order.specs.declared.dictionary_order.Stage.{Stage}
use Rattle.dictionary_order.specs.declared.dictionary_order.Stage.TheVariants.{Beginning, Definitions, AfterHeader, AfterTrailer, AfterMessage, InHeader, InTrailer, InComponent, InMessage}
use Rattle.dictionary_order.specs.declared.dictionary_order.Stage.TheVariants as stages
use Rattle.dictionary_order.specs.declared.dictionary_order.Part.{Part}
use Rattle.dictionary_order.specs.declared.dictionary_order.Part.TheVariants.{Fields, Groups, Uses, NoBody}
use Rattle.dictionary_order.specs.declared.dictionary_order.Part.TheVariants as parts
use Rattle.dictionary_order.specs.DictionaryOrder.{stage_number, part_number, is_at, is_from, goes_on_with, has_uses, start, standing, opened_block, closed_block, used_in, is_name, allowed_if, close_group, close_component, close_message, open_group, end_step, step_of}

-- ---- stages

abbrev stage_numbered : ℕ → Stage
stage_numbered number =
    if number <ᵇ 9
    then slice_index_or (Beginning ∷ Definitions ∷ AfterHeader ∷ AfterTrailer ∷ AfterMessage ∷ InHeader ∷ InTrailer ∷ InComponent ∷ InMessage ∷ []) number Beginning
    else stages.Other (number - 9)

stage_numbered-number : (stage : Stage) → stage_numbered (stage_number stage) ≡ stage
stage_numbered-number Beginning = refl
stage_numbered-number Definitions = refl
stage_numbered-number AfterHeader = refl
stage_numbered-number AfterTrailer = refl
stage_numbered-number AfterMessage = refl
stage_numbered-number InHeader = refl
stage_numbered-number InTrailer = refl
stage_numbered-number InComponent = refl
stage_numbered-number InMessage = refl
stage_numbered-number (stages.Other above) = let back : 9 + above - 9 ≡ above = omega arith in rw (le-ltb (9 + above) 9 (omega arith), back) refl

pub stage_number-once : (one other : Stage) → stage_number one ≡ stage_number other → one ≡ other
stage_number-once one other same = sym (stage_numbered-number one) ∙ ap stage_numbered same ∙ stage_numbered-number other

-- ---- parts

abbrev part_numbered : ℕ → Part
part_numbered number =
    if number <ᵇ 4
    then slice_index_or (Fields ∷ Groups ∷ Uses ∷ NoBody ∷ []) number Fields
    else parts.Other (number - 4)

part_numbered-number : (part : Part) → part_numbered (part_number part) ≡ part
part_numbered-number Fields = refl
part_numbered-number Groups = refl
part_numbered-number Uses = refl
part_numbered-number NoBody = refl
part_numbered-number (parts.Other above) = let back : 4 + above - 4 ≡ above = omega arith in rw (le-ltb (4 + above) 4 (omega arith), back) refl

pub part_number-once : (one other : Part) → part_number one ≡ part_number other → one ≡ other
part_number-once one other same = sym (part_numbered-number one) ∙ ap part_numbered same ∙ part_numbered-number other

-- ---- named stages and parts: bodies of a component and of a message alone have `use` lines

pub has_uses-named : (stage : Stage) → stage_number stage < 9 → has_uses stage ≡ is_from InComponent InMessage stage
unfolding is_between
has_uses-named Beginning named = refl
has_uses-named Definitions named = refl
has_uses-named AfterHeader named = refl
has_uses-named AfterTrailer named = refl
has_uses-named AfterMessage named = refl
has_uses-named InHeader named = refl
has_uses-named InTrailer named = refl
has_uses-named InComponent named = refl
has_uses-named InMessage named = refl
has_uses-named (stages.Other above) named = absurd (omega (arith, named))

-- ---- step_of: no step leads to what names no stage or no part

abbrev pub Named : State → Type 0
Named state = (stage_number state.stage < 9) × (part_number state.part < 4)

pub start-named : Named start
start-named = (omega arith, omega arith)

module _ (state : State) (number : ℕ) (named : Named state) where
  abbrev LeadsToNamed : Result State Refusal → Type 0
  LeadsToNamed step = IfOk step Named

  named-either : (test : Bool) (this that : Result State Refusal) → LeadsToNamed this → LeadsToNamed that → LeadsToNamed (cond test this that)
  named-either true this that one other = one
  named-either false this that one other = other

  allowed-named : (test : Bool) (next : State) → Named next → LeadsToNamed (allowed_if test next number)
  allowed-named true next is = is
  allowed-named false next is = tt

  closed-named : (test : Bool) (stage : Stage) → stage_number stage < 9 → LeadsToNamed (allowed_if test (closed_block stage state) number)
  closed-named test stage inside = allowed-named test (closed_block stage state) (inside, omega arith)

  opened-named : (test : Bool) (stage : Stage) (name : ℕ) → stage_number stage < 9 → LeadsToNamed (allowed_if test (opened_block stage name state) number)
  opened-named test stage name inside = allowed-named test (opened_block stage name state) (inside, omega arith)

  open_group-named : (count : ℕ) (room : Bool) → ltb state.depth 40 ≡ room → LeadsToNamed (open_group count state number)
  open_group-named count true test = rw test (named.0, omega arith)
  open_group-named count false test = rw test tt

  close_group-named : (name : Option ℕ) → LeadsToNamed (close_group name state number)
  close_group-named name =
      allowed-named (is_name (get_or state.counts (state.depth - 1) 0) name) (standing state.stage Groups state.name (state.depth - 1) state.counts)
      (named.0, omega arith)

  end-named : (name : Option ℕ) (letters : Option ℕ) → LeadsToNamed (end_step name letters state number)
  end-named name letters =
      named-either (ltb 0 state.depth) (close_group name state number) _ (close_group-named name)
      (named-either (is_at InComponent state.stage) (close_component name state number) _ (closed-named (is_name state.name name) AfterTrailer (omega arith))
      (named-either (is_at InMessage state.stage) (close_message letters state number) _ (closed-named (is_name state.name letters) AfterMessage (omega arith)) tt))

  step-named : (line : Line) → LeadsToNamed (step_of state number line)
  unfolding step_of
  step-named (Def tag place) = closed-named (is_from Beginning Definitions state.stage) Definitions (omega arith)
  step-named (Value admitted) = allowed-named (is_at Definitions state.stage) state named
  step-named BeginHeader = opened-named (is_from Beginning Definitions state.stage) InHeader 0 (omega arith)
  step-named BeginTrailer = opened-named (is_at AfterHeader state.stage) InTrailer 0 (omega arith)
  step-named EndHeader = closed-named _ AfterHeader (omega arith)
  step-named EndTrailer = closed-named _ AfterTrailer (omega arith)
  step-named (Component name) = opened-named (is_at AfterTrailer state.stage) InComponent name (omega arith)
  step-named (Message letters app) = opened-named (is_from AfterTrailer AfterMessage state.stage) InMessage letters (omega arith)
  step-named (Field tag required) = allowed-named (goes_on_with Fields state.part) state named
  step-named (Group count delimiter required) =
      named-either (goes_on_with Groups state.part) (open_group count state number) (Err (NotAllowed number)) (open_group-named count (ltb state.depth 40) refl) tt
  step-named (Use name required) =
      allowed-named (goes_on_with Uses state.part && (ltb 0 state.depth || has_uses state.stage)) (used_in state) (named.0, omega arith)
  step-named (End name letters) = end-named name letters
  step-named (Member tag) = tt
  step-named (RequiredTag tag) = tt
  step-named Unknown = tt

  pub taken-named : (line : Line) (next : State) → step_of state number line ≡ Ok next → Named next
  taken-named line next taken = rw taken at (step-named line)
