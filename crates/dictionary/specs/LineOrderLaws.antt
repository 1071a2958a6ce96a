-- Laws of `LineOrder.antt`: a line leads from a named stage and part to named ones; only a group block that opens changes the count tags. Assumes
-- nothing.
use Rattle.std.specs.Prelude.{◌≡◌, refl, ℕ, ◌-◌, Bool, true, false, cond, ◌&&◌, ◌||◌, ltb, eqb, get_or, List, Option, Some, Result, Ok, Err}
use Rattle.std.proofs.Common.{arith}
use Rattle.refusals.specs.declared.refusal.Refusal.{Refusal}
use Rattle.dictionary_order.specs.declared.dictionary_order.State.{State}
use Rattle.dictionary_order.specs.declared.dictionary_order.Stage.{Stage}
use Rattle.dictionary_order.specs.declared.dictionary_order.Stage.TheVariants.{Beginning, Definitions, InComponent, InMessage}
use Rattle.dictionary_order.specs.declared.dictionary_order.Part.TheVariants.{Fields, Uses}
use Rattle.dictionary_order.specs.DictionaryOrder.{is_at, is_from, goes_on_with, has_uses, allowed_if, after, is_name, close_group, close_component, close_message, def_step, value_step, open_block, close_block, field_step, use_step, end_step, step_of}
use Rattle.dictionary_order.specs.DictionaryOrderLaws.{Named, taken-named}
use Rattle.line_forms.specs.declared.line.Line.{Line}
use Rattle.dictionary.specs.declared.line_order.Standing.{Standing}
use Rattle.dictionary.specs.LineOrder.{state_of, kept_of, standing_of}

-- the state after a line that is taken is made of what is kept of it
pub state_again : (next : State) → state_of (kept_of next) next.counts ≡ next
state_again next = refl

named-kept : (step : Result State Refusal) (next : Standing) (counts : List ℕ) → standing_of step ≡ Some next
    → ((reached : State) → step ≡ Ok reached → Named reached) → Named (state_of next counts)
named-kept (Ok reached) next counts taken named = let same : kept_of reached ≡ next = cc in rw (← same) (named reached refl)
named-kept (Err refusal) next counts taken named = let never : ◌≡◌ {A = ℕ} 0 1 = cc in absurd (omega arith)

pub next-named : (standing next : Standing) (counts : List ℕ) (number : ℕ) (line : Line) → Named (state_of standing counts)
    → standing_of (step_of (state_of standing counts) number line) ≡ Some next → Named (state_of next counts)
next-named standing next counts number line named taken =
    named-kept (step_of (state_of standing counts) number line) next counts taken (taken-named (state_of standing counts) number named line)

module _ (state : State) (number : ℕ) where
  abbrev Keeps : Result State Refusal → Type 0
  Keeps step = (after state step).counts ≡ state.counts

  counts-either : (test : Bool) (this that : Result State Refusal) → Keeps this → Keeps that → Keeps (cond test this that)
  counts-either true this that one other = one
  counts-either false this that one other = other

  counts-allowed : (test : Bool) (next : State) → next.counts ≡ state.counts → Keeps (allowed_if test next number)
  counts-allowed true next same = same
  counts-allowed false next same = refl

  pub def_counts : (after state (def_step state number)).counts ≡ state.counts
  def_counts = counts-allowed (is_from Beginning Definitions state.stage) _ refl

  pub value-counts : (after state (value_step state number)).counts ≡ state.counts
  value-counts = counts-allowed (is_at Definitions state.stage) _ refl

  pub open_counts : (is_allowed : Bool) (stage : Stage) (name : ℕ) → (after state (open_block is_allowed stage name state number)).counts ≡ state.counts
  open_counts is_allowed stage name = counts-allowed is_allowed _ refl

  pub close_counts : (is_open : Bool) (stage : Stage) → (after state (close_block is_open stage state number)).counts ≡ state.counts
  close_counts is_open stage = counts-allowed (is_open && eqb state.depth 0) _ refl

  pub field_counts : (after state (field_step state number)).counts ≡ state.counts
  field_counts = counts-allowed (goes_on_with Fields state.part) _ refl

  pub use_counts : (after state (use_step state number)).counts ≡ state.counts
  use_counts = counts-allowed (goes_on_with Uses state.part && (ltb 0 state.depth || has_uses state.stage)) _ refl

  pub end-counts : (name : Option ℕ) (letters : Option ℕ) → (after state (end_step name letters state number)).counts ≡ state.counts
  end-counts name letters =
      counts-either (ltb 0 state.depth) (close_group name state number) _ (counts-allowed (is_name (get_or state.counts (state.depth - 1) 0) name) _ refl)
      (counts-either (is_at InComponent state.stage) (close_component name state number) _ (counts-allowed (is_name state.name name) _ refl)
      (counts-either (is_at InMessage state.stage) (close_message letters state number) _ (counts-allowed (is_name state.name letters) _ refl) refl))
