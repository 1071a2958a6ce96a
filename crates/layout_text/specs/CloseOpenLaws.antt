-- The law of `close_open` (`LayoutText.antt`): at most 40 group blocks stay open. Assumes nothing.
use Rattle.std.specs.Prelude.{ℕ, ◌-◌, ◌≤◌, Bool, true, false, cond, eqb, get_or, Ok, Err, IfOk}
use Rattle.std.proofs.Common.{arith}
use Rattle.refusals.specs.declared.refusal.Refusal.{Refusal}
use Rattle.refusals.specs.declared.refusal.Refusal.TheVariants.{NotAllowed}
use Rattle.layout_text.specs.declared.layout_text.LevelState.{LevelState}
use Rattle.layout_text.specs.declared.layout_text.Part.TheVariants.{Blocks}
use Rattle.layout_text.specs.LayoutText.{level, close_open}

few-by : (test : Bool) (next : LevelState) (refusal : Refusal) → next.depth ≤ 40 → IfOk (cond test (Ok next) (Err refusal)) (λ next. next.depth ≤ 40)
few-by true next refusal few = few
few-by false next refusal few = tt

pub close_open_depth : (state : LevelState) (number : ℕ) → state.depth ≤ 40 → (count : ℕ) → IfOk (close_open count state number) (λ next. next.depth ≤ 40)
close_open_depth state number within count =
    few-by (eqb count (get_or state.counts (state.depth - 1) 0)) (level Blocks (state.depth - 1) state.counts) (NotAllowed number) (omega arith)
