-- The order of the lines of an accepted layout text (`layout_text_of`, LayoutText.antt), said of the lines alone. Assumes nothing.
--
--   InOrder part depth lines     the lines may follow where `part` was read last of the innermost open level and `depth` blocks
--                                are open
--   ordered-lines                the lines of an accepted text are in order
use Rattle.std.specs.Prelude.{◌≡◌, Bool, cond, List, [], ◌∷◌, length, get_or, ltb, Some, None, Result, Ok, Err}
use Rattle.std.proofs.Math.Path.{refl}
use Rattle.std.proofs.Common.{sym, ap, eqb-true, ltb-true}
use Prim.Native.Nat.{ℕ, zero, suc, ◌+◌, ◌-◌, ◌<◌}
use Rattle.std.proofs.Math.Bool.{true, false}
use Rattle.std.proofs.lemmas.Bool.{false≢true}
use native.Mathlib.Omega.{arith}
use Rattle.std.proofs.Math.Dec.{eqb}
use Rattle.ascii.specs.Bytes.{non_empty}
use Rattle.refusals.specs.declared.refusal.Refusal.{Refusal}
use Rattle.refusals.specs.declared.refusal.Refusal.TheVariants.{NotAllowed, TooManyOpen, UnknownForm}
use Rattle.line_forms.specs.declared.line.Line.{Line}
use Rattle.line_forms.specs.declared.line.Line.TheVariants.{Def, Value, BeginHeader, BeginTrailer, EndHeader, EndTrailer, Component, Message, Field, Group, Use, End, Member, RequiredTag, Unknown}
use Rattle.layout_text.specs.declared.layout_text.LevelState.{LevelState}
use Rattle.layout_text.specs.declared.layout_text.Part.{Part}
use Rattle.layout_text.specs.declared.layout_text.Part.TheVariants.{Members, Required, Blocks, Other}
use Rattle.lines.specs.Lines.{Pieces, last, piece, lines_of}
use Rattle.line_forms.specs.LineForms.{line_of}
use Rattle.layout_text.specs.LayoutText.{takes_member, takes_required, level, top, in_part, level_step_of, on_taken, layout_order_from, layout_order_of, layout_text_of}
use Rattle.layout_text.specs.declared.level_line.LevelLine.{LevelLine}
use Rattle.layout_text.specs.declared.level_line.LevelLine.TheVariants.{MemberLine, RequiredLine, GroupLine, EndLine, OtherLine}
use Rattle.layout_text.specs.LevelLines.{level_line_of, lines_in, lines_at}

abbrev pub InOrder : Part → ℕ → List LevelLine → Type 0
InOrder part depth [] = depth ≡ 0
InOrder part depth (MemberLine tag ∷ lines) = (part ≡ Members) × InOrder part depth lines
InOrder part depth (RequiredLine tag ∷ lines) = (takes_required part ≡ true) × InOrder Required depth lines
InOrder part depth (GroupLine count delimiter flag ∷ lines) = (depth < 40) × InOrder Members (depth + 1) lines
InOrder part depth (EndLine ∷ lines) = (0 < depth) × InOrder Blocks (depth - 1) lines
InOrder part depth (OtherLine ∷ lines) = ⊥

is_ordered : Result ℕ Refusal → Bool
is_ordered (Ok lines) = true
is_ordered (Err refusal) = false

refused-ordered : (refusal : Refusal) (lines : ℕ) → Err refusal ≡ Ok lines → ⊥
unfolding is_ordered
refused-ordered refusal lines same = false≢true (ap is_ordered same)

pub members_alone : (part : Part) → takes_member part ≡ true → part ≡ Members
members_alone Members takes = refl
members_alone Required takes = absurd (false≢true takes)
members_alone Blocks takes = absurd (false≢true takes)
members_alone (Other above) takes = absurd (false≢true takes)

pub no_block : (part : Part) → takes_required part ≡ true → part ≡ Blocks → ⊥
no_block part takes same = false≢true (rw same at takes)

-- one line, where what comes behind it is in order whenever it is accepted
module _ (state : LevelState) (number total : ℕ) (goes_on : LevelState → Result ℕ Refusal) (later : List LevelLine)
    (rest : (next : LevelState) → goes_on next ≡ Ok total → InOrder next.part next.depth later) where
  Accepted : Result LevelState Refusal → Type 0
  Accepted step = on_taken step goes_on ≡ Ok total

  refused : {A : Type 0} (refusal : Refusal) → Accepted (Err refusal) → A
  unfolding Accepted
  refused refusal accepted = absurd (refused-ordered refusal total accepted)

  member-follows : (tag : ℕ) (test : Bool) → takes_member state.part ≡ test → Accepted (cond test (Ok state) (Err (NotAllowed number)))
      → InOrder state.part state.depth (MemberLine tag ∷ later)
  unfolding Accepted
  member-follows tag true here accepted = (members_alone state.part here, rest state accepted)
  member-follows tag false here accepted = refused (NotAllowed number) accepted

  required-follows : (tag : ℕ) (test : Bool) → takes_required state.part ≡ test → Accepted (cond test (Ok (in_part Required state)) (Err (NotAllowed number)))
      → InOrder state.part state.depth (RequiredLine tag ∷ later)
  unfolding Accepted
  required-follows tag true here accepted = (here, rest (in_part Required state) accepted)
  required-follows tag false here accepted = refused (NotAllowed number) accepted

  group-follows : (next : LevelState) (count delimiter : ℕ) (flag test : Bool) → next.part ≡ Members → next.depth ≡ state.depth + 1 → ltb state.depth 40 ≡ test
      → Accepted (cond test (Ok next) (Err (TooManyOpen number)))
      → InOrder state.part state.depth (GroupLine count delimiter flag ∷ later)
  unfolding Accepted
  group-follows next count delimiter flag true first deeper here accepted = (ltb-true state.depth 40 here, rw (first, deeper) at (rest next accepted))
  group-follows next count delimiter flag false first deeper here accepted = refused (TooManyOpen number) accepted

  close_follows : (next : LevelState) (test : Bool) → next.part ≡ Blocks → next.depth ≡ state.depth - 1 → 0 < state.depth
      → Accepted (cond test (Ok next) (Err (NotAllowed number)))
      → InOrder state.part state.depth (EndLine ∷ later)
  unfolding Accepted
  close_follows next true behind shallower some accepted = (some, rw (behind, shallower) at (rest next accepted))
  close_follows next false behind shallower some accepted = refused (NotAllowed number) accepted

  end-follows : (next : LevelState) (closes none : Bool) → next.part ≡ Blocks → next.depth ≡ state.depth - 1 → eqb state.depth 0 ≡ none
      → Accepted (cond none (Err (NotAllowed number)) (cond closes (Ok next) (Err (NotAllowed number))))
      → InOrder state.part state.depth (EndLine ∷ later)
  unfolding Accepted
  end-follows next closes true behind shallower here accepted = refused (NotAllowed number) accepted
  end-follows next closes false behind shallower here accepted = close_follows next closes behind shallower (some state.depth here) accepted
    where
      some : (depth : ℕ) → eqb depth 0 ≡ false → 0 < depth
      some zero here = absurd (false≢true (sym here))
      some (suc depth) here = omega arith

  line-follows : (line : Line) → Accepted (level_step_of state number line) → InOrder state.part state.depth (level_line_of line ∷ later)
  unfolding Accepted level_step_of level_line_of
  line-follows (Def tag place) accepted = refused (UnknownForm number) accepted
  line-follows (Value admitted) accepted = refused (UnknownForm number) accepted
  line-follows BeginHeader accepted = refused (UnknownForm number) accepted
  line-follows BeginTrailer accepted = refused (UnknownForm number) accepted
  line-follows EndHeader accepted = refused (UnknownForm number) accepted
  line-follows EndTrailer accepted = refused (UnknownForm number) accepted
  line-follows (Component name) accepted = refused (UnknownForm number) accepted
  line-follows (Message letters app) accepted = refused (UnknownForm number) accepted
  line-follows (Field tag flag) accepted = refused (UnknownForm number) accepted
  line-follows (Group count delimiter flag) accepted = group-follows _ count delimiter flag (ltb state.depth 40) refl refl refl accepted
  line-follows (Use name flag) accepted = refused (UnknownForm number) accepted
  line-follows (End (Some count) read_letters) accepted =
      end-follows (level Blocks (state.depth - 1) state.counts) (eqb count (get_or state.counts (state.depth - 1) 0)) (eqb state.depth 0) refl refl refl accepted
  line-follows (End None read_letters) accepted = refused (UnknownForm number) accepted
  line-follows (Member tag) accepted = member-follows tag (takes_member state.part) refl accepted
  line-follows (RequiredTag tag) accepted = required-follows tag (takes_required state.part) refl accepted
  line-follows Unknown accepted = refused (UnknownForm number) accepted

-- the end of the text
end-in_order : (state : LevelState) (lines total : ℕ) (unended none : Bool) → eqb state.depth 0 ≡ none
    → cond unended (Err (UnknownForm (lines + 1))) (cond none (Ok lines) (Err (NotAllowed (lines + 1)))) ≡ Ok total
    → InOrder state.part state.depth (cond unended (OtherLine ∷ []) [])
end-in_order state lines total true none here accepted = absurd (refused-ordered (UnknownForm (lines + 1)) total accepted)
end-in_order state lines total false true here accepted = eqb-true state.depth 0 here
end-in_order state lines total false false here accepted = absurd (refused-ordered (NotAllowed (lines + 1)) total accepted)

order_from : (pieces : Pieces) (state : LevelState) (lines total : ℕ) → layout_order_from state lines pieces ≡ Ok total → InOrder state.part state.depth (lines_in pieces)
unfolding layout_order_from lines_in Accepted
order_from (last bytes) state lines total accepted = end-in_order state lines total (non_empty bytes) (eqb state.depth 0) refl accepted
order_from (piece bytes others) state lines total accepted =
    line-follows state (lines + 1) total (λ next. layout_order_from next (lines + 1) others) (lines_in others) (λ next going_on. order_from others next (lines + 1) total going_on) (line_of bytes) accepted

order-by : (text : List ℕ) (long : Bool) (lines : ℕ) (refusal : Refusal) → cond long (Err refusal) (layout_order_of text) ≡ Ok lines → InOrder Members 0 (lines_at text 0)
unfolding layout_order_of
order-by text true lines refusal accepted = absurd (refused-ordered refusal lines accepted)
order-by text false lines refusal accepted = order_from (lines_of text) top 0 lines accepted

pub ordered-lines : (text : List ℕ) (lines : ℕ) → layout_text_of text ≡ Ok lines → InOrder Members 0 (lines_at text 0)
unfolding layout_text_of
ordered-lines text lines accepted = order-by text (ltb 65536 (length text)) lines _ accepted
