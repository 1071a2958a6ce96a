-- Laws of `LayoutText.antt`: the parts by their numbers, what a step keeps, and the loop over the lines of a text, turn by turn. The lines still
-- to be read are those of the bytes that are left. Assumes nothing.
use Rattle.std.specs.Prelude.{◌≡◌, ℕ, ◌+◌, ◌-◌, ◌≤◌, ◌<◌, Bool, true, false, cond, List, [], ◌∷◌, eqb, ltb, leb, length, get_or, set, slice_index_or, Option, Some, None, Result, Ok, Err, IfOk}
use Rattle.std.proofs.Math.Path.{refl}
use Rattle.std.proofs.Common.{◌∙◌, sym, ap, arith, ltb-true, le-ltb, ne_eqb, length-append}
use Rattle.std.proofs.lemmas.Bool.{lt-leb}
use denote.Ref.{Bor}
use Rattle.ascii.specs.Bytes.{non_empty}
use Rattle.refusals.specs.declared.refusal.Refusal.{Refusal}
use Rattle.refusals.specs.declared.refusal.Refusal.TheVariants.{UnknownForm, NotAllowed, TooManyOpen}
use Rattle.line_forms.specs.declared.line.Line.{Line}
use Rattle.line_forms.specs.declared.line.Line.TheVariants.{Def, Value, BeginHeader, BeginTrailer, EndHeader, EndTrailer, Component, Message, Field, Group, Use, End, Member, RequiredTag, Unknown}
use Rattle.layout_text.specs.declared.layout_text.LevelState.{LevelState}
use Rattle.layout_text.specs.declared.layout_text.Part.{Part}
use Rattle.layout_text.specs.declared.layout_text.Part.TheVariants.{Members, Required, Blocks, Other}
use Rattle.lines.specs.Lines.{cut, lines_of, line_feed}
use Rattle.lines.specs.TextLinesLaws.{given_unended, given_line}
use Rattle.std.specs.Option.{ok_or}
use Rattle.lines.specs.TextLines.{GivesLine, IsFirstLine, IsUnended}
use Rattle.line_forms.specs.LineForms.{line_of}
use Rattle.layout_text.specs.LayoutText.{part_number, takes_member, takes_required, level, top, in_part, open_level, close_open, close_level, numbered_end, level_step_of, layout_end, layout_order_from, layout_order_of}

-- ---- the parts: what may follow, by their numbers, and each number once

pub takes_member-number : (part : Part) → takes_member part ≡ eqb (part_number part) 0
takes_member-number Members = refl
takes_member-number Required = refl
takes_member-number Blocks = refl
takes_member-number (Other above) = sym (ne_eqb (3 + above) 0 (λ same. omega arith))

pub takes_required-number : (part : Part) → takes_required part ≡ leb (part_number part) 1
takes_required-number Members = refl
takes_required-number Required = refl
takes_required-number Blocks = refl
takes_required-number (Other above) = sym (lt-leb (3 + above) 1 (omega arith))

-- of the named parts all but `Blocks` take required tags
pub takes-other : (part : Part) → part_number part < 3 → (part ≡ Blocks → ⊥) → takes_required part ≡ true
takes-other Members named other = refl
takes-other Required named other = refl
takes-other Blocks named other = absurd (other refl)
takes-other (Other above) named other = absurd (omega (arith, named))

abbrev part_numbered : ℕ → Part
part_numbered number = cond (ltb number 3) (slice_index_or (Members ∷ Required ∷ Blocks ∷ []) number Members) (Other (number - 3))

part_numbered-number : (part : Part) → part_numbered (part_number part) ≡ part
part_numbered-number Members = refl
part_numbered-number Required = refl
part_numbered-number Blocks = refl
part_numbered-number (Other above) = let back : 3 + above - 3 ≡ above = omega arith in rw (le-ltb (3 + above) 3 (omega arith), back) refl

pub part_number-once : (one other : Part) → part_number one ≡ part_number other → one ≡ other
part_number-once one other same = sym (part_numbered-number one) ∙ ap part_numbered same ∙ part_numbered-number other

-- ---- level_step_of: at most 40 group blocks are open

abbrev FewOpen : Result LevelState Refusal → Type 0
FewOpen step = IfOk step (λ next. next.depth ≤ 40)

few-either : (test : Bool) (this that : Result LevelState Refusal) → FewOpen this → FewOpen that → FewOpen (cond test this that)
few-either true this that one other = one
few-either false this that one other = other

open_level_by : (count : ℕ) (state : LevelState) (number : ℕ) (room : Bool) → ltb state.depth 40 ≡ room → FewOpen (open_level count state number)
open_level_by count state number true test = rw test (omega (arith, ltb-true state.depth 40 test))
open_level_by count state number false test = rw test tt

module _ (state : LevelState) (number : ℕ) (within : state.depth ≤ 40) where
  close_level_depth : (count : ℕ) → FewOpen (close_level count state number)
  close_level_depth count =
      few-either (eqb state.depth 0) (Err (NotAllowed number)) (close_open count state number) tt
      (few-either (eqb count (get_or state.counts (state.depth - 1) 0)) (Ok (level Blocks (state.depth - 1) state.counts)) (Err (NotAllowed number)) (omega arith) tt)

  numbered-depth : (name : Option ℕ) → FewOpen (numbered_end name state number)
  numbered-depth (Some count) = close_level_depth count
  numbered-depth None = tt

  level-depth : (line : Line) → FewOpen (level_step_of state number line)
  unfolding level_step_of
  level-depth (Def tag place) = tt
  level-depth (Value admitted) = tt
  level-depth BeginHeader = tt
  level-depth BeginTrailer = tt
  level-depth EndHeader = tt
  level-depth EndTrailer = tt
  level-depth (Component name) = tt
  level-depth (Message letters app) = tt
  level-depth (Field tag flag) = tt
  level-depth (Group count delimiter flag) = open_level_by count state number (ltb state.depth 40) refl
  level-depth (Use name flag) = tt
  level-depth (End name read_letters) = numbered-depth name
  level-depth (Member tag) = few-either (takes_member state.part) (Ok state) (Err (NotAllowed number)) within tt
  level-depth (RequiredTag tag) = few-either (takes_required state.part) (Ok (in_part Required state)) (Err (NotAllowed number)) within tt
  level-depth Unknown = tt

  pub taken-depth : (line : Line) (next : LevelState) → level_step_of state number line ≡ Ok next → next.depth ≤ 40
  taken-depth line next taken = rw taken at (level-depth line)

-- ---- level_step_of: no step leads to what names no part

abbrev pub Named : LevelState → Type 0
Named state = part_number state.part < 3

pub top-named : Named top
top-named = omega arith

abbrev LeadsToNamed : Result LevelState Refusal → Type 0
LeadsToNamed step = IfOk step Named

named-either : (test : Bool) (this that : Result LevelState Refusal) → LeadsToNamed this → LeadsToNamed that → LeadsToNamed (cond test this that)
named-either true this that one other = one
named-either false this that one other = other

module _ (state : LevelState) (number : ℕ) (named : Named state) where
  close_level-named : (count : ℕ) → LeadsToNamed (close_level count state number)
  close_level-named count =
      named-either (eqb state.depth 0) (Err (NotAllowed number)) (close_open count state number) tt
      (named-either (eqb count (get_or state.counts (state.depth - 1) 0)) (Ok (level Blocks (state.depth - 1) state.counts)) (Err (NotAllowed number)) (omega arith) tt)

  numbered-named : (name : Option ℕ) → LeadsToNamed (numbered_end name state number)
  numbered-named (Some count) = close_level-named count
  numbered-named None = tt

  level_step-named : (line : Line) → LeadsToNamed (level_step_of state number line)
  unfolding level_step_of
  level_step-named (Def tag place) = tt
  level_step-named (Value admitted) = tt
  level_step-named BeginHeader = tt
  level_step-named BeginTrailer = tt
  level_step-named EndHeader = tt
  level_step-named EndTrailer = tt
  level_step-named (Component name) = tt
  level_step-named (Message letters app) = tt
  level_step-named (Field tag flag) = tt
  level_step-named (Group count delimiter flag) =
      named-either (ltb state.depth 40) (Ok (level Members (state.depth + 1) (set state.counts state.depth count))) (Err (TooManyOpen number)) (omega arith) tt
  level_step-named (Use name flag) = tt
  level_step-named (End name read_letters) = numbered-named name
  level_step-named (Member tag) = named-either (takes_member state.part) (Ok state) (Err (NotAllowed number)) named tt
  level_step-named (RequiredTag tag) = named-either (takes_required state.part) (Ok (in_part Required state)) (Err (NotAllowed number)) (omega arith) tt
  level_step-named Unknown = tt

  pub taken-named : (line : Line) (next : LevelState) → level_step_of state number line ≡ Ok next → Named next
  taken-named line next taken = rw taken at (level_step-named line)

-- ---- layout_order_from

module _ (state : LevelState) (lines : ℕ) (left : List ℕ) where
  levels_end : left ≡ [] → layout_order_from state lines (lines_of left) ≡ layout_end state lines
  unfolding layout_order_from non_empty cut
  levels_end none = rw none refl

  levels_unended : IsUnended left → layout_order_from state lines (lines_of left) ≡ Err (UnknownForm (lines + 1))
  unfolding layout_order_from
  levels_unended is = rw (is.uncut, is.some_byte)

  module _ (bytes left' : List ℕ) (is : IsFirstLine left bytes left') where
    levels_go_on : (next : LevelState) → level_step_of state (lines + 1) (line_of bytes) ≡ Ok next
        → layout_order_from state lines (lines_of left) ≡ layout_order_from next (lines + 1) (lines_of left')
    unfolding layout_order_from
    levels_go_on next taken = rw (is.cut_off, taken)

    levels_refuse : (refusal : Refusal) → level_step_of state (lines + 1) (line_of bytes) ≡ Err refusal → layout_order_from state lines (lines_of left) ≡ Err refusal
    unfolding layout_order_from
    levels_refuse refusal faulty = rw (is.cut_off, faulty)

-- the loop of `read_levels`: the lines before those that are left were taken
pub record LevelsSoFar (text : List ℕ) (left : List ℕ) (state : LevelState) (lines : ℕ) : Type 0 where
  pub few_open : state.depth ≤ 40
  pub few_lines : lines + length left ≤ length text
  pub rest : layout_order_of text ≡ layout_order_from state lines (lines_of left)

pub levels_begin : (text : List ℕ) → LevelsSoFar text text top 0
unfolding layout_order_of
levels_begin text = record { few_open = omega arith; few_lines = omega arith; rest = refl }

module _ (text : List ℕ) (left : List ℕ) (state : LevelState) (lines : ℕ) (so_far : LevelsSoFar text left state lines) where
  pub levels_stop : left ≡ [] → layout_order_of text ≡ layout_end state lines
  levels_stop none = so_far.rest ∙ levels_end state lines left none

  module _ (given : Option (Bor (List ℕ))) (left' : List ℕ) (gives : GivesLine left (Some given) left') where
    pub levels_break : (refusal : Refusal) → ok_or given (UnknownForm (lines + 1)) ≡ Err refusal → layout_order_of text ≡ Err refusal
    levels_break refusal refused =
        let unended = given_unended (UnknownForm (lines + 1)) left left' given gives refusal refused in
        so_far.rest ∙ levels_unended state lines left unended.0 ∙ ap Err unended.1

    module _ (bytes : Bor (List ℕ)) (given_bytes : ok_or given (UnknownForm (lines + 1)) ≡ Ok bytes) (line : Line) (reads : line ≡ line_of bytes.now) where
      first : IsFirstLine left bytes.now left'
      first = given_line (UnknownForm (lines + 1)) left left' given gives bytes given_bytes

      pub levels_faulty : (refusal : Refusal) → level_step_of state (lines + 1) line ≡ Err refusal → layout_order_of text ≡ Err refusal
      levels_faulty refusal faulty = so_far.rest ∙ levels_refuse state lines left bytes.now left' first refusal (rw reads at faulty)

      pub levels_turn : (next : LevelState) → level_step_of state (lines + 1) line ≡ Ok next → LevelsSoFar text left' next (lines + 1)
      levels_turn next taken = record {
        few_open = taken-depth state (lines + 1) so_far.few_open line next taken;
        few_lines = omega (arith, so_far.few_lines, ap length first.bytes, length-append bytes.now (line_feed ∷ left'));
        rest = so_far.rest ∙ levels_go_on state lines left bytes.now left' first next (rw reads at taken);
      }
