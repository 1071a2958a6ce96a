-- The lines that the check of a dictionary's words accepts (`accepts`, crate dictionary) are in order (`InOrder`, DictionaryPlaces.antt), and they have a
-- header and a trailer. The state behind a line says which bodies are open there and what is left of them. Assumes nothing.
--
--   Standing state            what holds of every state: the part and the depth of a state outside of the blocks are those of no body
--   Moves line state next     the line may stand in this state, and what the state behind it is
--   LeftOf part body          nothing is left of a body that stands before its last part read
--   Bodies stage depth part opened   so many groups are open in a block of this stage, and what is left of their bodies
--   OpenIn state opened       what is left of each body that is open in this state
--   accepted-order            accepted lines are in order
--   accepted-header, accepted-trailer   and have a header and a trailer
--   is_definition line         a line `def=TAG,TYPE` or `value=V`
--   Parted lines header       the lines before this place are definitions, and no other
--   accepted-parted           the definitions of accepted lines stand before their header, and none behind it
use Rattle.std.specs.Prelude.{◌≡◌, Bool, true, false, ◌&&◌, ◌||◌, cond, leb, ltb, eqb, length, get_or, drop, Option, Some, None, Err}
use Rattle.std.proofs.Math.Path.{refl}
use Rattle.std.proofs.Common.{sym, ap, ◌∙◌, arith, add-one, leb-true, leb-false, ltb-true, ltb-false, eqb-true, ne_eqb}
use Prim.Native.Nat.{ℕ, zero, suc, ◌+◌, ◌-◌, ◌≤◌, ◌<◌}
use Rattle.std.proofs.lemmas.Bool.{false≢true}
use mathlib.Core.List.{List, [], ◌∷◌}
use Rattle.ascii.specs.NotationLaws.{and_left, and_right, is_between-range}
use Rattle.line_forms.specs.declared.line.Line.{Line}
use Rattle.line_forms.specs.declared.line.Line.TheVariants.{Def, Value, BeginHeader, BeginTrailer, EndHeader, EndTrailer, Component, Message, Field, Group, Use, End, Member, RequiredTag, Unknown}
use Rattle.refusals.specs.declared.refusal.Refusal.TheVariants.{NotAllowed}
use Rattle.dictionary_order.specs.declared.dictionary_order.State.{State}
use Rattle.dictionary_order.specs.declared.dictionary_order.Stage.TheVariants.{Beginning, Definitions, AfterHeader, AfterTrailer, AfterMessage, InHeader, InTrailer, InComponent, InMessage}
use Rattle.dictionary_order.specs.declared.dictionary_order.Part.TheVariants.{Fields, Groups, Uses}
use Rattle.dictionary_order.specs.DictionaryOrder.{stage_number, part_number, is_at, is_from, goes_on_with, has_uses, start, standing, allowed_if, after, opened_block, closed_block, used_in, is_name, open_group, end_step, step_of}
use Rattle.dictionary.specs.DictionaryWords.{is_of, name_of, place_of}
use Rattle.dictionary.specs.DictionaryCheck.{is_taken, accepts}
use Rattle.records.specs.LineLengths.{length_of}
use Rattle.records.specs.Records.{record_of}
use Rattle.expansion.specs.Dictionary.{FieldRef, ComponentRef, Body, body_of, GroupDef, group_closed, no_group_defs, group_def, fields_of, group_defs_of, uses_of, empty_body, Blocks, changed, with_field, with_group, with_use, innermost, around_it, before, blocks_of}
use Rattle.bodies.specs.DictionaryPlaces.{SomeBody, OneBody, OnlyUses, InPlace, InOrder}

-- ---- the state behind a line

pub record Standing (state : State) : Type 0 where
  pub known : stage_number state.stage ≤ 8
  pub no_part : stage_number state.stage ≤ 4 → part_number state.part ≡ 3
  pub no_depth : stage_number state.stage ≤ 4 → state.depth ≡ 0
  pub some_part : 5 ≤ stage_number state.stage → part_number state.part ≤ 2

-- the line that ends a block
data Closes (state next : State) : Type 0 where
  group_ends_lem : 0 < state.depth → stage_number next.stage ≡ stage_number state.stage → part_number next.part ≡ 1 → next.depth ≡ state.depth - 1 → Closes state next
  block_ends : state.depth ≡ 0 → 7 ≤ stage_number state.stage → stage_number next.stage ≤ 4 → 3 ≤ stage_number next.stage → part_number next.part ≡ 3 → next.depth ≡ 0 → Closes state next

-- a block is open, its body before the first line
abbrev Opens : ℕ → State → Type 0
Opens stage next = (stage_number next.stage ≡ stage) × ((part_number next.part ≡ 0) × (next.depth ≡ 0))

-- no block is open
abbrev Outside : ℕ → State → Type 0
Outside stage next = (stage_number next.stage ≡ stage) × ((part_number next.part ≡ 3) × (next.depth ≡ 0))

abbrev Moves : Line → State → State → Type 0
Moves (Def tag place) state next = (stage_number state.stage ≤ 1) × Outside 1 next
Moves (Value admitted) state next = (stage_number state.stage ≡ 1) × (next ≡ state)
Moves BeginHeader state next = (stage_number state.stage ≤ 1) × Opens 5 next
Moves BeginTrailer state next = (stage_number state.stage ≡ 2) × Opens 6 next
Moves EndHeader state next = ((stage_number state.stage ≡ 5) × (state.depth ≡ 0)) × Outside 2 next
Moves EndTrailer state next = ((stage_number state.stage ≡ 6) × (state.depth ≡ 0)) × Outside 3 next
Moves (Component name) state next = (stage_number state.stage ≡ 3) × Opens 7 next
Moves (Message letters app) state next = ((3 ≤ stage_number state.stage) × (stage_number state.stage ≤ 4)) × Opens 8 next
Moves (Field tag required) state next = (part_number state.part ≡ 0) × (next ≡ state)
Moves (Group count delimiter required) state next =
    (part_number state.part ≤ 1) × ((stage_number next.stage ≡ stage_number state.stage) × ((part_number next.part ≡ 0) × (next.depth ≡ suc state.depth)))
Moves (Use name required) state next =
    ((part_number state.part ≤ 2) × (state.depth ≡ 0 → 7 ≤ stage_number state.stage)) × ((stage_number next.stage ≡ stage_number state.stage) × ((part_number next.part ≡ 2) × (next.depth ≡ state.depth)))
Moves (End read_number read_letters) state next = Closes state next
Moves (Member tag) state next = ⊥
Moves (RequiredTag tag) state next = ⊥
Moves Unknown state next = ⊥

module _ (state : State) (number : ℕ) where
  allowed : (test : Bool) (next : State)
      → is_taken (allowed_if test next number) ≡ true
      → (test ≡ true) × (after state (allowed_if test next number) ≡ next)
  allowed true next passes = (refl, refl)
  allowed false next passes = absurd (false≢true passes)

  group-moves : (count : ℕ) (room : Bool)
      → ltb state.depth 40 ≡ room
      → is_taken (open_group count state number) ≡ true
      → (stage_number (after state (open_group count state number)).stage ≡ stage_number state.stage)
      × ((part_number (after state (open_group count state number)).part ≡ 0) × ((after state (open_group count state number)).depth ≡ suc state.depth))
  group-moves count true test passes = rw test (refl, (refl, rw add-one refl))
  group-moves count false test passes = absurd (false≢true (rw test at passes))

  group-allowed : (count : ℕ) (test : Bool)
      → goes_on_with Groups state.part ≡ test
      → is_taken (cond test (open_group count state number) (Err (NotAllowed number))) ≡ true
      → Moves (Group count 0 true) state (after state (cond test (open_group count state number) (Err (NotAllowed number))))
  group-allowed count true test passes = (leb-true (part_number state.part) 1 test, group-moves count (ltb state.depth 40) refl passes)
  group-allowed count false test passes = absurd (false≢true passes)

  use_where : (deep inside : Bool) → ltb 0 state.depth ≡ deep → has_uses state.stage ≡ inside → deep || inside ≡ true
      → state.depth ≡ 0 → 7 ≤ stage_number state.stage
  use_where true inside test other holds none = absurd (omega (arith, ltb-true 0 state.depth test))
  use_where false inside test other holds none = leb-true 7 (stage_number state.stage) (other ∙ holds)

  end-moves : (name : Option ℕ) (letters : Option ℕ) (deep component message : Bool)
      → ltb 0 state.depth ≡ deep
      → is_at InComponent state.stage ≡ component
      → is_at InMessage state.stage ≡ message
      → is_taken (end_step name letters state number) ≡ true
      → Closes state (after state (end_step name letters state number))
  end-moves name read_letters true component message test in-component in-message passes =
      let closed =
      allowed (is_name (get_or state.counts (state.depth - 1) 0) name) (standing state.stage Groups state.name (state.depth - 1) state.counts)
      (rw test at passes) in
      rw test (rw closed.1 (group_ends_lem (ltb-true 0 state.depth test) refl refl refl))
  end-moves name read_letters false true message test in-component in-message passes =
      let closed = allowed (is_name state.name name) (closed_block AfterTrailer state) (rw (test, in-component) at passes) in
      let shallow = ltb-false 0 state.depth test in
      let stage = eqb-true (stage_number state.stage) 7 in-component in
      rw (test, in-component) (rw closed.1 (block_ends (omega arith) (omega arith) (omega arith) (omega arith) refl refl))
  end-moves name letters false false true test in-component in-message passes =
      let closed = allowed (is_name state.name letters) (closed_block AfterMessage state) (rw (test, in-component, in-message) at passes) in
      let shallow = ltb-false 0 state.depth test in
      let stage = eqb-true (stage_number state.stage) 8 in-message in
      rw (test, in-component, in-message) (rw closed.1 (block_ends (omega arith) (omega arith) (omega arith) (omega arith) refl refl))
  end-moves name read_letters false false false test in-component in-message passes = absurd (false≢true (rw (test, in-component, in-message) at passes))

moves : (line : Line) (state : State) (number : ℕ) → is_taken (step_of state number line) ≡ true → Moves line state (after state (step_of state number line))
unfolding step_of
moves (Def tag place) state number passes =
    let step = allowed state number (is_from Beginning Definitions state.stage) (closed_block Definitions state) passes in
    ((is_between-range 0 1 (stage_number state.stage) step.0).1, rw step.1 (refl, (refl, refl)))
moves (Value admitted) state number passes =
    let step = allowed state number (is_at Definitions state.stage) state passes in
    (eqb-true (stage_number state.stage) 1 step.0, step.1)
moves BeginHeader state number passes =
    let step = allowed state number (is_from Beginning Definitions state.stage) (opened_block InHeader 0 state) passes in
    ((is_between-range 0 1 (stage_number state.stage) step.0).1, rw step.1 (refl, (refl, refl)))
moves BeginTrailer state number passes =
    let step = allowed state number (is_at AfterHeader state.stage) (opened_block InTrailer 0 state) passes in
    (eqb-true (stage_number state.stage) 2 step.0, rw step.1 (refl, (refl, refl)))
moves EndHeader state number passes =
    let step = allowed state number (is_at InHeader state.stage && eqb state.depth 0) (closed_block AfterHeader state) passes in (
      (eqb-true (stage_number state.stage) 5 (and_left (is_at InHeader state.stage) _ step.0), eqb-true _ _ (and_right (is_at InHeader state.stage) _ step.0)),
      rw step.1 (refl, (refl, refl)),
    )
moves EndTrailer state number passes =
    let step = allowed state number (is_at InTrailer state.stage && eqb state.depth 0) (closed_block AfterTrailer state) passes in (
      (eqb-true (stage_number state.stage) 6 (and_left (is_at InTrailer state.stage) _ step.0), eqb-true _ _ (and_right (is_at InTrailer state.stage) _ step.0)),
      rw step.1 (refl, (refl, refl)),
    )
moves (Component name) state number passes =
    let step = allowed state number (is_at AfterTrailer state.stage) (opened_block InComponent name state) passes in
    (eqb-true (stage_number state.stage) 3 step.0, rw step.1 (refl, (refl, refl)))
moves (Message letters app) state number passes =
    let step = allowed state number (is_from AfterTrailer AfterMessage state.stage) (opened_block InMessage letters state) passes in
    (is_between-range 3 4 (stage_number state.stage) step.0, rw step.1 (refl, (refl, refl)))
moves (Field tag required) state number passes =
    let step = allowed state number (goes_on_with Fields state.part) state passes in
    (omega (arith, leb-true (part_number state.part) 0 step.0), step.1)
moves (Group count delimiter required) state number passes = group-allowed state number count (goes_on_with Groups state.part) refl passes
moves (Use name required) state number passes =
    let step = allowed state number (goes_on_with Uses state.part && (ltb 0 state.depth || has_uses state.stage)) (used_in state) passes in
    let where-used = and_right (goes_on_with Uses state.part) _ step.0 in (
      (
        leb-true (part_number state.part) 2 (and_left (goes_on_with Uses state.part) _ step.0),
        use_where state number (ltb 0 state.depth) (has_uses state.stage) refl refl where-used,
      ),
      rw step.1 (refl, (refl, refl)),
    )
moves (End name letters) state number passes =
    end-moves state number name letters (ltb 0 state.depth) (is_at InComponent state.stage) (is_at InMessage state.stage) refl refl refl passes
moves (Member tag) state number passes = false≢true passes
moves (RequiredTag tag) state number passes = false≢true passes
moves Unknown state number passes = false≢true passes

-- ---- Standing

standing-outside : (stage : ℕ) (next : State) → stage ≤ 4 → Outside stage next → Standing next
standing-outside stage next low outside = record {
  known = omega (arith, outside.0);
  no_part = λ here. outside.1.0;
  no_depth = λ here. outside.1.1;
  some_part = λ high. absurd (omega (arith, outside.0));
}

standing-open : (stage : ℕ) (next : State) → 5 ≤ stage → stage ≤ 8 → Opens stage next → Standing next
standing-open stage next high low opens = record {
  known = omega (arith, opens.0);
  no_part = λ here. absurd (omega (arith, opens.0));
  no_depth = λ here. absurd (omega (arith, opens.0));
  some_part = λ inside. omega (arith, opens.1.0);
}

standing-same : (state next : State) → Standing state → next ≡ state → Standing next
standing-same state next Standing-here same = rw same Standing-here

standing-inside : (state next : State) → Standing state → part_number state.part ≤ 2 → stage_number next.stage ≡ stage_number state.stage → part_number next.part ≤ 2 → Standing next
standing-inside state next here part same few = record {
  known = omega (arith, here.known);
  no_part = λ low. absurd (omega (arith, here.no_part (omega arith)));
  no_depth = λ low. absurd (omega (arith, here.no_part (omega arith)));
  some_part = λ inside. few;
}

standing-closes : (state next : State) → Standing state → Closes state next → Standing next
standing-closes state next here (group_ends_lem deep same part depth) = record {
  known = omega (arith, here.known);
  no_part = λ low. absurd (omega (arith, here.no_depth (omega arith)));
  no_depth = λ low. absurd (omega (arith, here.no_depth (omega arith)));
  some_part = λ inside. omega arith;
}
standing-closes state next here (block_ends shallow high low from part depth) = record {
  known = omega arith;
  no_part = λ outside. part;
  no_depth = λ outside. depth;
  some_part = λ inside. absurd (omega arith);
}

standing-next : (line : Line) (state next : State) → Standing state → Moves line state next → Standing next
standing-next (Def tag place) state next here step = standing-outside 1 next (omega arith) step.1
standing-next (Value admitted) state next here step = standing-same state next here step.1
standing-next BeginHeader state next here step = standing-open 5 next (omega arith) (omega arith) step.1
standing-next BeginTrailer state next here step = standing-open 6 next (omega arith) (omega arith) step.1
standing-next EndHeader state next here step = standing-outside 2 next (omega arith) step.1
standing-next EndTrailer state next here step = standing-outside 3 next (omega arith) step.1
standing-next (Component name) state next here step = standing-open 7 next (omega arith) (omega arith) step.1
standing-next (Message letters app) state next here step = standing-open 8 next (omega arith) (omega arith) step.1
standing-next (Field tag required) state next here step = standing-same state next here step.1
standing-next (Group count delimiter required) state next here step =
    standing-inside state next here (omega (arith, step.0)) step.1.0 (omega (arith, step.1.1.0))
standing-next (Use name required) state next here step =
    standing-inside state next here step.0.0 step.1.0 (omega (arith, step.1.1.0))
standing-next (End name read_letters) state next here step = standing-closes state next here step
standing-next (Member tag) state next here step = absurd step
standing-next (RequiredTag tag) state next here step = absurd step
standing-next Unknown state next here step = absurd step

-- ---- what is left of the open bodies

-- no field is left behind a group, no field and no group behind a use
pub record LeftOf (part : ℕ) (body : Body) : Type 0 where
  pub no_fields : 1 ≤ part → fields_of body ≡ []
  pub no_groups : 2 ≤ part → group_defs_of body ≡ no_group_defs

-- the outermost body is the block's; a group is open in each body but the innermost
abbrev Bodies : ℕ → ℕ → ℕ → List Body → Type 0
Bodies stage zero part opened = (body : Body) × ((opened ≡ body ∷ []) × (LeftOf part body × (stage ≤ 6 → uses_of body ≡ [])))
Bodies stage (suc depth) part opened = (body : Body) × ((around : List Body) × ((opened ≡ body ∷ around) × (LeftOf part body × Bodies stage depth 1 around)))

record OpenIn (state : State) (opened : List Body) : Type 0 where
  none : stage_number state.stage ≤ 4 → opened ≡ []
  some : 5 ≤ stage_number state.stage → Bodies (stage_number state.stage) state.depth (part_number state.part) opened

open_outside : (state : State) (opened : List Body) → stage_number state.stage ≤ 4 → opened ≡ [] → OpenIn state opened
open_outside state opened low closed = record { none = λ here. closed; some = λ high. absurd (omega arith) }

open_inside : (state : State) (opened : List Body) → 5 ≤ stage_number state.stage → Bodies (stage_number state.stage) state.depth (part_number state.part) opened → OpenIn state opened
open_inside state opened high bodies = record { none = λ low. absurd (omega arith); some = λ here. bodies }

-- a block that was just opened
one-open : (stage : ℕ) (next : State) (opened : List Body) → 5 ≤ stage → Opens stage next → OpenIn next opened
    → (body : Body) × ((opened ≡ body ∷ []) × (stage ≤ 6 → uses_of body ≡ []))
one-open stage next opened high opens there =
    let bodies : Bodies stage 0 0 opened = rw (opens.0, opens.1.0, opens.1.1) at (there.some (omega (arith, opens.0))) in
    (bodies.0, (bodies.1.0, bodies.1.1.1))

none_open : (stage : ℕ) (next : State) (opened : List Body) → stage ≤ 4 → Outside stage next → OpenIn next opened → opened ≡ []
none_open stage next opened low outside there = there.none (omega (arith, outside.0))

-- an empty body begins a body of any part
empty_left : (part : ℕ) → LeftOf part empty_body
empty_left part = record { no_fields = λ some. refl; no_groups = λ some. refl }

inside-by : (state : State) (low : Bool) → leb (stage_number state.stage) 4 ≡ low → Standing state → part_number state.part ≤ 2 → 5 ≤ stage_number state.stage
inside-by state true test here part = absurd (omega (arith, here.no_part (leb-true (stage_number state.stage) 4 test)))
inside-by state false test here part = omega (arith, leb-false (stage_number state.stage) 4 test)

deep-by : (state : State) (low : Bool) → leb (stage_number state.stage) 4 ≡ low → Standing state → 0 < state.depth → 5 ≤ stage_number state.stage
deep-by state true test here deep = absurd (omega (arith, here.no_depth (leb-true (stage_number state.stage) 4 test)))
deep-by state false test here deep = omega (arith, leb-false (stage_number state.stage) 4 test)

-- a group is open in an open block
deep-inside : (state : State) → Standing state → 0 < state.depth → 5 ≤ stage_number state.stage
deep-inside state here deep = deep-by state (leb (stage_number state.stage) 4) refl here deep

-- a part of a body stands in one too
inside : (state : State) → Standing state → part_number state.part ≤ 2 → 5 ≤ stage_number state.stage
inside state here part = inside-by state (leb (stage_number state.stage) 4) refl here part

uses-with_field : (field : FieldRef) (body : Body) → uses_of (with_field field body) ≡ uses_of body
uses-with_field field (body_of fields groups uses) = refl

uses-with_group : (group : GroupDef) (body : Body) → uses_of (with_group group body) ≡ uses_of body
uses-with_group group (body_of fields groups uses) = refl

fields-with_group : (group : GroupDef) (body : Body) → fields_of (with_group group body) ≡ fields_of body
fields-with_group group (body_of fields groups uses) = refl

fields-with_use : (component : ComponentRef) (body : Body) → fields_of (with_use component body) ≡ fields_of body
fields-with_use component (body_of fields groups uses) = refl

groups-with_use : (component : ComponentRef) (body : Body) → group_defs_of (with_use component body) ≡ group_defs_of body
groups-with_use component (body_of fields groups uses) = refl

some-body : (stage depth part : ℕ) (opened : List Body) → Bodies stage depth part opened
    → (body : Body) × ((around : List Body) × ((opened ≡ body ∷ around) × LeftOf part body))
some-body stage zero part opened bodies = (bodies.0, ([], (bodies.1.0, bodies.1.1.0)))
some-body stage (suc depth) part opened bodies = (bodies.0, (bodies.1.0, (bodies.1.1.0, bodies.1.1.1.0)))

-- ---- a line in front of the lines behind it

bodies_field : (stage depth part : ℕ) (field : FieldRef) (opened : List Body)
    → part ≡ 0
    → Bodies stage depth part opened
    → Bodies stage depth part (with_field field (innermost opened) ∷ around_it opened)
bodies_field stage zero part field opened first bodies = (
  with_field field bodies.0,
  (
    ap (λ (each : List Body). with_field field (innermost each) ∷ around_it each) bodies.1.0,
    (
      record { no_fields = λ some. absurd (omega arith); no_groups = λ some. absurd (omega arith) },
      λ envelope. uses-with_field field bodies.0 ∙ bodies.1.1.1 envelope,
    ),
  ),
)
bodies_field stage (suc depth) part field opened first bodies = (
  with_field field bodies.0,
  (
    bodies.1.0,
    (
      ap (λ (each : List Body). with_field field (innermost each) ∷ around_it each) bodies.1.1.0,
      (record { no_fields = λ some. absurd (omega arith); no_groups = λ some. absurd (omega arith) }, bodies.1.1.1.1),
    ),
  ),
)

bodies_use : (stage depth part : ℕ) (component : ComponentRef) (opened : List Body)
    → part ≤ 2
    → (depth ≡ 0 → 7 ≤ stage)
    → Bodies stage depth 2 opened
    → Bodies stage depth part (with_use component (innermost opened) ∷ around_it opened)
bodies_use stage zero part component opened few high bodies = (
  with_use component bodies.0,
  (
    ap (λ (each : List Body). with_use component (innermost each) ∷ around_it each) bodies.1.0,
    (
      record {
        no_fields = λ some. fields-with_use component bodies.0 ∙ bodies.1.1.0.no_fields (omega arith);
        no_groups = λ some. groups-with_use component bodies.0 ∙ bodies.1.1.0.no_groups (omega arith);
      },
      λ envelope. absurd (omega (arith, high refl)),
    ),
  ),
)
bodies_use stage (suc depth) part component opened few high bodies = (
  with_use component bodies.0,
  (
    bodies.1.0,
    (
      ap (λ (each : List Body). with_use component (innermost each) ∷ around_it each) bodies.1.1.0,
      (
        record {
          no_fields = λ some. fields-with_use component bodies.0 ∙ bodies.1.1.1.0.no_fields (omega arith);
          no_groups = λ some. groups-with_use component bodies.0 ∙ bodies.1.1.1.0.no_groups (omega arith);
        },
        bodies.1.1.1.1,
      ),
    ),
  ),
)

-- the group around which the line stands is read whole, and belongs to the body around it
bodies_group : (stage depth part count delimiter : ℕ) (required : Bool) (opened : List Body)
    → part ≤ 1
    → Bodies stage (suc depth) 0 opened
    → Bodies stage depth part (group_closed count delimiter required opened)
bodies_group stage zero part count delimiter required opened few bodies =
    let outer = bodies.1.1.1.1 in
    let group = group_def count delimiter required bodies.0 in (
      with_group group outer.0,
      (
        ap (λ (each : List Body). group_closed count delimiter required each)
            (bodies.1.1.0 ∙ ap {B = List Body} (λ (each : List Body). bodies.0 ∷ each) outer.1.0),
        (
          record {
            no_fields = λ some. fields-with_group group outer.0 ∙ outer.1.1.0.no_fields (omega arith);
            no_groups = λ some. absurd (omega arith);
          },
          λ envelope. uses-with_group group outer.0 ∙ outer.1.1.1 envelope,
        ),
      ),
    )
bodies_group stage (suc depth) part count delimiter required opened few bodies =
    let outer = bodies.1.1.1.1 in
    let group = group_def count delimiter required bodies.0 in (
      with_group group outer.0,
      (
        outer.1.0,
        (
          ap (λ (each : List Body). group_closed count delimiter required each)
              (bodies.1.1.0 ∙ ap {B = List Body} (λ (each : List Body). bodies.0 ∷ each) outer.1.1.0),
          (
            record {
              no_fields = λ some. fields-with_group group outer.0 ∙ outer.1.1.1.0.no_fields (omega arith);
              no_groups = λ some. absurd (omega arith);
            },
            outer.1.1.1.1,
          ),
        ),
      ),
    )

-- the bodies that are open in the state before a line, from those that are open behind it; and the line stands where it may
module _ (state next : State) (blocks : Blocks) (here : Standing state) (there : OpenIn next blocks.opened) where
  abbrev Placed : Line → Type 0
  Placed line = OpenIn state (before line blocks).opened × InPlace line blocks.opened

  -- a line outside of the blocks
  placed-outside : (stage : ℕ) → stage ≤ 4 → Outside stage next → stage_number state.stage ≤ 4 → OpenIn state blocks.opened × (blocks.opened ≡ [])
  placed-outside stage low outside before_it =
      let closed = none_open stage next blocks.opened low outside there in
      (open_outside state blocks.opened before_it closed, closed)

  -- a line that opens a block
  placed-open : (stage : ℕ)
      → 5 ≤ stage
      → Opens stage next
      → stage_number state.stage ≤ 4
      → OpenIn state (around_it blocks.opened) × (OneBody blocks.opened × (stage ≤ 6 → uses_of (innermost blocks.opened) ≡ []))
  placed-open stage high opens before_it =
      let one = one-open stage next blocks.opened high opens there in (
        open_outside state (around_it blocks.opened) before_it (ap around_it one.1.0),
        ((one.0, one.1.0), λ envelope. ap (λ (each : List Body). uses_of (innermost each)) one.1.0 ∙ one.1.1 envelope),
      )

  -- a line that ends a block, behind which none is open
  ended : blocks.opened ≡ [] → 5 ≤ stage_number state.stage → state.depth ≡ 0 → OpenIn state (empty_body ∷ blocks.opened)
  ended closed high shallow =
      let bodies : Bodies (stage_number state.stage) 0 (part_number state.part) (empty_body ∷ blocks.opened) =
      (empty_body, (ap {B = List Body} (λ (each : List Body). empty_body ∷ each) closed, (empty_left (part_number state.part), λ envelope. refl))) in
      open_inside state (empty_body ∷ blocks.opened) high (rw shallow bodies)

  placed_end : (stage : ℕ) → stage ≤ 4 → Outside stage next → 5 ≤ stage_number state.stage → state.depth ≡ 0 → OpenIn state (empty_body ∷ blocks.opened) × (blocks.opened ≡ [])
  placed_end stage low outside high shallow =
      let closed = none_open stage next blocks.opened low outside there in
      (ended closed high shallow, closed)

  placed-close : Closes state next → OpenIn state (empty_body ∷ blocks.opened)
  placed-close (group_ends_lem deep stage part depth) =
      let high : 5 ≤ stage_number state.stage = deep-inside state here deep in
      let bodies : Bodies (stage_number state.stage) (state.depth - 1) 1 blocks.opened = rw (stage, part, depth) at (there.some (omega arith)) in
      let one_more : state.depth ≡ suc (state.depth - 1) = omega arith in
      let all : Bodies (stage_number state.stage) (suc (state.depth - 1)) (part_number state.part) (empty_body ∷ blocks.opened) =
      (empty_body, (blocks.opened, (refl, (empty_left (part_number state.part), bodies)))) in
      open_inside state (empty_body ∷ blocks.opened) high (rw one_more all)
  placed-close (block_ends shallow high low from part depth) = ended (there.none low) (omega arith) shallow

  placed-field : (field : FieldRef) → part_number state.part ≡ 0 → next ≡ state → OpenIn state (changed (with_field field) blocks).opened × SomeBody blocks.opened
  placed-field field first same =
      let high = inside state here (omega arith) in
      let bodies : Bodies (stage_number state.stage) state.depth (part_number state.part) blocks.opened = (rw same at there).some high in
      let body = some-body (stage_number state.stage) state.depth (part_number state.part) blocks.opened bodies in (
        open_inside state (changed (with_field field) blocks).opened high
            (bodies_field (stage_number state.stage) state.depth (part_number state.part) field blocks.opened first bodies),
        (body.0, (body.1.0, body.1.1.0)),
      )

  placed-use : (component : ComponentRef)
      → (part_number state.part ≤ 2) × (state.depth ≡ 0 → 7 ≤ stage_number state.stage)
      → (stage_number next.stage ≡ stage_number state.stage) × ((part_number next.part ≡ 2) × (next.depth ≡ state.depth))
      → OpenIn state (changed (with_use component) blocks).opened × (SomeBody blocks.opened × OnlyUses (innermost blocks.opened))
  placed-use component may same =
      let high = inside state here may.0 in
      let bodies : Bodies (stage_number state.stage) state.depth 2 blocks.opened = rw (same.0, same.1.0, same.1.1) at (there.some (omega (arith, same.0))) in
      let body = some-body (stage_number state.stage) state.depth 2 blocks.opened bodies in (
        open_inside state (changed (with_use component) blocks).opened high
            (bodies_use (stage_number state.stage) state.depth (part_number state.part) component blocks.opened may.0 may.1 bodies),
        (
          (body.0, (body.1.0, body.1.1.0)),
          (
            ap (λ (each : List Body). fields_of (innermost each)) body.1.1.0 ∙ body.1.1.1.no_fields (omega arith),
            ap (λ (each : List Body). group_defs_of (innermost each)) body.1.1.0 ∙ body.1.1.1.no_groups (omega arith),
          ),
        ),
      )

  placed-group : (count delimiter : ℕ) (required : Bool)
      → part_number state.part ≤ 1
      → (stage_number next.stage ≡ stage_number state.stage) × ((part_number next.part ≡ 0) × (next.depth ≡ suc state.depth))
      → OpenIn state (group_closed count delimiter required blocks.opened) × InPlace (Group count delimiter required) blocks.opened
  placed-group count delimiter required few same =
      let high = inside state here (omega arith) in
      let bodies : Bodies (stage_number state.stage) (suc state.depth) 0 blocks.opened = rw (same.0, same.1.0, same.1.1) at (there.some (omega (arith, same.0))) in
      let around = bodies.1.0 in
      let body = some-body (stage_number state.stage) state.depth 1 around bodies.1.1.1.1 in
      let behind : around_it blocks.opened ≡ around = ap around_it bodies.1.1.0 in (
        open_inside state (group_closed count delimiter required blocks.opened) high
            (bodies_group (stage_number state.stage) state.depth (part_number state.part) count delimiter required blocks.opened few bodies),
        (
          (bodies.0, (around, bodies.1.1.0)),
          (
            (body.0, (body.1.0, behind ∙ body.1.1.0)),
            ap (λ (each : List Body). fields_of (innermost each)) (behind ∙ body.1.1.0) ∙ body.1.1.1.no_fields (omega arith),
          ),
        ),
      )

  placed : (line : Line) → Moves line state next → Placed line
  placed (Def tag place) step = placed-outside 1 (omega arith) step.1 (omega (arith, step.0))
  placed (Value admitted) step =
      let low : stage_number state.stage ≤ 4 = omega (arith, step.0) in
      let closed : blocks.opened ≡ [] = (rw step.1 at there).none low in
      (open_outside state blocks.opened low closed, closed)
  placed BeginHeader step =
      let stands = placed-open 5 (omega arith) step.1 (omega (arith, step.0)) in
      (stands.0, (stands.1.0, stands.1.1 (omega arith)))
  placed BeginTrailer step =
      let stands = placed-open 6 (omega arith) step.1 (omega (arith, step.0)) in
      (stands.0, (stands.1.0, stands.1.1 (omega arith)))
  placed EndHeader step = placed_end 2 (omega arith) step.1 (omega (arith, step.0.0)) step.0.1
  placed EndTrailer step = placed_end 3 (omega arith) step.1 (omega (arith, step.0.0)) step.0.1
  placed (Component name) step =
      let stands = placed-open 7 (omega arith) step.1 (omega (arith, step.0)) in
      (stands.0, stands.1.0)
  placed (Message letters app) step =
      let stands = placed-open 8 (omega arith) step.1 step.0.1 in
      (stands.0, stands.1.0)
  placed (Field tag required) step = placed-field (record { tag = tag; required = required }) step.0 step.1
  placed (Group count delimiter required) step = placed-group count delimiter required step.0 step.1
  placed (Use name required) step = placed-use (record { name = name; required = required }) step.0 step.1
  placed (End read_number read_letters) step = (placed-close step, tt)
  placed (Member tag) step = absurd step
  placed (RequiredTag tag) step = absurd step
  placed Unknown step = absurd step

-- ---- all lines

-- the first line is taken, and the others are accepted behind it
module _ (state : State) (number total : ℕ) (line : Line) (rest : List Line) (passes : accepts state number total (line ∷ rest) ≡ true) where
  abbrev behind_line : State
  behind_line = (after state (step_of state number line))

  first-moves : Moves line state behind_line
  unfolding accepts
  first-moves = moves line state number (and_left (is_taken (step_of state number line)) _ passes)

  rest-accepted : accepts behind_line (number + 1) (total + (length_of line + 1)) rest ≡ true
  unfolding accepts
  rest-accepted = and_right (leb (total + (length_of line + 1)) 65536) _ (and_right (is_taken (step_of state number line)) _ passes)

accepted-from : (state : State) (number total : ℕ) (lines : List Line)
    → Standing state
    → accepts state number total lines ≡ true
    → OpenIn state (blocks_of lines).opened × InOrder lines
unfolding blocks_of
accepted-from state number total [] here passes =
    let range = is_between-range 3 4 (stage_number state.stage) (unfold accepts in passes) in
    (open_outside state [] range.1 refl, tt)
accepted-from state number total (line ∷ rest) here passes =
    let step = first-moves state number total line rest passes in
    let next = (after state (step_of state number line)) in
    let behind =
    accepted-from next (number + 1) (total + (length_of line + 1)) rest (standing-next line state next here step) (rest-accepted state number total line rest passes) in
    let this = placed state next (blocks_of rest) here behind.0 line step in
    (this.0, (this.1, behind.1))

standing-start : Standing start
standing-start = record {
  known = omega arith;
  no_part = λ low. refl;
  no_depth = λ low. refl;
  some_part = λ high. absurd (omega arith);
}

pub accepted-order : (lines : List Line) → accepts start 1 0 lines ≡ true → InOrder lines
accepted-order lines passes = (accepted-from start 1 0 lines standing-start passes).1

-- ---- the header and the trailer

place-by : (kind name : ℕ) (line : Line) (rest : List Line) (test : Bool) → cond test 0 (suc (place_of kind name rest)) ≤ suc (place_of kind name rest)
place-by kind name line rest true = omega arith
place-by kind name line rest false = omega arith

place-further : (kind name : ℕ) (line : Line) (rest : List Line) → place_of kind name rest < length rest → place_of kind name (line ∷ rest) < length (line ∷ rest)
unfolding place_of
place-further kind name line rest found = omega (arith, place-by kind name line rest (is_of kind line && eqb (name_of line) name))

header-first : (rest : List Line) → place_of 3 0 (BeginHeader ∷ rest) < length (BeginHeader ∷ rest)
unfolding place_of is_of name_of record_of
header-first rest = omega arith

trailer-first : (rest : List Line) → place_of 4 0 (BeginTrailer ∷ rest) < length (BeginTrailer ∷ rest)
unfolding place_of is_of name_of record_of
trailer-first rest = omega arith

-- what is still to come in a state: the header before its first line, the trailer up to its first line
abbrev HeaderComes : State → Type 0
HeaderComes state = stage_number state.stage ≤ 1

record TrailerComes (state : State) : Type 0 where
  early : stage_number state.stage ≤ 5
  no_trailer : stage_number state.stage ≡ 3 → ⊥
  no_message : stage_number state.stage ≡ 4 → ⊥

-- outside of the blocks nothing ends
no_close : (state next : State) → Standing state → Closes state next → stage_number state.stage ≤ 4 → ⊥
no_close state next here (group_ends_lem deep stage part depth) low = omega (arith, here.no_depth low)
no_close state next here (block_ends shallow high closed from part depth) low = omega arith

header-later : (line : Line) (state next : State) (rest : List Line)
    → Standing state
    → Moves line state next
    → (HeaderComes next → place_of 3 0 rest < length rest)
    → HeaderComes state
    → place_of 3 0 (line ∷ rest) < length (line ∷ rest)
header-later BeginHeader state next rest here step behind comes = header-first rest
header-later (Def tag place) state next rest here step behind comes = place-further 3 0 (Def tag place) rest (behind (omega (arith, step.1.0)))
header-later (Value admitted) state next rest here step behind comes =
    place-further 3 0 (Value admitted) rest (behind (omega (arith, step.0, ap (λ (each : State). stage_number each.stage) step.1)))
header-later BeginTrailer state next rest here step behind comes = absurd (omega (arith, step.0))
header-later EndHeader state next rest here step behind comes = absurd (omega (arith, step.0.0))
header-later EndTrailer state next rest here step behind comes = absurd (omega (arith, step.0.0))
header-later (Component name) state next rest here step behind comes = absurd (omega (arith, step.0))
header-later (Message letters app) state next rest here step behind comes = absurd (omega (arith, step.0.0))
header-later (Field tag required) state next rest here step behind comes = absurd (omega (arith, step.0, here.no_part (omega arith)))
header-later (Group count delimiter required) state next rest here step behind comes = absurd (omega (arith, step.0, here.no_part (omega arith)))
header-later (Use name required) state next rest here step behind comes = absurd (omega (arith, step.0.0, here.no_part (omega arith)))
header-later (End read_number read_letters) state next rest here step behind comes = absurd (no_close state next here step (omega arith))
header-later (Member tag) state next rest here step behind comes = absurd step
header-later (RequiredTag tag) state next rest here step behind comes = absurd step
header-later Unknown state next rest here step behind comes = absurd step

no_range : (state : State) → 3 ≤ stage_number state.stage → stage_number state.stage ≤ 4 → (stage_number state.stage ≡ 3 → ⊥) → (stage_number state.stage ≡ 4 → ⊥) → ⊥
no_range state from to no_trailer no_message = no_message (omega (arith, no_trailer))

trailer-same : (state next : State) → stage_number next.stage ≡ stage_number state.stage → TrailerComes state → TrailerComes next
trailer-same state next same comes = record {
  early = omega (arith, comes.early);
  no_trailer = λ there. comes.no_trailer (sym same ∙ there);
  no_message = λ there. comes.no_message (sym same ∙ there);
}

trailer-at : (stage : ℕ) (next : State) → stage_number next.stage ≡ stage → stage ≤ 5 → (stage ≡ 3 → ⊥) → (stage ≡ 4 → ⊥) → TrailerComes next
trailer-at stage next same early no_trailer no_message = record {
  early = omega arith;
  no_trailer = λ there. no_trailer (sym same ∙ there);
  no_message = λ there. no_message (sym same ∙ there);
}

trailer-close : (number : Option ℕ) (letters : Option ℕ) (state next : State) (rest : List Line)
    → Closes state next
    → (TrailerComes next → place_of 4 0 rest < length rest)
    → TrailerComes state
    → place_of 4 0 (End number letters ∷ rest) < length (End number letters ∷ rest)
trailer-close number letters state next rest (group_ends_lem deep stage part depth) behind comes =
    place-further 4 0 (End number letters) rest (behind (trailer-same state next stage comes))
trailer-close read_number read_letters state next rest (block_ends shallow high low from part depth) behind comes = absurd (omega (arith, comes.early))

trailer-later : (line : Line) (state next : State) (rest : List Line)
    → Moves line state next
    → (TrailerComes next → place_of 4 0 rest < length rest)
    → TrailerComes state
    → place_of 4 0 (line ∷ rest) < length (line ∷ rest)
trailer-later BeginTrailer state next rest step behind comes = trailer-first rest
trailer-later (Def tag place) state next rest step behind comes =
    place-further 4 0 (Def tag place) rest (behind (trailer-at 1 next step.1.0 (omega arith) (λ there. omega arith) (λ there. omega arith)))
trailer-later (Value admitted) state next rest step behind comes =
    place-further 4 0 (Value admitted) rest (behind (trailer-same state next (ap (λ (each : State). stage_number each.stage) step.1) comes))
trailer-later BeginHeader state next rest step behind comes =
    place-further 4 0 BeginHeader rest (behind (trailer-at 5 next step.1.0 (omega arith) (λ there. omega arith) (λ there. omega arith)))
trailer-later EndHeader state next rest step behind comes =
    place-further 4 0 EndHeader rest (behind (trailer-at 2 next step.1.0 (omega arith) (λ there. omega arith) (λ there. omega arith)))
trailer-later EndTrailer state next rest step behind comes = absurd (omega (arith, step.0.0, comes.early))
trailer-later (Component name) state next rest step behind comes = absurd (comes.no_trailer step.0)
trailer-later (Message letters app) state next rest step behind comes = absurd (no_range state step.0.0 step.0.1 comes.no_trailer comes.no_message)
trailer-later (Field tag required) state next rest step behind comes =
    place-further 4 0 (Field tag required) rest (behind (trailer-same state next (ap (λ (each : State). stage_number each.stage) step.1) comes))
trailer-later (Group count delimiter required) state next rest step behind comes =
    place-further 4 0 (Group count delimiter required) rest (behind (trailer-same state next step.1.0 comes))
trailer-later (Use name required) state next rest step behind comes =
    place-further 4 0 (Use name required) rest (behind (trailer-same state next step.1.0 comes))
trailer-later (End number letters) state next rest step behind comes = trailer-close number letters state next rest step behind comes
trailer-later (Member tag) state next rest step behind comes = absurd step
trailer-later (RequiredTag tag) state next rest step behind comes = absurd step
trailer-later Unknown state next rest step behind comes = absurd step

blocks_from : (state : State) (number total : ℕ) (lines : List Line)
    → Standing state
    → accepts state number total lines ≡ true
    → (HeaderComes state → place_of 3 0 lines < length lines) × (TrailerComes state → place_of 4 0 lines < length lines)
blocks_from state number total [] here passes =
    let range = is_between-range 3 4 (stage_number state.stage) (unfold accepts in passes) in (
      λ comes. absurd (omega (arith, range.0)),
      λ comes. absurd (no_range state range.0 range.1 comes.no_trailer comes.no_message),
    )
blocks_from state number total (line ∷ rest) here passes =
    let step = first-moves state number total line rest passes in
    let next = (after state (step_of state number line)) in
    let behind =
    blocks_from next (number + 1) (total + (length_of line + 1)) rest (standing-next line state next here step) (rest-accepted state number total line rest passes) in (
      λ comes. header-later line state next rest here step behind.0 comes,
      λ comes. trailer-later line state next rest step behind.1 comes,
    )

-- ---- the definitions stand before the header

abbrev pub is_definition : Line → Bool
is_definition line = is_of 1 line || is_of 2 line

pub record Parted (lines : List Line) (header : ℕ) : Type 0 where
  pub before_it : (number : ℕ) → number < header → is_definition (get_or lines number Unknown) ≡ true
  pub behind_it : (number : ℕ) → header ≤ number → number < length lines → is_definition (get_or lines number Unknown) ≡ false

end-other : (number : Option ℕ) (letters : Option ℕ) → is_definition (End number letters) ≡ false
unfolding is_of record_of
end-other read_number (Some letters) = refl
end-other (Some number) None = refl
end-other None None = refl

end-late : (state next : State) → Closes state next → 2 ≤ stage_number state.stage → 2 ≤ stage_number next.stage
end-late state next (group_ends_lem deep stage part depth) late = omega arith
end-late state next (block_ends shallow high low from part depth) late = omega arith

-- behind the first line of the header no line is a definition
late_line : (line : Line) (state next : State) → Moves line state next → 2 ≤ stage_number state.stage → (is_definition line ≡ false) × (2 ≤ stage_number next.stage)
unfolding is_of record_of
late_line (Def tag place) state next step late = absurd (omega (arith, step.0))
late_line (Value admitted) state next step late = absurd (omega (arith, step.0))
late_line BeginHeader state next step late = absurd (omega (arith, step.0))
late_line BeginTrailer state next step late = (refl, omega (arith, step.1.0))
late_line EndHeader state next step late = (refl, omega (arith, step.1.0))
late_line EndTrailer state next step late = (refl, omega (arith, step.1.0))
late_line (Component name) state next step late = (refl, omega (arith, step.1.0))
late_line (Message letters app) state next step late = (refl, omega (arith, step.1.0))
late_line (Field tag required) state next step late = (refl, omega (arith, ap (λ (each : State). stage_number each.stage) step.1))
late_line (Group count delimiter required) state next step late = (refl, omega (arith, step.1.0))
late_line (Use name required) state next step late = (refl, omega (arith, step.1.0))
late_line (End number letters) state next step late = (end-other number letters, end-late state next step late)
late_line (Member tag) state next step late = absurd step
late_line (RequiredTag tag) state next step late = absurd step
late_line Unknown state next step late = absurd step

late_lines : (state : State) (number total : ℕ) (lines : List Line)
    → accepts state number total lines ≡ true
    → 2 ≤ stage_number state.stage
    → (place : ℕ) → place < length lines → is_definition (get_or lines place Unknown) ≡ false
late_lines state number total [] passes late place inside = absurd (omega arith)
late_lines state number total (line ∷ rest) passes late zero inside = (late_line line state (after state (step_of state number line)) (first-moves state number total line rest passes) late).0
late_lines state number total (line ∷ rest) passes late (suc place) inside =
    late_lines (after state (step_of state number line)) (number + 1) (total + (length_of line + 1)) rest (rest-accepted state number total line rest passes)
    (late_line line state (after state (step_of state number line)) (first-moves state number total line rest passes) late).1
    place
    (omega arith)

module _ (rest : List Line) where
  parted-here : ((place : ℕ) → place < length rest → is_definition (get_or rest place Unknown) ≡ false) → Parted (BeginHeader ∷ rest) (place_of 3 0 (BeginHeader ∷ rest))
  unfolding place_of is_of name_of record_of
  parted-here none = record {
    before_it = λ number low. absurd (omega arith);
    behind_it = λ number.
        elim number as (λ at. 0 ≤ at → at < length (BeginHeader ∷ rest) → is_definition (get_or (BeginHeader ∷ rest) at Unknown) ≡ false) [
          | zero ↦ λ from inside. refl
          | suc number ↦ λ from inside. none number (omega arith)
        ];
  }

  parted-next : (line : Line) (header : ℕ) → is_definition line ≡ true → Parted rest header → Parted (line ∷ rest) (suc header)
  parted-next line header defines parted = record {
    before_it = λ number.
        elim number as (λ at. at < suc header → is_definition (get_or (line ∷ rest) at Unknown) ≡ true) [
          | zero ↦ λ low. defines
          | suc number ↦ λ low. parted.before_it number (omega arith)
        ];
    behind_it = λ number.
        elim number as (λ at. suc header ≤ at → at < length (line ∷ rest) → is_definition (get_or (line ∷ rest) at Unknown) ≡ false) [
          | zero ↦ λ from inside. absurd (omega arith)
          | suc number ↦ λ from inside. parted.behind_it number (omega arith) (omega arith)
        ];
  }

parted-later : (line : Line) (state next : State) (rest : List Line)
    → Standing state
    → Moves line state next
    → (HeaderComes next → Parted rest (place_of 3 0 rest))
    → (2 ≤ stage_number next.stage → (place : ℕ) → place < length rest → is_definition (get_or rest place Unknown) ≡ false)
    → HeaderComes state
    → Parted (line ∷ rest) (place_of 3 0 (line ∷ rest))
unfolding place_of is_of name_of record_of
parted-later BeginHeader state next rest here step behind none comes = parted-here rest (none (omega (arith, step.1.0)))
parted-later (Def tag place) state next rest here step behind none comes = parted-next rest (Def tag place) (place_of 3 0 rest) refl (behind (omega (arith, step.1.0)))
parted-later (Value admitted) state next rest here step behind none comes =
    parted-next rest (Value admitted) (place_of 3 0 rest) refl (behind (omega (arith, step.0, ap (λ (each : State). stage_number each.stage) step.1)))
parted-later BeginTrailer state next rest here step behind none comes = absurd (omega (arith, step.0))
parted-later EndHeader state next rest here step behind none comes = absurd (omega (arith, step.0.0))
parted-later EndTrailer state next rest here step behind none comes = absurd (omega (arith, step.0.0))
parted-later (Component name) state next rest here step behind none comes = absurd (omega (arith, step.0))
parted-later (Message letters app) state next rest here step behind none comes = absurd (omega (arith, step.0.0))
parted-later (Field tag required) state next rest here step behind none comes = absurd (omega (arith, step.0, here.no_part (omega arith)))
parted-later (Group count delimiter required) state next rest here step behind none comes = absurd (omega (arith, step.0, here.no_part (omega arith)))
parted-later (Use name required) state next rest here step behind none comes = absurd (omega (arith, step.0.0, here.no_part (omega arith)))
parted-later (End read_number read_letters) state next rest here step behind none comes = absurd (no_close state next here step (omega arith))
parted-later (Member tag) state next rest here step behind none comes = absurd step
parted-later (RequiredTag tag) state next rest here step behind none comes = absurd step
parted-later Unknown state next rest here step behind none comes = absurd step

parted-from : (state : State) (number total : ℕ) (lines : List Line)
    → Standing state
    → accepts state number total lines ≡ true
    → HeaderComes state
    → Parted lines (place_of 3 0 lines)
parted-from state number total [] here passes comes = absurd (omega (arith, (is_between-range 3 4 (stage_number state.stage) (unfold accepts in passes)).0))
parted-from state number total (line ∷ rest) here passes comes =
    let step = first-moves state number total line rest passes in
    let next = (after state (step_of state number line)) in
    let accepted = rest-accepted state number total line rest passes in
    parted-later line state next rest here step
    (parted-from next (number + 1) (total + (length_of line + 1)) rest (standing-next line state next here step) accepted)
    (late_lines next (number + 1) (total + (length_of line + 1)) rest accepted)
    comes

-- a definition is of no other kind
kind_by : (kind other : ℕ) (one two : Bool) → eqb kind 1 ≡ one → eqb kind 2 ≡ two → one || two ≡ true → 2 < other → eqb kind other ≡ false
kind_by kind other true two first second holds above = ne_eqb kind other (λ there. let same = eqb-true kind 1 first in omega arith)
kind_by kind other false true first second holds above = ne_eqb kind other (λ there. let same = eqb-true kind 2 second in omega arith)
kind_by kind other false false first second holds above = absurd (false≢true holds)

definition-kind : (line : Line) (other : ℕ) → is_definition line ≡ true → 2 < other → is_of other line ≡ false
unfolding is_of
definition-kind line other defines above = kind_by (get_or (record_of line) 0 0) other (eqb (get_or (record_of line) 0 0) 1) (eqb (get_or (record_of line) 0 0) 2) refl refl defines above

-- lines of another kind are looked for behind the definitions
pub place-behind : (kind name : ℕ) (lines : List Line) (header : ℕ) → 2 < kind
    → header ≤ length lines
    → ((number : ℕ) → number < header → is_definition (get_or lines number Unknown) ≡ true)
    → place_of kind name lines ≡ header + place_of kind name (drop header lines)
unfolding place_of
place-behind kind name lines zero above within define = omega arith
place-behind kind name [] (suc header) above within define = absurd (omega arith)
place-behind kind name (line ∷ rest) (suc header) above within define =
    let deeper = place-behind kind name rest header above (omega arith) (λ number low. define (suc number) (omega arith)) in
    rw (definition-kind line kind (define 0 (omega arith)) above) (omega (arith, deeper))

module _ (lines : List Line) (passes : accepts start 1 0 lines ≡ true) where
  pub accepted-parted : Parted lines (place_of 3 0 lines)
  accepted-parted = parted-from start 1 0 lines standing-start passes (omega arith)

  pub accepted-header : place_of 3 0 lines < length lines
  accepted-header = (blocks_from start 1 0 lines standing-start passes).0 (omega arith)

  pub accepted-trailer : place_of 4 0 lines < length lines
  accepted-trailer = (blocks_from start 1 0 lines standing-start passes).1 (trailer-at 0 start refl (omega arith) (λ there. omega arith) (λ there. omega arith))
