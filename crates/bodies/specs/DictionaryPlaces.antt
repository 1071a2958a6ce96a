-- A dictionary's bodies, found from a place among its lines: what a walk over the lines of a body needs to know. `InOrder` states of a list of
-- lines what document 01 says of an accepted text: "A body holds `field=TAG,R` lines, then `group=COUNT,DELIMITER,R` .. `end=COUNT`
-- blocks, then `use=N,R` lines. Header and trailer bodies have no `use`", and blocks stand where they may. Assumes nothing.
--
--   open_at lines place        what is left of each body that is open at the place, innermost first
--   InPlace line opened       the line may stand before lines that leave these bodies open
--   InOrder lines             each line may stand where it stands
--   at_field, at-group, at-use, at-end   a line of a body at a place, and what is left of the body behind it
--   IsOther line              the line is no field, no group and no use
use Rattle.std.specs.Prelude.{◌≡◌, ℕ, zero, suc, ◌+◌, ◌≤◌, ◌<◌, Bool, length, get_or, drop}
use Rattle.std.proofs.Math.Path.{refl, sym, ap}
use Rattle.std.proofs.Common.{◌∙◌, arith, add-one, drop_of_length-le, drop-cons}
use mathlib.Core.List.{List, [], ◌∷◌}
use Rattle.line_forms.specs.declared.line.Line.{Line}
use Rattle.line_forms.specs.declared.line.Line.TheVariants.{Def, Value, BeginHeader, BeginTrailer, EndHeader, EndTrailer, Component, Message, Field, Group, Use, End, Member, RequiredTag, Unknown}
use Rattle.expansion.specs.Dictionary.{Body, no_group_defs, group_def, fields_of, group_defs_of, uses_of, empty_body, with_field, with_group, with_use, innermost, around_it, before, blocks_of}

unfoldable pub open_at : List Line → ℕ → List Body
open_at lines place = (blocks_of (drop place lines)).opened

-- a body is open, and nothing of these kinds is left of it
abbrev pub SomeBody : List Body → Type 0
SomeBody opened = (body : Body) × ((around : List Body) × (opened ≡ body ∷ around))

-- one body is open
abbrev pub OneBody : List Body → Type 0
OneBody opened = (body : Body) × (opened ≡ body ∷ [])

abbrev pub WithoutFields : Body → Type 0
WithoutFields body = fields_of body ≡ []

abbrev pub OnlyUses : Body → Type 0
OnlyUses body = (fields_of body ≡ []) × (group_defs_of body ≡ no_group_defs)

abbrev pub InPlace : Line → List Body → Type 0
InPlace (Def tag place) opened = opened ≡ []
InPlace (Value admitted) opened = opened ≡ []
InPlace BeginHeader opened = OneBody opened × (uses_of (innermost opened) ≡ [])
InPlace BeginTrailer opened = OneBody opened × (uses_of (innermost opened) ≡ [])
InPlace EndHeader opened = opened ≡ []
InPlace EndTrailer opened = opened ≡ []
InPlace (Component name) opened = OneBody opened
InPlace (Message letters app) opened = OneBody opened
InPlace (Field tag required) opened = SomeBody opened
InPlace (Group count delimiter required) opened = SomeBody opened × (SomeBody (around_it opened) × WithoutFields (innermost (around_it opened)))
InPlace (Use name required) opened = SomeBody opened × OnlyUses (innermost opened)
InPlace (End read_number read_letters) opened = Unit
InPlace (Member tag) opened = opened ≡ []
InPlace (RequiredTag tag) opened = opened ≡ []
InPlace Unknown opened = opened ≡ []

abbrev pub InOrder : List Line → Type 0
InOrder [] = Unit
InOrder (line ∷ lines) = InPlace line (blocks_of lines).opened × InOrder lines

-- no field, no group and no use
abbrev pub IsOther : Line → Type 0
IsOther (Def tag place) = Unit
IsOther (Value admitted) = Unit
IsOther BeginHeader = Unit
IsOther BeginTrailer = Unit
IsOther EndHeader = Unit
IsOther EndTrailer = Unit
IsOther (Component name) = Unit
IsOther (Message letters app) = Unit
IsOther (Field tag required) = ⊥
IsOther (Group count delimiter required) = ⊥
IsOther (Use name required) = ⊥
IsOther (End read_number read_letters) = Unit
IsOther (Member tag) = Unit
IsOther (RequiredTag tag) = Unit
IsOther Unknown = Unit

-- ---- the line at a place

abbrev line_at : List Line → ℕ → Line
line_at lines place = get_or lines place Unknown

pub open_at_step : (lines : List Line) (place : ℕ) → place < length lines
    → open_at lines place ≡ (before (line_at lines place) (blocks_of (drop (place + 1) lines))).opened
unfolding open_at blocks_of
open_at_step lines place inside = rw add-one (ap (λ (rest : List Line). (blocks_of rest).opened) (drop-cons lines place Unknown inside))

pub open_at_past : (lines : List Line) (place : ℕ) → length lines ≤ place → open_at lines place ≡ []
unfolding open_at blocks_of
open_at_past lines place over = ap (λ (rest : List Line). (blocks_of rest).opened) (drop_of_length-le lines over)

pub in_place : (lines : List Line) (place : ℕ) → InOrder lines → place < length lines → InPlace (line_at lines place) (open_at lines (place + 1))
unfolding open_at
in_place [] place order inside = absurd (omega arith)
in_place (line ∷ lines) zero order inside = order.0
in_place (line ∷ lines) (suc place) order inside =
    let deeper : InPlace (line_at lines place) (blocks_of (drop (place + 1) lines)).opened = in_place lines place order.1 (omega arith) in
    rw add-one (rw add-one at deeper)

-- where a body is open there is a line
pub inside-body : (lines : List Line) (place : ℕ) (body : Body) (around : List Body) → open_at lines place ≡ body ∷ around → (length lines ≤ place → ⊥)
inside-body lines place body around here over =
    let none = open_at_past lines place over in
    let never : ◌≡◌ {A = ℕ} 0 1 = cc in
    omega arith

module _ (lines : List Line) (place : ℕ) (inside : place < length lines) (order : InOrder lines) (body : Body) (around : List Body)
    (here : open_at lines place ≡ body ∷ around) where
  -- the body is this field and what is left behind it
  pub at_field : (tag : ℕ) (required : Bool)
      → line_at lines place ≡ Field tag required
      → (rest : Body) × ((open_at lines (place + 1) ≡ rest ∷ around) × (body ≡ with_field (record { tag = tag; required = required }) rest))
  unfolding open_at
  at_field tag required line =
      let place-of : InPlace (Field tag required) (open_at lines (place + 1)) = rw line at (in_place lines place order inside) in
      let next : open_at lines (place + 1) ≡ place-of.0 ∷ place-of.1.0 = place-of.1.1 in
      let now' : open_at lines place ≡ with_field (record { tag = tag; required = required }) place-of.0 ∷ place-of.1.0 =
      open_at_step lines place inside
      ∙ ap (λ (this : Line). (before this (blocks_of (drop (place + 1) lines))).opened) line
      ∙ ap (λ (opened : List Body). with_field (record { tag = tag; required = required }) (innermost opened) ∷ around_it opened) next in
      let same : body ∷ around ≡ with_field (record { tag = tag; required = required }) place-of.0 ∷ place-of.1.0 = sym here ∙ now' in
      let outer : around ≡ place-of.1.0 = ap around_it same in
      (place-of.0, (next ∙ ap {B = List Body} (λ others. place-of.0 ∷ others) (sym outer), ap innermost same))

  -- the body is this group, whose own body begins behind the line, and what is left of it behind the group's end. No field is left
  pub at-group : (count delimiter : ℕ) (required : Bool)
      → line_at lines place ≡ Group count delimiter required
      → (inner : Body) × ((rest : Body) × ((open_at lines (place + 1) ≡ inner ∷ rest ∷ around) × ((body ≡ with_group (group_def count delimiter required inner) rest) × (fields_of rest ≡ []))))
  unfolding open_at
  at-group count delimiter required line =
      let place-of : InPlace (Group count delimiter required) (open_at lines (place + 1)) = rw line at (in_place lines place order inside) in
      let inner = place-of.0.0 in
      let first : open_at lines (place + 1) ≡ inner ∷ place-of.0.1.0 = place-of.0.1.1 in
      let rest = place-of.1.0.0 in
      let others = place-of.1.0.1.0 in
      let second : around_it (open_at lines (place + 1)) ≡ rest ∷ others = place-of.1.0.1.1 in
      let behind : place-of.0.1.0 ≡ rest ∷ others = sym (ap around_it first) ∙ second in
      let next : open_at lines (place + 1) ≡ inner ∷ rest ∷ others = first ∙ ap {B = List Body} (λ bodies. inner ∷ bodies) behind in
      let now' : open_at lines place ≡ with_group (group_def count delimiter required inner) rest ∷ others =
      open_at_step lines place inside
      ∙ ap (λ (this : Line). (before this (blocks_of (drop (place + 1) lines))).opened) line
      ∙ ap
      (λ (opened : List Body). with_group (group_def count delimiter required (innermost opened)) (innermost (around_it opened)) ∷ around_it (around_it opened))
      next in
      let same : body ∷ around ≡ with_group (group_def count delimiter required inner) rest ∷ others = sym here ∙ now' in
      let none : fields_of rest ≡ [] = ap (λ (bodies : List Body). fields_of (innermost bodies)) (sym second) ∙ place-of.1.1 in
      let outer : around ≡ others = ap around_it same in
      (inner, (rest, (next ∙ ap {B = List Body} (λ bodies. inner ∷ rest ∷ bodies) (sym outer), (ap innermost same, none))))

  -- the body is this use and what is left behind it: uses alone
  pub at-use : (name : ℕ) (required : Bool)
      → line_at lines place ≡ Use name required
      → (rest : Body) × ((open_at lines (place + 1) ≡ rest ∷ around) × ((body ≡ with_use (record { name = name; required = required }) rest) × OnlyUses rest))
  unfolding open_at
  at-use name required line =
      let place-of : InPlace (Use name required) (open_at lines (place + 1)) = rw line at (in_place lines place order inside) in
      let rest = place-of.0.0 in
      let next : open_at lines (place + 1) ≡ rest ∷ place-of.0.1.0 = place-of.0.1.1 in
      let now' : open_at lines place ≡ with_use (record { name = name; required = required }) rest ∷ place-of.0.1.0 =
      open_at_step lines place inside
      ∙ ap (λ (this : Line). (before this (blocks_of (drop (place + 1) lines))).opened) line
      ∙ ap (λ (opened : List Body). with_use (record { name = name; required = required }) (innermost opened) ∷ around_it opened) next in
      let same : body ∷ around ≡ with_use (record { name = name; required = required }) rest ∷ place-of.0.1.0 = sym here ∙ now' in
      let outer : around ≡ place-of.0.1.0 = ap around_it same in (
        rest,
        (
          next ∙ ap {B = List Body} (λ others. rest ∷ others) (sym outer),
          (
            ap innermost same,
            (
              ap (λ (bodies : List Body). fields_of (innermost bodies)) (sym next) ∙ place-of.1.0,
              ap (λ (bodies : List Body). group_defs_of (innermost bodies)) (sym next) ∙ place-of.1.1,
            ),
          ),
        ),
      )

  end_by : (line : Line)
      → line_at lines place ≡ line
      → (before line (blocks_of (drop (place + 1) lines))).opened ≡ empty_body ∷ open_at lines (place + 1)
      → (body ≡ empty_body) × (open_at lines (place + 1) ≡ around)
  unfolding open_at
  end_by line same_line begins =
      let same : body ∷ around ≡ empty_body ∷ open_at lines (place + 1) =
      sym here ∙ open_at_step lines place inside ∙ ap (λ (this : Line). (before this (blocks_of (drop (place + 1) lines))).opened) same_line ∙ begins in
      (ap innermost same, sym (ap around_it same))

  -- a line of a kind that leaves no body open does not stand in one
  never-by : (line : Line)
      → line_at lines place ≡ line
      → (before line (blocks_of (drop (place + 1) lines))).opened ≡ []
      → (body ≡ empty_body) × (open_at lines (place + 1) ≡ around)
  never-by line same_line closes =
      let none : open_at lines place ≡ [] =
      open_at_step lines place inside ∙ ap (λ (this : Line). (before this (blocks_of (drop (place + 1) lines))).opened) same_line ∙ closes in
      let never : ◌≡◌ {A = ℕ} 0 1 = cc in
      absurd (omega arith)

  -- .. nor one that opens a block
  never-opens : (line : Line)
      → line_at lines place ≡ line
      → ((before line (blocks_of (drop (place + 1) lines))).opened ≡ around_it (open_at lines (place + 1)))
      → OneBody (open_at lines (place + 1))
      → (body ≡ empty_body) × (open_at lines (place + 1) ≡ around)
  never-opens line same_line closes one = never-by line same_line (closes ∙ ap around_it one.1)

  -- at any other line nothing is left of the body, and behind the line the bodies around it are open
  pub at-end : (line : Line) → line_at lines place ≡ line → IsOther line → (body ≡ empty_body) × (open_at lines (place + 1) ≡ around)
  unfolding open_at
  at-end (Def tag at) same other = never-by (Def tag at) same (rw same at (in_place lines place order inside))
  at-end (Value admitted) same other = never-by (Value admitted) same (rw same at (in_place lines place order inside))
  at-end BeginHeader same other =
      let stands : InPlace BeginHeader (open_at lines (place + 1)) = rw same at (in_place lines place order inside) in
      never-opens BeginHeader same refl stands.0
  at-end BeginTrailer same other =
      let stands : InPlace BeginTrailer (open_at lines (place + 1)) = rw same at (in_place lines place order inside) in
      never-opens BeginTrailer same refl stands.0
  at-end EndHeader same other = end_by EndHeader same refl
  at-end EndTrailer same other = end_by EndTrailer same refl
  at-end (Component name) same other =
      let stands : InPlace (Component name) (open_at lines (place + 1)) = rw same at (in_place lines place order inside) in
      never-opens (Component name) same refl stands
  at-end (Message letters app) same other =
      let stands : InPlace (Message letters app) (open_at lines (place + 1)) = rw same at (in_place lines place order inside) in
      never-opens (Message letters app) same refl stands
  at-end (Field tag required) same other = absurd other
  at-end (Group count delimiter required) same other = absurd other
  at-end (Use name required) same other = absurd other
  at-end (End number letters) same other = end_by (End number letters) same refl
  at-end (Member tag) same other = never-by (Member tag) same (rw same at (in_place lines place order inside))
  at-end (RequiredTag tag) same other = never-by (RequiredTag tag) same (rw same at (in_place lines place order inside))
  at-end Unknown same other = never-by Unknown same (rw same at (in_place lines place order inside))
