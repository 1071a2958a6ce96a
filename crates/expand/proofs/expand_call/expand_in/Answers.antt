-- `expand::expand_call::expand_in` meets its contract: the trace of the type, and its layout. The laws are those of specs/ExpandCallLaws.antt.
use Rattle.std.specs.Prelude.{Err, ◌≡◌, ◌-◌, take}
use Rattle.std.proofs.Common.{ℕ, List, refl, ap, ◌∙◌, arith, inl, inr}
use Rattle.std.specs.List.{slice_range}
use Rattle.std.proofs.lemmas.List.{length-replicate}
use Rattle.expand.specs.ExpandCallLaws.{expand_refused, expand_room, trace-short, told-short, few_levels, expand_arranged}
use Rattle.expand.proofs.expand_call.expand_in.Goals as goal

-- what `get` gives of the front
front_is : (front trace : List ℕ) (len : ℕ) → front ≡ slice_range trace 0 len → front ≡ take len trace
front_is front trace len found = let all : len - 0 ≡ len = omega arith in found ∙ ap (λ (many : ℕ). take many trace) all

pub returns-in_err-told-in-Ok : goal.returns-in_err-told-in-Ok
returns-in_err-told-in-Ok g c =
    let size = length-replicate {A = ℕ} g.row.WORDS 0 in
    let fits = trace-short c.args.dictionary.words.now c.args.message_type.now c.args.layout.now c.args.dictionary.accepted _ _ c.in-Ok.ensures _ refl in
    rw c.from_residual.ensures (elim c.in_err-told-in-Ok.ensures.lookup.0 [ inl never ↦ absurd (omega arith) | inr over ↦ omega (arith, size, fits, over, c.expand.auto.trace) ], refl)

pub arrange_told-requires : goal.arrange_told-requires
arrange_told-requires g c =
    let found = c.in_ok-told-in-Ok.ensures.lookup.0 in
    rw (front_is _ _ _ found.2) (told-short c.args.dictionary.words.now c.args.message_type.now c.args.layout.now c.args.dictionary.accepted _ _ c.in-Ok.ensures _ refl found.1, few_levels c.args.dictionary.words.now c.args.message_type.now c.args.layout.now c.args.dictionary.accepted _ _ c.in-Ok.ensures _ refl)

pub returns-in_ok-told-in-Ok : goal.returns-in_ok-told-in-Ok
returns-in_ok-told-in-Ok g c =
    let told = front_is _ _ _ c.in_ok-told-in-Ok.ensures.lookup.0.2 in
    expand_arranged c.args.dictionary.words.now c.args.message_type.now c.args.layout.now c.args.dictionary.accepted _ _ c.in-Ok.ensures _ refl _ _ (rw told at c.arrange_told.ensures.outcome) (rw told at c.arrange_told.ensures.memory)

pub returns-in-Err-Error : goal.returns-in-Err-Error
returns-in-Err-Error g c = rw c.in-Err-Error.field-0-is (expand_refused c.args.dictionary.words.now c.args.message_type.now c.args.layout.now c.args.dictionary.accepted _ _ (rw c.in-Err-Error.field-0-is at c.in-Err-Error.ensures) _ refl)

pub returns-in-Err-NoRoom : goal.returns-in-Err-NoRoom
returns-in-Err-NoRoom g c =
    let size = length-replicate {A = ℕ} g.row.WORDS 0 in
    let short = expand_room c.args.dictionary.words.now c.args.message_type.now c.args.layout.now c.args.dictionary.accepted _ _ c.in-Err-NoRoom.ensures (ap Err c.in-Err-NoRoom.field-0-is) in
    (omega (arith, size, short, c.expand.auto.trace), refl)
