-- Laws of `LayoutWords.antt`, in its order. Assumes nothing.
use Rattle.std.specs.Prelude.{◌≡◌, ℕ, zero, suc, ◌+◌, ◌-◌, ◌≤◌, ◌<◌, List, ◌∷◌, ◌++◌, length, get_or, take, drop}
use Rattle.std.proofs.Common.{sym, ap, ◌∙◌, arith, length-drop, length-take-le, drop-cons, drop-drop, take-add}
use Rattle.ascii.specs.BytesLaws.{drop-step}
use Rattle.layouts.specs.Layout.{joined}
use Rattle.layouts.specs.LayoutWords.{places_from, stretch, stretches}

-- the two places stand in the words, and bound a part of them
pub record StretchInside (words : List ℕ) (place : ℕ) : Type 0 where
  pub places : place + 1 < length words
  pub rises : get_or words place 0 ≤ get_or words (place + 1) 0
  pub within : get_or words (place + 1) 0 ≤ length words

-- the part that code takes
pub stretch-part : (words : List ℕ) (place first past : ℕ) → first ≡ get_or words place 0 → past ≡ get_or words (place + 1) 0 → take (past - first) (drop first words) ≡ stretch words place
unfolding stretch
stretch-part words place first past from to = rw (from, to)

-- ---- stretches

pub stretches-next : (words : List ℕ) (place next count left : ℕ) → count ≡ suc left → next ≡ place + 1 → stretches words place count ≡ stretch words place ∷ stretches words next left
unfolding stretches
stretches-next words place next count left some follows = rw (some, follows)

pub length-stretch : (words : List ℕ) (place : ℕ) → StretchInside words place → length (stretch words place) ≡ get_or words (place + 1) 0 - get_or words place 0
unfolding stretch
length-stretch words place inside =
    length-take-le (get_or words (place + 1) 0 - get_or words place 0) (drop (get_or words place 0) words) (omega (arith, length-drop (get_or words place 0) words, inside.within, inside.rises))

-- the row of places that the stretches came from
pub stretches-places : (words : List ℕ) (count place : ℕ) → place + count < length words → ((number : ℕ) → number < count → StretchInside words (place + number))
    → places_from (get_or words place 0) (stretches words place count) ≡ take (suc count) (drop place words)
unfolding places_from stretches
stretches-places words zero place within inside = rw (drop-cons words place 0 (omega arith))
stretches-places words (suc count) place within inside =
    let here : place + 0 ≡ place = omega arith in
    let first : StretchInside words place = rw here at (inside 0 (omega arith)) in
    let next : get_or words place 0 + length (stretch words place) ≡ get_or words (place + 1) 0 = omega (arith, length-stretch words place first, first.rises) in
    rw (next, drop-step words place (omega arith)) (ap {B = List ℕ} (λ rest. get_or words place 0 ∷ rest) (stretches-places words count (place + 1) (omega arith) (λ number below. later number below)))
  where
    later : (number : ℕ) → number < count → StretchInside words (place + 1 + number)
    later number below = let same : place + suc number ≡ place + 1 + number = omega arith in rw same at (inside (suc number) (omega arith))

-- the stretches one behind the other are one stretch
pub stretches-joined : (words : List ℕ) (count place end : ℕ) → end ≡ place + count → ((number : ℕ) → number < count → StretchInside words (place + number))
    → (get_or words place 0 ≤ get_or words end 0) × (joined (stretches words place count) ≡ take (get_or words end 0 - get_or words place 0) (drop (get_or words place 0) words))
unfolding joined stretches stretch
stretches-joined words zero place end ends inside =
    let same : end ≡ place = omega arith in
    let none : get_or words place 0 - get_or words place 0 ≡ 0 = omega arith in
    (rw same (omega arith), rw (same, none))
stretches-joined words (suc count) place end ends inside =
    let here : place + 0 ≡ place = omega arith in
    let first : StretchInside words place = rw here at (inside 0 (omega arith)) in
    let rest = stretches-joined words count (place + 1) end (omega arith) (λ number below. later number below) in
    (omega (arith, first.rises, rest.0), ap (λ (tail : List ℕ). stretch words place ++ tail) rest.1 ∙ together (get_or words place 0) (get_or words (place + 1) 0) (get_or words end 0) first.rises rest.0)
  where
    later : (number : ℕ) → number < count → StretchInside words (place + 1 + number)
    later number below = let same : place + suc number ≡ place + 1 + number = omega arith in rw same at (inside (suc number) (omega arith))

    together : (first middle last : ℕ) → first ≤ middle → middle ≤ last
        → take (middle - first) (drop first words) ++ take (last - middle) (drop middle words) ≡ take (last - first) (drop first words)
    together first middle last low high =
        let reach : first + (middle - first) ≡ middle = omega arith in
        let sum : middle - first + (last - middle) ≡ last - first = omega arith in
        let behind : drop middle words ≡ drop (middle - first) (drop first words) = sym (drop-drop (middle - first) first words ∙ ap (λ (from : ℕ). drop from words) reach) in
        rw behind (sym (take-add (middle - first) (last - middle) (drop first words)) ∙ ap (λ (count : ℕ). take count (drop first words)) sum)
