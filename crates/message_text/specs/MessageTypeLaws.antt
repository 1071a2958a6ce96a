-- Laws of `MessageType.antt`: a step down the rows, and the first row of the type among the rows as arrays of three words. Assumes nothing.
use Rattle.std.specs.Prelude.{◌≡◌, refl, ℕ, zero, suc, ◌+◌, ◌-◌, ◌*◌, ◌/◌, ◌≤◌, ◌<◌, Bool, true, false, cond, eqb, Option, Some, None, List, [], ◌∷◌, length, get_or, take, drop}
use Rattle.std.specs.List.{find}
use Rattle.std.specs.Simd.{first_chunks}
use Rattle.message_text.specs.declared.message_type.Stretch.{Stretch}
use Rattle.std.proofs.Common.{arith, length-drop}
use Rattle.std.proofs.lemmas.List.{take_all}
use borrow.Author.Tests.{eq-eqb, ne_eqb}
use Rattle.message_text.specs.MessageType.{stretch, type_tag, is_type, type_place_of}

-- fewer than three words are no row
pub type_place_of-short : (rows : List ℕ) → length rows < 3 → type_place_of rows ≡ stretch 0 0
unfolding type_place_of
type_place_of-short [] short = refl
type_place_of-short (tag ∷ []) short = refl
type_place_of-short (tag ∷ first ∷ []) short = refl
type_place_of-short (tag ∷ first ∷ past ∷ others) short = absurd (omega arith)

pub type_place_of-here : (rows : List ℕ) → 3 ≤ length rows → get_or rows 0 0 ≡ type_tag → type_place_of rows ≡ stretch (get_or rows 1 0) (get_or rows 2 0)
unfolding type_place_of
type_place_of-here [] long same = absurd (omega arith)
type_place_of-here (tag ∷ []) long same = absurd (omega arith)
type_place_of-here (tag ∷ first ∷ []) long same = absurd (omega arith)
type_place_of-here (tag ∷ first ∷ past ∷ others) long same = rw (eq-eqb tag type_tag same)

type_place_of-drop : (rows : List ℕ) → 3 ≤ length rows → (get_or rows 0 0 ≡ type_tag → ⊥) → type_place_of rows ≡ type_place_of (drop 3 rows)
unfolding type_place_of
type_place_of-drop [] long other = absurd (omega arith)
type_place_of-drop (tag ∷ []) long other = absurd (omega arith)
type_place_of-drop (tag ∷ first ∷ []) long other = absurd (omega arith)
type_place_of-drop (tag ∷ first ∷ past ∷ others) long other = rw (ne_eqb tag type_tag other)

-- the rows after the first are all but its three words
pub type_place_of-later : (rows : List ℕ) → 3 ≤ length rows → (get_or rows 0 0 ≡ type_tag → ⊥) → type_place_of rows ≡ type_place_of (take (length rows - 3) (drop 3 rows))
type_place_of-later rows long other =
    let all : length (drop 3 rows) ≤ length rows - 3 = omega (arith, length-drop 3 rows) in
    rw (take_all (length rows - 3) (drop 3 rows) all) (type_place_of-drop rows long other)

-- ---- the rows as arrays of three words

abbrev pub place_in : Option (List ℕ) → Stretch
place_in (Some row) = stretch (get_or row 1 0) (get_or row 2 0)
place_in None = stretch 0 0

find_in : (here : Bool) (tag first past : ℕ) (others : List ℕ) (found : Option (List ℕ)) → type_place_of others ≡ place_in found
    → cond here (stretch first past) (type_place_of others) ≡ place_in (cond here (Some (tag ∷ first ∷ past ∷ [])) found)
find_in true tag first past others found deeper = refl
find_in false tag first past others found deeper = deeper

find_from : (count : ℕ) (fields : List ℕ) → 3 * count ≤ length fields → length fields < 3 * count + 3 → type_place_of fields ≡ place_in (find is_type (first_chunks 3 count fields))
unfolding type_place_of
find_from zero fields some few = type_place_of-short fields (omega arith)
find_from (suc count) [] some few = absurd (omega arith)
find_from (suc count) (tag ∷ []) some few = absurd (omega arith)
find_from (suc count) (tag ∷ first ∷ []) some few = absurd (omega arith)
find_from (suc count) (tag ∷ first ∷ past ∷ others) some few =
    find_in (eqb tag type_tag) tag first past others (find is_type (first_chunks 3 count others)) (find_from count others (omega arith) (omega arith))

module _ (fields : List ℕ) (rows : List (List ℕ)) (are : rows ≡ first_chunks 3 (length fields / 3) fields) where
  pub type_place_of-find : (found : Option (List ℕ)) → found ≡ find is_type rows → type_place_of fields ≡ place_in found
  type_place_of-find found is = rw (is, are) (find_from (length fields / 3) fields (omega arith) (omega arith))
