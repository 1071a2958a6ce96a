-- Laws of `RecordKind.antt`: a kind's number is read as the kind, and no other number is. Assumes nothing.
--
--   NumberedFrom first kinds   the kinds have the numbers from `first` on
--   NoneTo count number        the number is none of 1 to the count
use Rattle.std.specs.Prelude.{◌≡◌, ℕ, zero, suc, ◌+◌, ◌<◌, List, [], ◌∷◌, slice_get, Option, Some, None, Ok, Err}
use Rattle.std.proofs.Common.{refl, sym, ap, ◌∙◌, arith}
use Rattle.std.proofs.lemmas.Option.{same_Some, none-some, slice_get_past}
use Rattle.records.specs.declared.record_kind.RecordKind.{RecordKind}
use Rattle.records.specs.declared.record_kind.RecordKind.TheVariants.{Def, Value, BeginHeader, BeginTrailer, Component, Message, Field, Group, Use, EndHeader, EndTrailer, EndLetters, EndNumber}
use Rattle.records.specs.declared.record_kind.UnknownKind.{UnknownKind}
use Rattle.records.specs.RecordKind.{kind_number, record_kinds, or_unknown, kind_numbered}

-- the kind of a number that is known
pub kind_numbered-at : (known number : ℕ) → number ≡ known → kind_numbered known ≡ kind_numbered number
kind_numbered-at known number same = ap kind_numbered (sym same)

-- a kind's number is read as the kind
pub kind_numbered-number : (kind : RecordKind) → kind_numbered (kind_number kind) ≡ Ok kind
unfolding kind_numbered
kind_numbered-number Def = refl
kind_numbered-number Value = refl
kind_numbered-number BeginHeader = refl
kind_numbered-number BeginTrailer = refl
kind_numbered-number Component = refl
kind_numbered-number Message = refl
kind_numbered-number Field = refl
kind_numbered-number Group = refl
kind_numbered-number Use = refl
kind_numbered-number EndHeader = refl
kind_numbered-number EndTrailer = refl
kind_numbered-number EndLetters = refl
kind_numbered-number EndNumber = refl

abbrev pub NumberedFrom : ℕ → List RecordKind → Type 0
NumberedFrom first [] = Unit
NumberedFrom first (kind ∷ rest) = (kind_number kind ≡ first) × NumberedFrom (suc first) rest

pub number_at : (first : ℕ) (kinds : List RecordKind) (place : ℕ) (kind : RecordKind) → NumberedFrom first kinds → slice_get kinds place ≡ Some kind → kind_number kind ≡ first + place
number_at first [] place kind numbered at = absurd (none-some kind at)
number_at first (head ∷ rest) zero kind numbered at = omega (arith, ap kind_number (sym (same_Some head kind at)) ∙ numbered.0)
number_at first (head ∷ rest) (suc place) kind numbered at = omega (arith, number_at (suc first) rest place kind numbered.1 at)

pub record_kinds-numbered : NumberedFrom 1 record_kinds
record_kinds-numbered = (refl, (refl, (refl, (refl, (refl, (refl, (refl, (refl, (refl, (refl, (refl, (refl, (refl, tt)))))))))))))

or_unknown-ok : (found : Option RecordKind) (kind : RecordKind) → or_unknown found ≡ Ok kind → found ≡ Some kind
or_unknown-ok (Some other) kind same = cc
or_unknown-ok None kind same = absurd (cc)

-- a number that is read as a kind is the kind's
pub number-kind_numbered : (number : ℕ) (kind : RecordKind) → kind_numbered number ≡ Ok kind → number ≡ kind_number kind
unfolding kind_numbered
number-kind_numbered zero kind same = absurd (cc)
number-kind_numbered (suc place) kind same = omega (arith, number_at 1 record_kinds place kind record_kinds-numbered (or_unknown-ok (slice_get record_kinds place) kind same))

abbrev pub NoneTo : ℕ → ℕ → Type 0
NoneTo zero number = Unit
NoneTo (suc count) number = NoneTo count number × (number ≡ suc count → ⊥)

none_to : (count number : ℕ) → NoneTo count number → (number ≡ 0 → ⊥) → count < number
none_to zero number none other = omega (arith, other)
none_to (suc count) number none other = omega (arith, none_to count number none.0 other, none.1)

-- a number that is none of 1 to 13 is read as no kind
pub kind_numbered-other : (number : ℕ) → NoneTo 13 number → Err (record {}) ≡ kind_numbered number
unfolding kind_numbered
kind_numbered-other zero none = refl
kind_numbered-other (suc place) none = rw (slice_get_past record_kinds place (omega (arith, none_to 13 (suc place) none (λ zero. cc))))

-- .. and a number that is read as no kind is none of 1 to 13
module _ (number : ℕ) (unknown : UnknownKind) (none : kind_numbered number ≡ Err unknown) where
  other : (kind : RecordKind) → number ≡ kind_number kind → ⊥
  other kind same = let clash : Ok kind ≡ Err unknown = sym (kind_numbered-number kind) ∙ (ap kind_numbered (sym same) ∙ none) in cc

  pub none-numbered : NoneTo 13 number
  none-numbered = (((((((((((((tt, other Def), other Value), other BeginHeader), other BeginTrailer), other Component), other Message), other Field), other Group), other Use), other EndHeader), other EndTrailer), other EndLetters), other EndNumber)
