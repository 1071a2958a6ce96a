-- Laws of `type_text` (`LineTexts.antt`): each of the 34 names of `FieldType` is read as its place. Assumes nothing.
use Rattle.std.specs.Prelude.{◌≡◌, refl, ℕ, zero, suc, ◌<◌, Bool, true, false, ◌&&◌, eqb, ltb, length, get_or, Option, Some, None}
use Rattle.std.proofs.Common.{sym, ap, arith, ltb-true, ltb-false, eqb-true}
use Rattle.std.proofs.lemmas.Bool.{false≢true, eqb-false}
use Rattle.std.proofs.Math.ListN.{get_or-eq_default}
use Rattle.ascii.specs.NotationLaws.{and_left, and_right}
use Rattle.ascii.specs.Bytes.{every}
use Rattle.field_types.specs.FieldTypeLaws.{NoneBelow, none_below}
use Rattle.lines.specs.Lines.{starts_with, is_same, longer, cut}
use Rattle.lines.specs.LineParts.{type_in, type_of}
use Rattle.records.specs.LineTexts.{name_at, type_text}
use Rattle.records.specs.LineLengths.{type_lengths}
use Rattle.records.specs.NumeralLaws.{is_above}

-- ---- type_text: what holds of each of the 34 names, by computation

abbrev all_below : ℕ → (ℕ → Bool) → Bool
all_below zero test = true
all_below (suc n) test = test n && all_below n test

all_below_by : (n : ℕ) (test : ℕ → Bool) (last : Bool) (place : ℕ)
    → eqb place n ≡ last
    → test n ≡ true
    → place < suc n
    → (place < n → test place ≡ true)
    → test place ≡ true
all_below_by n test true place same passes below deeper = rw (eqb-true place n same) passes
all_below_by n test false place other passes below deeper = let differ = eqb-false place n other in deeper (omega arith)

all_below_at : (n : ℕ) (test : ℕ → Bool) → all_below n test ≡ true → (place : ℕ) → place < n → test place ≡ true
all_below_at zero test all place below = absurd (omega arith)
all_below_at (suc n) test all place below =
    all_below_by n test (eqb place n) place refl (and_left (test n) (all_below n test) all) below (all_below_at n test (and_right (test n) (all_below n test) all) place)

abbrev is_type_at : ℕ → Option ℕ → Bool
is_type_at place (Some found) = eqb found place
is_type_at place None = false

type_at : (place : ℕ) (found : Option ℕ) → is_type_at place found ≡ true → found ≡ Some place
type_at place (Some number) same = ap Some (eqb-true number place same)
type_at place None same = absurd (false≢true same)

types-read_back : all_below 34 (λ place. is_type_at place (type_of (type_text place))) ≡ true
unfolding name_at type_text starts_with is_same longer cut type_in type_of
types-read_back = refl

types-above : all_below 34 (λ place. every (is_above 32) (type_text place)) ≡ true
unfolding name_at type_text longer cut
types-above = refl

type-lengths : all_below 34 (λ place. eqb (length (type_text place)) (get_or type_lengths place 0)) ≡ true
unfolding name_at type_text longer cut
type-lengths = refl

module _ (place : ℕ) (few : place < 34) where
  pub type_of_type_text : type_of (type_text place) ≡ Some place
  type_of_type_text = type_at place (type_of (type_text place)) (all_below_at 34 (λ number. is_type_at number (type_of (type_text number))) types-read_back place few)

  pub type_text-above : every (is_above 32) (type_text place) ≡ true
  type_text-above = all_below_at 34 (λ number. every (is_above 32) (type_text number)) types-above place few

  pub type_text-length : length (type_text place) ≡ get_or type_lengths place 0
  type_text-length = eqb-true _ _ (all_below_at 34 (λ number. eqb (length (type_text number)) (get_or type_lengths number 0)) type-lengths place few)

-- ---- type_lengths

-- the length at a place that is known
pub type_lengths-at : (known place : ℕ) → place ≡ known → get_or type_lengths known 0 ≡ get_or type_lengths place 0
type_lengths-at known place same = ap (λ at. get_or type_lengths at 0) (sym same)

pub type_lengths-behind : (place : ℕ) → NoneBelow 34 place → 0 ≡ get_or type_lengths place 0
type_lengths-behind place none = sym (get_or-eq_default type_lengths 0 (none_below 34 place none))

lengths_below_20 : all_below 34 (λ place. ltb (get_or type_lengths place 0) 20) ≡ true
lengths_below_20 = refl

length-few_by : (place : ℕ) (inside : Bool) → ltb place 34 ≡ inside → get_or type_lengths place 0 < 20
length-few_by place true below = ltb-true _ _ (all_below_at 34 (λ number. ltb (get_or type_lengths number 0) 20) lengths_below_20 place (ltb-true place 34 below))
length-few_by place false over = rw (get_or-eq_default type_lengths 0 (ltb-false place 34 over)) (omega arith)

pub type_lengths-few : (place : ℕ) → get_or type_lengths place 0 < 20
type_lengths-few place = length-few_by place (ltb place 34) refl
