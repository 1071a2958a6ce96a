-- Laws of `Bytes.antt`, in its order, and of the parts of a list that loops and loans of a slice speak of. `drop index value` is what a
-- loop that reads the value from the left has still to read. Assumes nothing.
use Rattle.std.specs.Prelude.{◌≡◌, refl, ℕ, suc, ◌+◌, ◌-◌, ◌≤◌, ◌<◌, Bool, true, false, not, eqb, List, [], ◌∷◌, length, get_or, take, drop}
use Rattle.std.proofs.Common.{◌∙◌, arith, add-one, rules, drop_of_length-le, length-drop, drop-cons, take_all}
use Rattle.std.proofs.lemmas.List.Sums.{sum_by-cons}
use Rattle.ascii.specs.Bytes.{non_empty, every, how_many}

-- ---- lists

pub drop-step : (value : List ℕ) (index : ℕ) → index < length value → drop index value ≡ get_or value index 0 ∷ drop (index + 1) value
drop-step value index inside = rw (add-one, drop-cons value index 0)

-- the first byte and the rest, as code reads them
pub first-and_rest : (value : List ℕ) → (length value ≡ 0 → ⊥) → value ≡ get_or value 0 0 ∷ drop 1 value
first-and_rest [] some_byte = absurd (some_byte refl)
first-and_rest (byte ∷ rest) some_byte = refl

-- the part from `first` to the end, as `&value[first..]` lends it
pub part_to_end : (value : List ℕ) (first : ℕ) → take (length value - first) (drop first value) ≡ drop first value
part_to_end value first = take_all (length value - first) (drop first value) (omega (arith, length-drop first value))

-- ---- non_empty

pub non_empty-none : (value : List ℕ) → length value ≡ 0 → non_empty value ≡ false
unfolding non_empty
non_empty-none [] empty = refl
non_empty-none (byte ∷ rest) empty = absurd (omega arith)

pub non_empty-some : (value : List ℕ) → (length value ≡ 0 → ⊥) → non_empty value ≡ true
unfolding non_empty
non_empty-some [] some_byte = absurd (some_byte refl)
non_empty-some (byte ∷ rest) some_byte = refl

-- as `is_empty` and a comparison of the length answer it
pub non_empty_is : (value : List ℕ) → non_empty value ≡ not (eqb (length value) 0)
unfolding non_empty
non_empty_is [] = refl
non_empty_is (byte ∷ rest) = search rules

module _ (test : ℕ → Bool) (value : List ℕ) (index : ℕ) where
  -- ---- every

  pub every-step : index < length value → test (get_or value index 0) ≡ true → every test (drop index value) ≡ every test (drop (index + 1) value)
  every-step inside passes = rw (drop-step value index inside, passes)

  pub every-stop : index < length value → test (get_or value index 0) ≡ false → every test (drop index value) ≡ false
  every-stop inside fails = rw (drop-step value index inside, fails)

  pub every-end : length value ≤ index → every test (drop index value) ≡ true
  every-end over = rw (drop_of_length-le value over)

  -- ---- how_many

  pub how_many-counts : index < length value → test (get_or value index 0) ≡ true → how_many test (drop index value) ≡ suc (how_many test (drop (index + 1) value))
  how_many-counts inside passes = rw (drop-step value index inside) (sum_by-cons _ (get_or value index 0) (drop (index + 1) value) ∙ rw passes (omega arith))

  pub how_many-skips : index < length value → test (get_or value index 0) ≡ false → how_many test (drop index value) ≡ how_many test (drop (index + 1) value)
  how_many-skips inside fails = rw (drop-step value index inside) (sum_by-cons _ (get_or value index 0) (drop (index + 1) value) ∙ rw fails (omega arith))

  pub how_many-end : length value ≤ index → how_many test (drop index value) ≡ 0
  how_many-end over = rw (drop_of_length-le value over)

-- the loop of a function that looks at every byte: those before `index` pass the test
pub record EverySoFar (test : ℕ → Bool) (value : List ℕ) (index : ℕ) : Type 0 where
  pub within : index ≤ length value
  pub passed : every test value ≡ every test (drop index value)

module _ (test : ℕ → Bool) (value : List ℕ) where
  pub every-begins : EverySoFar test value 0
  every-begins = record { within = omega arith; passed = refl }

  module _ (index : ℕ) (so_far : EverySoFar test value index) where
    pub every-goes_on : index < length value → test (get_or value index 0) ≡ true → EverySoFar test value (index + 1)
    every-goes_on inside passes = record { within = omega arith; passed = so_far.passed ∙ every-step test value index inside passes }

    pub every-fails : index < length value → test (get_or value index 0) ≡ false → every test value ≡ false
    every-fails inside fails = so_far.passed ∙ every-stop test value index inside fails

    pub every_holds : length value ≤ index → every test value ≡ true
    every_holds over = so_far.passed ∙ every-end test value index over
