-- Laws of `Notation.antt` and of the library's conjunction and disjunction. Assumes nothing.
use Rattle.std.specs.Prelude.{◌≡◌, refl, ℕ, ◌≤◌, ◌<◌, Bool, true, false, ◌&&◌, cond, leb}
use Rattle.std.proofs.Common.{ap, ◌∙◌, arith, leb-true, le-leb, lt-ltb, le-ltb, eq-eqb, ne_eqb}
use Rattle.std.proofs.lemmas.Bool.{false≢true, lt-leb}
use Rattle.ascii.specs.Notation.{is_between}

-- the tests of a definition, from what a branch of the code found; for `search`
pub ruleset tests = (lt-ltb, le-ltb, le-leb, lt-leb, eq-eqb, ne_eqb, arith)

-- ---- _&&_

pub and_left : (a b : Bool) → a && b ≡ true → a ≡ true
and_left true b holds = refl
and_left false b holds = holds

pub and_right : (a b : Bool) → a && b ≡ true → b ≡ true
and_right true b holds = holds
and_right false b holds = absurd (false≢true holds)

pub and_both : (a b : Bool) → a ≡ true → b ≡ true → a && b ≡ true
and_both a b holds also = rw (holds, also)

pub and-false : (a : Bool) → a && false ≡ false
and-false true = refl
and-false false = refl

pub and-true : (a : Bool) → a && true ≡ a
and-true true = refl
and-true false = refl

pub and_assoc : (a b c : Bool) → (a && b) && c ≡ a && (b && c)
and_assoc true b c = refl
and_assoc false b c = refl

-- ---- if_then_else_

pub if_same : {A : Type 0} (test : Bool) (this : A) → cond test this this ≡ this
if_same true this = refl
if_same false this = refl

-- ---- is_between

pub is_between-range : (low high n : ℕ) → is_between low high n ≡ true → (low ≤ n) × (n ≤ high)
unfolding is_between
is_between-range low high n holds = (leb-true low n (and_left _ _ holds), leb-true n high (and_right (leb low n) _ holds))

-- what two tests in this order answer: the first fails, or holds and the second decides
pub is_between-below : (low high n : ℕ) → n < low → is_between low high n ≡ false
unfolding is_between
is_between-below low high n below = rw (lt-leb low n below)

pub is_between-from : (low high n : ℕ) → low ≤ n → is_between low high n ≡ leb n high
unfolding is_between
is_between-from low high n from = rw (le-leb low n from)
