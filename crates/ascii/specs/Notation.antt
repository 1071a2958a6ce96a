-- Notation for definitions that compute: the tests of the library (`lib.Dec`) between their arguments. A choice by a test is the
-- library's `if test then this else that`.
-- `m ≤ᵇ n` is `true` exactly where `m ≤ n`, and so on; the laws are the library's (`borrow.Author.Tests`). Assumes nothing.
--
--   is_between low high n          n is one of low, low + 1, .., high
use Rattle.std.specs.Prelude.{ℕ, Bool, ◌&&◌, leb, ltb, eqb}

infix 50 ◌≤ᵇ◌ ◌<ᵇ◌ ◌≡ᵇ◌
abbrev pub ◌≤ᵇ◌ : ℕ → ℕ → Bool
m ≤ᵇ n = leb m n

abbrev pub ◌<ᵇ◌ : ℕ → ℕ → Bool
m <ᵇ n = ltb m n

abbrev pub ◌≡ᵇ◌ : ℕ → ℕ → Bool
m ≡ᵇ n = eqb m n

unfoldable pub is_between : ℕ → ℕ → ℕ → Bool
is_between low high n = low ≤ᵇ n && n ≤ᵇ high
