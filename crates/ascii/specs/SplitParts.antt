-- The parts that `split` gives are those of the library's `slice_split`, so that code may go over a value's parts by `split` and `all`.
-- Assumes nothing.
--
--   listed parts   the parts as a list
use Rattle.std.specs.Prelude.{◌≡◌, refl, ℕ, Bool, true, false, ◌&&◌, List, [], ◌∷◌, eqb, cond}
use Rattle.std.proofs.Common.{ap, ◌∙◌, sym}
use Rattle.std.specs.List.{list_all, slice_split, onto_first}
use Rattle.ascii.specs.NotationLaws.{and-true}
use Rattle.ascii.specs.Split.{Parts, last, part, with_first, split, every_part}

unfoldable pub listed : Parts → List (List ℕ)
listed (last bytes) = bytes ∷ []
listed (part bytes others) = bytes ∷ listed others

listed-first : (byte : ℕ) (parts : Parts) → listed (with_first byte parts) ≡ onto_first byte (listed parts)
unfolding listed with_first
listed-first byte (last bytes) = refl
listed-first byte (part bytes others) = refl

pub listed-split : (separator : ℕ) (value : List ℕ) → listed (split separator value) ≡ slice_split (λ byte. eqb byte separator) value
unfolding listed split
listed-split separator [] = refl
listed-split separator (byte ∷ rest) = by (eqb byte separator) (listed-split separator rest)
  where
    by : (test : Bool) → listed (split separator rest) ≡ slice_split (λ byte. eqb byte separator) rest
        → listed (cond test (part [] (split separator rest)) (with_first byte (split separator rest)))
        ≡ cond test ([] ∷ slice_split (λ byte. eqb byte separator) rest) (onto_first byte (slice_split (λ byte. eqb byte separator) rest))
    by true same = ap (λ parts. [] ∷ parts) same
    by false same = listed-first byte (split separator rest) ∙ ap (onto_first byte) same

every_part-listed : (test : List ℕ → Bool) (parts : Parts) → every_part test parts ≡ list_all test (listed parts)
unfolding listed every_part
every_part-listed test (last bytes) = sym (and-true (test bytes))
every_part-listed test (part bytes others) = ap (λ rest. test bytes && rest) (every_part-listed test others)

pub every_part-split : (test : List ℕ → Bool) (separator : ℕ) (value : List ℕ)
    → list_all test (slice_split (λ byte. eqb byte separator) value) ≡ every_part test (split separator value)
every_part-split test separator value = sym (every_part-listed test (split separator value) ∙ ap (list_all test) (listed-split separator value))
