-- The records of a dictionary's words, each a list of ten words. Assumes nothing.
--
--   records_in words   the records of the lines, in the text's order
use Rattle.std.specs.Prelude.{◌≡◌, refl, ◌+◌, ◌*◌, ◌-◌, ◌/◌, ◌≤◌, ◌<◌, zero, suc, ℕ, List, [], length, get_or, take, drop}
use Rattle.std.specs.Simd.{first_chunks}
use Rattle.std.proofs.Common.{ap, ◌∙◌, arith, length-drop, length-take-le}
use Rattle.std.proofs.lemmas.List.{drop-drop, drop-take, take-take}

abbrev pub records_in : List ℕ → List (List ℕ)
records_in words = first_chunks 10 (get_or words 0 0) (drop 4 words)

pub length-first_chunks : (count : ℕ) (words : List ℕ) → length (first_chunks 10 count words) ≡ count
length-first_chunks zero words = refl
length-first_chunks (suc count) words = ap suc (length-first_chunks count (drop 10 words))

-- a chunk is a part of the words
pub first_chunks-nth : (count : ℕ) (words : List ℕ) (number : ℕ) (other : List ℕ) → number < count
    → get_or (first_chunks 10 count words) number other ≡ take 10 (drop (10 * number) words)
first_chunks-nth zero words number other inside = absurd (omega arith)
first_chunks-nth (suc count) words zero other inside = refl
first_chunks-nth (suc count) words (suc number) other inside =
    let behind : 10 + 10 * number ≡ 10 * suc number = omega arith in
    first_chunks-nth count (drop 10 words) number other (omega arith)
    ∙ ap (take 10) (drop-drop (10 * number) 10 words ∙ ap (λ (at : ℕ). drop at words) behind)

pub record_numbered : (words : List ℕ) (number : ℕ) (other : List ℕ) → number < get_or words 0 0
    → get_or (records_in words) number other ≡ take 10 (drop (4 + 10 * number) words)
record_numbered words number other inside =
    first_chunks-nth (get_or words 0 0) (drop 4 words) number other inside
    ∙ ap (take 10) (drop-drop (10 * number) 4 words)

-- the records behind the first ones
pub first_chunks-behind : (count : ℕ) (words : List ℕ) (number : ℕ)
    → drop number (first_chunks 10 count words) ≡ first_chunks 10 (count - number) (drop (10 * number) words)
first_chunks-behind count words zero = let all : count - 0 ≡ count = omega arith in rw all
first_chunks-behind zero words (suc number) = let none : 0 - suc number ≡ 0 = omega arith in rw none
first_chunks-behind (suc count) words (suc number) =
    let behind : 10 + 10 * number ≡ 10 * suc number = omega arith in
    let fewer : suc count - suc number ≡ count - number = omega arith in
    rw fewer
    (first_chunks-behind count (drop 10 words) number
    ∙ ap (first_chunks 10 (count - number)) (drop-drop (10 * number) 10 words ∙ ap (λ (at : ℕ). drop at words) behind))

-- the first words alone give the first chunks
pub first_chunks-part : (count : ℕ) (words : List ℕ) → first_chunks 10 count (take (10 * count) words) ≡ first_chunks 10 count words
first_chunks-part zero words = refl
first_chunks-part (suc count) words =
    let more : 10 * suc count ≡ 10 + 10 * count = omega arith in
    rw more
    (rw (take-take 10 (10 + 10 * count) words (omega arith), drop-take 10 (10 * count) words, first_chunks-part count (drop 10 words)))

-- the records as a part of the words that was lent gives them
pub records-lent : (words : List ℕ) → 4 + 10 * get_or words 0 0 ≤ length words
    → first_chunks 10 (length (take (4 + 10 * get_or words 0 0 - 4) (drop 4 words)) / 10) (take (4 + 10 * get_or words 0 0 - 4) (drop 4 words)) ≡ records_in words
records-lent words fits =
    let size : 4 + 10 * get_or words 0 0 - 4 ≡ 10 * get_or words 0 0 = omega arith in
    let whole : length (take (10 * get_or words 0 0) (drop 4 words)) ≡ 10 * get_or words 0 0 = length-take-le (10 * get_or words 0 0) (drop 4 words) (omega (arith, length-drop 4 words)) in
    let count : 10 * get_or words 0 0 / 10 ≡ get_or words 0 0 = omega arith in
    rw (size, whole, count) (first_chunks-part (get_or words 0 0) (drop 4 words))
