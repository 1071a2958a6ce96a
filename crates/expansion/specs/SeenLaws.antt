-- What is seen among words by the slice's own `contains` is what `is_in` says, and what `is_in` says word by word. Assumes nothing.
use Rattle.std.specs.Prelude.{◌≡◌, refl, ℕ, ◌+◌, ◌≤◌, ◌<◌, Bool, true, false, ◌||◌, List, [], ◌∷◌, length, get_or, drop}
use Rattle.std.specs.List.{list_any}
use Rattle.std.proofs.Common.{ap, drop_of_length-le}
use borrow.Author.Tests.{eq-eqb, ne_eqb}
use Rattle.ascii.specs.BytesLaws.{drop-step}
use Rattle.std.proofs.Math.Dec.{eqb}
use Rattle.ascending.specs.Sort.{is_in}

pub seen_is : (word : ℕ) (words : List ℕ) → list_any (λ next. eqb next word) words ≡ is_in word words
unfolding is_in
seen_is word [] = refl
seen_is word (next ∷ rest) = ap (λ (later : Bool). eqb next word || later) (seen_is word rest)

-- the words from a place on
module _ (word : ℕ) (words : List ℕ) (index : ℕ) where
  pub seen-found : index < length words → get_or words index 0 ≡ word → is_in word (drop index words) ≡ true
  unfolding is_in
  seen-found inside same = rw (drop-step words index inside, eq-eqb (get_or words index 0) word same)

  pub seen_next : index < length words → (get_or words index 0 ≡ word → ⊥) → is_in word (drop index words) ≡ is_in word (drop (index + 1) words)
  unfolding is_in
  seen_next inside differs = rw (drop-step words index inside, ne_eqb (get_or words index 0) word differs)

  pub seen-ends : length words ≤ index → is_in word (drop index words) ≡ false
  unfolding is_in
  seen-ends over = rw (drop_of_length-le words over)
