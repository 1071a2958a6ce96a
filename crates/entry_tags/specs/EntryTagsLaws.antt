-- Laws of `EntryTags.antt`: one bit of a word, a rank of the words, and the set of ranks that the words stand for. One law serves every number of
-- words. Assumes nothing.
use Rattle.std.specs.Prelude.{◌≡◌, ◌≢◌, Bool, true, false, not, ◌||◌, List, [], ◌∷◌, map, set, take, replicate}
use Rattle.std.proofs.Math.Path.{refl}
use Rattle.std.proofs.Common.{sym, ap, ◌∙◌, pow-suc, one-mul, zero-mul, mul_assoc, length-set, shl_exact, pow_pos, get_or-set_other, eq-eqb, ne_eqb, eqb-true}
use Prim.Native.Nat.{ℕ, zero, suc, ◌+◌, ◌*◌, ◌/◌, ◌%◌, ◌^◌, min, ◌≤◌, ◌<◌}
use Rattle.std.proofs.lemmas.Bool.{false≢true, eqb-false}
use Rattle.std.proofs.Math.Bool.{not-not}
use Rattle.std.proofs.lemmas.List.Sums.{sum_by-set, sum_by-take-le}
use Rattle.std.proofs.lemmas.List.Folds.{sum_by-replicate}
use native.Mathlib.Omega.{arith}
use Rattle.std.proofs.Math.Nat.{pow-succ', div-div-eq-div-mul, zero-div}
use Rattle.std.proofs.Math.Decide.{ℕ_discrete}
use Rattle.std.specs.Int.Bits.{bit_and, bit_or, and_step, or_step, and_zero_r, or_zero_l, or_zero_r}
use lib.Count.{ones, ones_step}
use Rattle.std.proofs.Math.Dec.{eqb}
use Rattle.std.proofs.Math.ListN.{length, get_or}
use Rattle.std.proofs.lemmas.List.{length-map, length-replicate, get_or-replicate, set-get_or}
use Rattle.std.proofs.Math.Seq.{take-set-lt, get_or-take, length-take-le, get_or-set_same}
use Rattle.ascii.specs.Membership.{◌∈ᵇ◌}
use Rattle.entry_tags.specs.EntryTags.{no_ranks, holds_rank, insert_rank, mask_in, ones_of, rank_count, Stands, TagsSeen}
use Rattle.ascii.specs.Membership.{insert_if}

-- ---- one bit of a word

-- the mask of a bit, as a shift makes it
pub mask_is : (bit : ℕ) → bit < 64 → (1 * 2 ^ bit) % 2 ^ 64 ≡ 2 ^ bit
mask_is bit low = shl_exact 1 bit 64 (omega arith) (omega arith) ∙ one-mul (2 ^ bit)

-- a higher bit of a word is the bit below it of its half
bit_half : (bit word : ℕ) → word / 2 ^ suc bit ≡ word / 2 / 2 ^ bit
bit_half bit word = rw (pow-succ' 2 bit, ← div-div-eq-div-mul)

module _ (bit : ℕ) where
  mask_halves : 2 ^ suc bit / 2 ≡ 2 ^ bit
  mask_halves = omega (arith, pow-succ' 2 bit)

  mask_even : 2 ^ suc bit % 2 ≡ 0
  mask_even = omega (arith, pow-succ' 2 bit)

  or-halves : (word : ℕ) → bit_or word (2 ^ suc bit) / 2 ≡ bit_or (word / 2) (2 ^ bit)
  or-halves word = let step = rw (mask_halves, mask_even) at (or_step word (2 ^ suc bit)) in omega arith

  or-parity : (word : ℕ) → bit_or word (2 ^ suc bit) % 2 ≡ word % 2
  or-parity word = let step = rw (mask_halves, mask_even) at (or_step word (2 ^ suc bit)) in omega arith

or-one_half : (word : ℕ) → bit_or word 1 / 2 ≡ word / 2
or-one_half word =
    let step = or_step word 1 in
    let high : bit_or (word / 2) (1 / 2) ≡ word / 2 = or_zero_r (word / 2) in
    omega arith

or-one_odd : (word : ℕ) → bit_or word 1 % 2 ≡ 1
or-one_odd word = let step = or_step word 1 in omega arith

-- setting a bit sets it, leaves the others, and adds a one where it was clear
or-sets : (bit word : ℕ) → bit_or word (2 ^ bit) / 2 ^ bit % 2 ≡ 1
or-sets zero word = let odd = or-one_odd word in omega arith
or-sets (suc bit) word = rw (bit_half bit (bit_or word (2 ^ suc bit)), or-halves bit word) (or-sets bit (word / 2))

or-leaves : (bit other word : ℕ) → bit ≢ other → bit_or word (2 ^ bit) / 2 ^ other % 2 ≡ word / 2 ^ other % 2
or-leaves zero zero word apart = absurd (apart refl)
or-leaves zero (suc other) word apart = rw (bit_half other (bit_or word 1), bit_half other word, or-one_half word)
or-leaves (suc bit) zero word apart = let parity = or-parity bit word in omega arith
or-leaves (suc bit) (suc other) word apart =
    rw (bit_half other (bit_or word (2 ^ suc bit)), bit_half other word, or-halves bit word) (or-leaves bit other (word / 2) (λ same. apart (ap suc same)))

or-adds : (bit word : ℕ) → word / 2 ^ bit % 2 ≡ 0 → ones (bit_or word (2 ^ bit)) ≡ suc (ones word)
or-adds zero word clear = omega (arith, ones_step (bit_or word 1), ones_step word, ap ones (or-one_half word), or-one_odd word)
or-adds (suc bit) word clear =
    let half = or-adds bit (word / 2) (rw (← bit_half bit word) clear) in
    omega (arith, ones_step (bit_or word (2 ^ suc bit)), ones_step word, ap ones (or-halves bit word), or-parity bit word, half)

or-again : (bit word : ℕ) → word / 2 ^ bit % 2 ≡ 1 → bit_or word (2 ^ bit) ≡ word
or-again zero word set = let step = or_step word 1 in let high : bit_or (word / 2) (1 / 2) ≡ word / 2 = or_zero_r (word / 2) in omega arith
or-again (suc bit) word set =
    let half = or-again bit (word / 2) (rw (← bit_half bit word) set) in
    omega (arith, or-halves bit word, or-parity bit word, half)

-- the test of a bit by its mask
and-mask_is : (bit word : ℕ) → bit_and word (2 ^ bit) ≡ (word / 2 ^ bit % 2) * 2 ^ bit
and-mask_is zero word =
    let low : min (word % 2) 1 ≡ word % 2 = omega arith in
    omega (arith, and_step word 1, and_zero_r (word / 2), low)
and-mask_is (suc bit) word =
    let doubled : (word / 2 ^ suc bit % 2) * 2 ^ suc bit ≡ ((word / 2 / 2 ^ bit % 2) * 2 ^ bit) * 2 = rw (bit_half bit word, pow-suc 2 bit, ← mul_assoc) in
    omega (arith, and_step word (2 ^ suc bit), ap (bit_and (word / 2)) (mask_halves bit), mask_even bit, and-mask_is bit (word / 2), doubled)

bit_cases : (bit word : ℕ) → eqb (bit_and word (2 ^ bit)) 0 ≡ not (eqb (word / 2 ^ bit % 2) 1)
bit_cases bit word = go (word / 2 ^ bit % 2) refl (omega arith)
  where
    go : (digit : ℕ) → word / 2 ^ bit % 2 ≡ digit → digit < 2 → eqb (bit_and word (2 ^ bit)) 0 ≡ not (eqb (word / 2 ^ bit % 2) 1)
    go zero is-clear low = rw (is-clear, eq-eqb (bit_and word (2 ^ bit)) 0 (and-mask_is bit word ∙ rw is-clear (zero-mul (2 ^ bit))))
    go (suc digit) is_set low =
        let one : word / 2 ^ bit % 2 ≡ 1 = omega arith in
        let mask : bit_and word (2 ^ bit) ≡ 1 * 2 ^ bit = and-mask_is bit word ∙ ap (λ (number : ℕ). number * 2 ^ bit) one in
        rw (one, ne_eqb (bit_and word (2 ^ bit)) 0 (λ (none-set : bit_and word (2 ^ bit) ≡ 0). omega (arith, mask, none-set, pow_pos bit)))

-- ---- the test of a rank, and the setting of its bit, as code makes them

module _ (words : List ℕ) (rank : ℕ) where
  pub fresh_is : eqb (bit_and (get_or words (rank / 64) 0) (2 ^ (rank % 64))) 0 ≡ not (holds_rank words rank)
  unfolding holds_rank
  fresh_is = bit_cases (rank % 64) (get_or words (rank / 64) 0)

  pub holds-is : not (eqb (bit_and (get_or words (rank / 64) 0) (2 ^ (rank % 64))) 0) ≡ holds_rank words rank
  holds-is = ap not fresh_is ∙ not-not (holds_rank words rank)

  pub inserted-is : set words (rank / 64) (bit_or (get_or words (rank / 64) 0) (2 ^ (rank % 64))) ≡ insert_rank words rank
  unfolding insert_rank
  inserted-is = refl

-- ---- the same by the words one by one, each with its mask

module _ (word rank : ℕ) where
  pub mask_here : rank / 64 ≡ word → 2 ^ (rank % 64) ≡ mask_in word rank
  unfolding mask_in
  mask_here same = rw (eq-eqb (rank / 64) word same)

  pub mask_elsewhere : (rank / 64 ≡ word → ⊥) → 0 ≡ mask_in word rank
  unfolding mask_in
  mask_elsewhere differ = rw (ne_eqb (rank / 64) word differ)

module _ (words : List ℕ) (rank : ℕ) where
  -- the words up to the one numbered `last`, each joined with its mask; and what they have of it
  abbrev pub with_masks : ℕ → List ℕ
  with_masks zero = set words 0 (bit_or (get_or words 0 0) (mask_in 0 rank))
  with_masks (suc last) = set (with_masks last) (suc last) (bit_or (get_or words (suc last) 0) (mask_in (suc last) rank))

  abbrev pub masks_hit : ℕ → ℕ
  masks_hit zero = bit_and (get_or words 0 0) (mask_in 0 rank)
  masks_hit (suc last) = bit_or (masks_hit last) (bit_and (get_or words (suc last) 0) (mask_in (suc last) rank))

  -- a word that has not the rank's bit stays
  kept_there : (word : ℕ) → (rank / 64 ≡ word → ⊥) → (others : List ℕ) → get_or others word 0 ≡ get_or words word 0
      → set others word (bit_or (get_or words word 0) (mask_in word rank)) ≡ others
  kept_there word apart others same = rw (← mask_elsewhere word rank apart, or_zero_r (get_or words word 0), ← same, set-get_or)

  no_hit : (word : ℕ) → (rank / 64 ≡ word → ⊥) → bit_and (get_or words word 0) (mask_in word rank) ≡ 0
  no_hit word apart = rw (← mask_elsewhere word rank apart) (and_zero_r (get_or words word 0))

  masks_below : (last : ℕ) → last < rank / 64 → with_masks last ≡ words
  masks_below zero below = kept_there 0 (λ same. omega (arith, same, below)) words refl
  masks_below (suc last) below =
      rw (masks_below last (omega arith)) (kept_there (suc last) (λ same. omega (arith, same, below)) words refl)

  hits_below : (last : ℕ) → last < rank / 64 → masks_hit last ≡ 0
  hits_below zero below = no_hit 0 (λ same. omega (arith, same, below))
  hits_below (suc last) below =
      rw (hits_below last (omega arith), no_hit (suc last) (λ same. omega (arith, same, below))) (or_zero_r 0)

  pub inserted-masks : (last : ℕ) → rank / 64 ≤ last → with_masks last ≡ insert_rank words rank
  unfolding insert_rank
  inserted-masks zero within =
      let here : rank / 64 ≡ 0 = omega arith in
      rw (← mask_here 0 rank here, here)
  inserted-masks (suc last) within = go (inserted-masks last) (ℕ_discrete (rank / 64) (suc last))
    where
      go : (rank / 64 ≤ last → with_masks last ≡ insert_rank words rank) → Dec (rank / 64 ≡ suc last) → with_masks (suc last) ≡ insert_rank words rank
      go before (yes here) = rw (masks_below last (omega arith), ← mask_here (suc last) rank here, here)
      go before (no apart) =
          rw (before (omega arith))
          (kept_there (suc last) apart (insert_rank words rank) (get_or-set_other words (rank / 64) (suc last) _ 0 (λ same. apart (sym same))))

  hit_by : (last : ℕ) → rank / 64 ≤ last → masks_hit last ≡ bit_and (get_or words (rank / 64) 0) (2 ^ (rank % 64))
  hit_by zero within =
      let here : rank / 64 ≡ 0 = omega arith in
      rw (← mask_here 0 rank here, here)
  hit_by (suc last) within = go (hit_by last) (ℕ_discrete (rank / 64) (suc last))
    where
      go : (rank / 64 ≤ last → masks_hit last ≡ bit_and (get_or words (rank / 64) 0) (2 ^ (rank % 64))) → Dec (rank / 64 ≡ suc last)
          → masks_hit (suc last) ≡ bit_and (get_or words (rank / 64) 0) (2 ^ (rank % 64))
      go before (yes here) = rw (hits_below last (omega arith), ← mask_here (suc last) rank here, here) (or_zero_l _)
      go before (no apart) = rw (no_hit (suc last) apart, or_zero_r (masks_hit last)) (before (omega arith))

  pub fresh_masks : (last : ℕ) → rank / 64 ≤ last → eqb (masks_hit last) 0 ≡ not (holds_rank words rank)
  fresh_masks last within = rw (hit_by last within) (fresh_is words rank)

-- ---- the set of ranks

insert_rank-length : (words : List ℕ) (rank : ℕ) → length (insert_rank words rank) ≡ length words
unfolding insert_rank
insert_rank-length words rank = simp length-set

bit_clear : (bit : ℕ) → (bit ≡ 1 → ⊥) → bit < 2 → bit ≡ 0
bit_clear zero not_set low = refl
bit_clear (suc bit) not_set low = absurd (not_set (omega arith))

ones_zero : ones 0 ≡ 0
unfolding ones lib.Count.ones_in
ones_zero = refl

ones_of-zeros : (width : ℕ) → ones_of (replicate width 0) ≡ 0
ones_of-zeros width = sum_by-replicate ones width 0 ∙ rw ones_zero (omega arith)

pub stands-empty : (width members : ℕ) → members ≤ 64 * width → Stands (no_ranks width) width members []
unfolding holds_rank rank_count
stands-empty width members fits = record {
  wide = length-replicate {A = ℕ} width 0;
  fits = fits;
  holds = λ rank inside. rw (get_or-replicate {A = ℕ} width (rank / 64) 0 0 (omega arith), zero-div (2 ^ (rank % 64)));
  counts = omega (arith, sum_by-take-le ones (replicate width 0) ((members + 63) / 64), ones_of-zeros width);
}

module _ (words : List ℕ) (rank : ℕ) (inside : rank / 64 < length words) where
  -- inserting a rank is inserting into the set
  pub holds_rank-insert_rank : (other : ℕ) → holds_rank (insert_rank words rank) other ≡ (eqb other rank || holds_rank words other)
  unfolding holds_rank insert_rank
  holds_rank-insert_rank other = go (ℕ_discrete other rank)
    where
      go : Dec (other ≡ rank)
          → eqb (get_or (set words (rank / 64) (bit_or (get_or words (rank / 64) 0) (2 ^ (rank % 64)))) (other / 64) 0 / 2 ^ (other % 64) % 2) 1
          ≡ (eqb other rank || eqb (get_or words (other / 64) 0 / 2 ^ (other % 64) % 2) 1)
      go (yes same) =
          rw (eq-eqb other rank same, same, get_or-set_same words (rank / 64) (bit_or (get_or words (rank / 64) 0) (2 ^ (rank % 64))) 0 inside)
          (eq-eqb _ 1 (or-sets (rank % 64) (get_or words (rank / 64) 0)))
      go (no apart) = rw (ne_eqb other rank apart) (in_word (ℕ_discrete (other / 64) (rank / 64)))
        where
          in_word : Dec (other / 64 ≡ rank / 64)
              → eqb (get_or (set words (rank / 64) (bit_or (get_or words (rank / 64) 0) (2 ^ (rank % 64)))) (other / 64) 0 / 2 ^ (other % 64) % 2) 1
              ≡ eqb (get_or words (other / 64) 0 / 2 ^ (other % 64) % 2) 1
          in_word (yes word) =
              rw (
                word,
                get_or-set_same words (rank / 64) (bit_or (get_or words (rank / 64) 0) (2 ^ (rank % 64))) 0 inside,
                or-leaves (rank % 64) (other % 64) (get_or words (rank / 64) 0) (λ same. apart (omega arith)),
              )
          in_word (no elsewhere) = rw (get_or-set_other words (rank / 64) (other / 64) (bit_or (get_or words (rank / 64) 0) (2 ^ (rank % 64))) 0 elsewhere)

  -- a rank that is there changes nothing
  insert_rank-held : holds_rank words rank ≡ true → insert_rank words rank ≡ words
  unfolding holds_rank insert_rank
  insert_rank-held held = rw (or-again (rank % 64) (get_or words (rank / 64) 0) (eqb-true _ 1 held), set-get_or)

  -- a rank that is not there adds one
  rank_count-new : (members : ℕ) → rank < members → members ≤ 64 * length words → holds_rank words rank ≡ false
      → rank_count (insert_rank words rank) members ≡ suc (rank_count words members)
  unfolding holds_rank insert_rank rank_count
  rank_count-new members low fits new =
      let used : rank / 64 < (members + 63) / 64 = omega arith in
      let clear : get_or words (rank / 64) 0 / 2 ^ (rank % 64) % 2 ≡ 0 = bit_clear _ (eqb-false _ 1 new) (omega arith) in
      let taken : length (take ((members + 63) / 64) words) ≡ (members + 63) / 64 = length-take-le ((members + 63) / 64) words (omega arith) in
      let read : get_or (take ((members + 63) / 64) words) (rank / 64) 0 ≡ get_or words (rank / 64) 0 = get_or-take ((members + 63) / 64) words (rank / 64) 0 used in
      let stored = sum_by-set ones (take ((members + 63) / 64) words) (rank / 64) (bit_or (get_or words (rank / 64) 0) (2 ^ (rank % 64))) 0 (omega arith) in
      rw (take-set-lt ((members + 63) / 64) words (rank / 64) (bit_or (get_or words (rank / 64) 0) (2 ^ (rank % 64))) used)
      (omega (arith, rw read at stored, or-adds (rank % 64) (get_or words (rank / 64) 0) clear))

module _ (words : List ℕ) (width members : ℕ) (ranks : List ℕ) (stands : Stands words width members ranks) (rank : ℕ) (low : rank < members) where
  pub stands-holds : holds_rank words rank ≡ rank ∈ᵇ ranks
  stands-holds = stands.holds rank (omega (arith, stands.fits))

  pub stands-insert : Stands (insert_rank words rank) width members (insert_if (rank ∈ᵇ ranks) rank ranks)
  stands-insert = go (rank ∈ᵇ ranks) stands-holds
    where
      inside : rank / 64 < length words
      inside = omega (arith, stands.wide, stands.fits)

      go : (held : Bool) → holds_rank words rank ≡ held → Stands (insert_rank words rank) width members (insert_if held rank ranks)
      go true held = rw (insert_rank-held words rank inside held) stands
      go false new = record {
        wide = insert_rank-length words rank ∙ stands.wide;
        fits = stands.fits;
        holds = λ other in_words_lem. holds_rank-insert_rank words rank inside other ∙ rw (stands.holds other in_words_lem);
        counts = rank_count-new words rank inside members low (omega (arith, stands.wide, stands.fits)) new ∙ ap suc stands.counts;
      }

-- ---- the tags seen, by their ranks

-- two members of the level have different ranks, each below the number of members
module _ (width members : ℕ) (is_member : ℕ → Bool) (rank_of : ℕ → ℕ) (low : (tag : ℕ) → is_member tag ≡ true → rank_of tag < members)
    (apart : (tag other : ℕ) → is_member tag ≡ true → is_member other ≡ true → rank_of tag ≡ rank_of other → tag ≡ other) where
  -- a rank is among those of members exactly where its tag is among the members
  rank_member : (tag : ℕ) → is_member tag ≡ true → (seen : List ℕ) → ((other : ℕ) → other ∈ᵇ seen ≡ true → is_member other ≡ true)
      → rank_of tag ∈ᵇ map rank_of seen ≡ tag ∈ᵇ seen
  rank_member tag member [] of_level = refl
  rank_member tag member (first ∷ rest) of_level =
      go (ℕ_discrete tag first) (rank_member tag member rest (λ other there. of_level other (or_right (eqb other first) (other ∈ᵇ rest) there)))
    where
      or_right : (here there : Bool) → there ≡ true → (here || there) ≡ true
      or_right true there holds = refl
      or_right false there holds = holds

      first_member : is_member first ≡ true
      first_member = of_level first (rw (eq-eqb first first refl))

      go : Dec (tag ≡ first) → rank_of tag ∈ᵇ map rank_of rest ≡ tag ∈ᵇ rest
          → (eqb (rank_of tag) (rank_of first) || rank_of tag ∈ᵇ map rank_of rest) ≡ (eqb tag first || tag ∈ᵇ rest)
      go (yes same) others = rw (eq-eqb tag first same, eq-eqb (rank_of tag) (rank_of first) (ap rank_of same))
      go (no other) others =
          rw (ne_eqb tag first other, ne_eqb (rank_of tag) (rank_of first) (λ (same : rank_of tag ≡ rank_of first). other (apart tag first member first_member same))) others

  pub seen-empty : members ≤ 64 * width → TagsSeen (no_ranks width) width members is_member rank_of []
  seen-empty fits = record { stands = stands-empty width members fits; of_level = λ tag there. absurd (false≢true there) }

  module _ (words seen : List ℕ) (so_far : TagsSeen words width members is_member rank_of seen) where
    -- `close` gives the number of distinct tags
    pub seen-count : rank_count words members ≡ length seen
    seen-count = so_far.stands.counts ∙ simp length-map

    module _ (tag : ℕ) (member : is_member tag ≡ true) where
      -- a tag repeats exactly where its rank is not fresh
      pub seen-holds : holds_rank words (rank_of tag) ≡ tag ∈ᵇ seen
      seen-holds = stands-holds words width members (map rank_of seen) so_far.stands (rank_of tag) (low tag member) ∙ rank_member tag member seen so_far.of_level

      pub seen-insert : TagsSeen (insert_rank words (rank_of tag)) width members is_member rank_of (insert_if (tag ∈ᵇ seen) tag seen)
      seen-insert = go (tag ∈ᵇ seen) (rank_member tag member seen so_far.of_level)
        where
          inserted : Stands (insert_rank words (rank_of tag)) width members (insert_if (rank_of tag ∈ᵇ map rank_of seen) (rank_of tag) (map rank_of seen))
          inserted = stands-insert words width members (map rank_of seen) so_far.stands (rank_of tag) (low tag member)

          also : (other : ℕ) → Dec (other ≡ tag) → (eqb other tag || other ∈ᵇ seen) ≡ true → is_member other ≡ true
          also other (yes same) there = rw same member
          also other (no apart_from) there = so_far.of_level other (rw (ne_eqb other tag apart_from) at there)

          go : (repeated : Bool) → rank_of tag ∈ᵇ map rank_of seen ≡ repeated
              → TagsSeen (insert_rank words (rank_of tag)) width members is_member rank_of (insert_if repeated tag seen)
          go true again = record { stands = rw again at inserted; of_level = so_far.of_level }
          go false fresh = record { stands = rw fresh at inserted; of_level = λ other there. also other (ℕ_discrete other tag) there }
