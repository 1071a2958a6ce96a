-- Laws of `Lines.antt`, in its order. Where a search from `first` finds a byte at `past`, the part between is a piece. Assumes nothing.
use Rattle.std.specs.Prelude.{◌≡◌, ℕ, zero, suc, ◌+◌, ◌-◌, ◌≤◌, ◌<◌, Bool, not, ◌&&◌, cond, eqb, length, get_or, take, drop, ◌++◌, ltb, Some, None}
use Rattle.std.specs.List as List
use Rattle.std.specs.Cmp.Lexicographic.{pointwise}
use Rattle.std.specs.List.{position, position_or_len, slice_split, onto_first}
use Rattle.std.proofs.Math.Path.{refl, ap}
use Rattle.std.proofs.Common.{sym, ◌∙◌, arith, length-drop, drop-drop, take_all, eqb-true, ltb-true, ltb-false}
use Rattle.std.proofs.Math.Bool.{true, false}
use Rattle.std.proofs.Math.Dec.{eqb-suc-suc}
use Rattle.std.proofs.lemmas.Bool.{false≢true}
use mathlib.Core.List.{List, [], ◌∷◌}
use Rattle.std.proofs.Math.ListN.{drop_of_length-le}
use borrow.Author.Tests.{eq-eqb, ne_eqb}
use Rattle.ascii.specs.NotationLaws.{and_right}
use Rattle.ascii.specs.BytesLaws.{drop-step}
use Rattle.lines.specs.Lines.{position_of, before, behind, starts_with, is_same, Pieces, last, piece, longer, cut}

-- ---- position_of

module _ (byte : ℕ) (bytes : List ℕ) (index : ℕ) where
  pub position_of_here : index < length bytes → get_or bytes index 0 ≡ byte → position_of byte (drop index bytes) ≡ 0
  unfolding position_of
  position_of_here inside same = rw (drop-step bytes index inside, eq-eqb _ _ same)

  pub position_of_further : index < length bytes
      → (get_or bytes index 0 ≡ byte → ⊥)
      → position_of byte (drop index bytes) ≡ suc (position_of byte (drop (index + 1) bytes))
  unfolding position_of
  position_of_further inside other = rw (drop-step bytes index inside, ne_eqb _ _ other)

  pub position_of_nowhere : length bytes ≤ index → position_of byte (drop index bytes) ≡ 0
  unfolding position_of
  position_of_nowhere over = rw (drop_of_length-le bytes over)

position-within : (here : Bool) (position len : ℕ) → position ≤ len → cond here 0 (suc position) ≤ suc len
position-within true position len within = omega arith
position-within false position len within = omega arith

pub position_of_within : (byte : ℕ) (bytes : List ℕ) → position_of byte bytes ≤ length bytes
unfolding position_of
position_of_within byte [] = omega arith
position_of_within byte (first ∷ rest) = position-within (eqb first byte) _ _ (position_of_within byte rest)

-- what the library's `position` finds, it finds there
is_by : (here : Bool) (own library : ℕ) → own ≡ library → cond here 0 (suc own) ≡ cond (not here) (1 + library) 0
is_by true own library same = refl
is_by false own library same = omega arith

pub position_of_is : (byte : ℕ) (bytes : List ℕ) → position_of byte bytes ≡ position_or_len (λ each. eqb each byte) bytes
unfolding position_of
position_of_is byte [] = refl
position_of_is byte (first ∷ rest) = is_by (eqb first byte) _ _ (position_of_is byte rest)

module _ (byte : ℕ) (bytes : List ℕ) where
  pub position_of-found : (place : ℕ) → position (λ each. eqb each byte) bytes ≡ Some place → (place ≡ position_of byte bytes) × (place < length bytes)
  position_of-found place found = rw position_of_is (found_by (ltb (position_or_len (λ each. eqb each byte) bytes) (length bytes)) refl found)
    where
      found_by : (inside : Bool) → ltb (position_or_len (λ each. eqb each byte) bytes) (length bytes) ≡ inside
          → cond inside (Some (position_or_len (λ each. eqb each byte) bytes)) None ≡ Some place
          → (place ≡ position_or_len (λ each. eqb each byte) bytes) × (place < length bytes)
      found_by true test same = let here : position_or_len (λ each. eqb each byte) bytes ≡ place = cc in (sym here, omega (arith, here, ltb-true _ _ test))
      found_by false test same = cc

  pub position_of-missing : position (λ each. eqb each byte) bytes ≡ None → position_of byte bytes ≡ length bytes
  position_of-missing missing = missing_by (ltb (position_or_len (λ each. eqb each byte) bytes) (length bytes)) refl missing
    where
      missing_by : (inside : Bool) → ltb (position_or_len (λ each. eqb each byte) bytes) (length bytes) ≡ inside
          → cond inside (Some (position_or_len (λ each. eqb each byte) bytes)) None ≡ None
          → position_of byte bytes ≡ length bytes
      missing_by true test other = cc
      missing_by false test same = omega (arith, position_of_is byte bytes, position_of_within byte bytes, ltb-false _ _ test)

-- the byte stands between what is before it and what is behind it
split_by : (byte first : ℕ) (rest : List ℕ) (here : Bool) → eqb first byte ≡ here → (place : ℕ) → place ≡ cond here 0 (suc (position_of byte rest)) → place < suc (length rest)
    → ((deeper : ℕ) → deeper ≡ position_of byte rest → deeper < length rest → rest ≡ take deeper rest ++ (byte ∷ drop (deeper + 1) rest))
    → first ∷ rest ≡ take place (first ∷ rest) ++ (byte ∷ drop (place + 1) (first ∷ rest))
split_by byte first rest true same zero is inside others = ap (λ (each : ℕ). each ∷ rest) (eqb-true first byte same)
split_by byte first rest true same (suc place) is inside others = absurd (omega arith)
split_by byte first rest false other zero is inside others = absurd (omega arith)
split_by byte first rest false other (suc place) is inside others =
    let next : suc place + 1 ≡ suc (place + 1) = omega arith in
    rw next (ap (λ (bytes : List ℕ). first ∷ bytes) (others place (omega arith) (omega arith)))

pub position_of-split : (byte : ℕ) (bytes : List ℕ) (place : ℕ) → place ≡ position_of byte bytes → place < length bytes
    → bytes ≡ take place bytes ++ (byte ∷ drop (place + 1) bytes)
unfolding position_of
position_of-split byte [] place is inside = absurd (omega arith)
position_of-split byte (first ∷ rest) place is inside = split_by byte first rest (eqb first byte) refl place is inside (position_of-split byte rest)

-- ---- before, behind

module _ (byte : ℕ) (bytes : List ℕ) (place : ℕ) (found : place ≡ 0 + position_of byte bytes) where
  pub before-found : take (place - 0) bytes ≡ before byte bytes
  before-found = let same : place - 0 ≡ position_of byte bytes = omega arith in rw same

  pub behind-found : drop (place + 1) bytes ≡ behind byte bytes
  behind-found = let same : place + 1 ≡ suc (position_of byte bytes) = omega arith in rw same

  pub behind-nothing : place ≡ length bytes → drop place bytes ≡ behind byte bytes
  behind-nothing at-end =
      let over : length bytes ≤ suc (position_of byte bytes) = omega arith in
      let at : length bytes ≤ place = omega arith in
      drop_of_length-le bytes at ∙ sym (drop_of_length-le bytes over)

-- the same, where the library's `position` looks for the byte
module _ (byte : ℕ) (bytes : List ℕ) where
  module _ (place : ℕ) (found : position (λ each. eqb each byte) bytes ≡ Some place) where
    pub before-place : take place bytes ≡ before byte bytes
    before-place = rw (position_of-found byte bytes place found).0

    pub behind-place : drop (place + 1) bytes ≡ behind byte bytes
    behind-place = behind-found byte bytes place (omega (arith, position_of-found byte bytes place found))

  module _ (missing : position (λ each. eqb each byte) bytes ≡ None) where
    pub before-all : bytes ≡ before byte bytes
    before-all = sym (take_all (position_of byte bytes) bytes (omega (arith, position_of-missing byte bytes missing)))

    pub behind-none : [] ≡ behind byte bytes
    behind-none = let over : length bytes ≤ suc (position_of byte bytes) = omega (arith, position_of-missing byte bytes missing) in sym (drop_of_length-le bytes over)

-- ---- starts_with

-- the library's `starts_with`
pub starts_with-library : (key bytes : List ℕ) → List.starts_with eqb bytes key ≡ starts_with key bytes
unfolding starts_with
starts_with-library [] bytes = refl
starts_with-library (byte ∷ key) [] = refl
starts_with-library (byte ∷ key) (first ∷ rest) = ap (λ (others : Bool). eqb byte first && others) (starts_with-library key rest)

-- the bytes from `index` on, of a key and of what it is held against
module _ (key bytes : List ℕ) (index : ℕ) where
  pub starts_with_end : length key ≤ index → starts_with (drop index key) (drop index bytes) ≡ true
  unfolding starts_with
  starts_with_end over = rw (drop_of_length-le key over)

  module _ (inside : index < length key) where
    pub starts_with_short : length bytes ≤ index → starts_with (drop index key) (drop index bytes) ≡ false
    unfolding starts_with
    starts_with_short short = rw (drop-step key index inside, drop_of_length-le bytes short)

    pub starts_with_other : index < length bytes
        → (get_or key index 0 ≡ get_or bytes index 0 → ⊥)
        → starts_with (drop index key) (drop index bytes) ≡ false
    unfolding starts_with
    starts_with_other within other = rw (drop-step key index inside, drop-step bytes index within, ne_eqb _ _ other)

    pub starts_with_step : index < length bytes
        → get_or key index 0 ≡ get_or bytes index 0
        → starts_with (drop index key) (drop index bytes) ≡ starts_with (drop (index + 1) key) (drop (index + 1) bytes)
    unfolding starts_with
    starts_with_step within same = rw (drop-step key index inside, drop-step bytes index within, eq-eqb _ _ same)

-- what begins with a key is at least as long
pub starts_with_length : (key bytes : List ℕ) → starts_with key bytes ≡ true → length key ≤ length bytes
unfolding starts_with
starts_with_length [] bytes starts = omega arith
starts_with_length (byte ∷ key) [] starts = absurd (false≢true starts)
starts_with_length (byte ∷ key) (first ∷ rest) starts = omega (arith, starts_with_length key rest (and_right (eqb byte first) (starts_with key rest) starts))

-- ---- is_same

-- the library's `==`
same-by : (one long rest : Bool) → (one && (long && rest)) ≡ (long && (one && rest))
same-by true true rest = refl
same-by true false rest = refl
same-by false true rest = refl
same-by false false rest = refl

pub is_same-library : (name bytes : List ℕ) → pointwise eqb name bytes ≡ is_same name bytes
unfolding is_same starts_with
is_same-library [] [] = refl
is_same-library [] (first ∷ rest) = rw (ne_eqb 0 (suc (length rest)) (λ same. absurd (omega (arith, same))))
is_same-library (byte ∷ name) [] = rw (ne_eqb (suc (length name)) 0 (λ same. absurd (omega (arith, same))))
is_same-library (byte ∷ name) (first ∷ rest) =
    ap (λ (others : Bool). eqb byte first && others) (is_same-library name rest)
    ∙ same-by (eqb byte first) (eqb (length name) (length rest)) (starts_with name rest)
    ∙ ap (λ (long : Bool). long && (eqb byte first && starts_with name rest)) (sym (eqb-suc-suc (length name) (length rest)))

module _ (name bytes : List ℕ) where
  pub is_same-other_length : (length name ≡ length bytes → ⊥) → is_same name bytes ≡ false
  unfolding is_same
  is_same-other_length other = rw (ne_eqb (length name) (length bytes) other)

  pub is_same-length : length name ≡ length bytes → is_same name bytes ≡ starts_with name bytes
  unfolding is_same
  is_same-length same = rw (eq-eqb (length name) (length bytes) same)

-- ---- cut

module _ (byte : ℕ) where
  first-piece_by : (here : Bool) (first : ℕ) (rest : List ℕ)
      → cond here 0 (suc (position_of byte rest)) < suc (length rest)
      → (position_of byte rest < length rest → cut byte rest ≡ piece (take (position_of byte rest) rest) (cut byte (drop (suc (position_of byte rest)) rest)))
      → cond here (piece [] (cut byte rest)) (longer first (cut byte rest))
      ≡ piece (take (cond here 0 (suc (position_of byte rest))) (first ∷ rest)) (cut byte (drop (suc (cond here 0 (suc (position_of byte rest)))) (first ∷ rest)))
  unfolding longer
  first-piece_by true first rest inside others = refl
  first-piece_by false first rest inside others = ap (longer first) (others (omega arith))

  pub cut-first_piece : (bytes : List ℕ)
      → position_of byte bytes < length bytes
      → cut byte bytes ≡ piece (take (position_of byte bytes) bytes) (cut byte (drop (suc (position_of byte bytes)) bytes))
  unfolding position_of cut
  cut-first_piece [] inside = absurd (omega arith)
  cut-first_piece (first ∷ rest) inside = first-piece_by (eqb first byte) first rest inside (cut-first_piece rest)

  last-piece_by : (here : Bool) (first : ℕ) (rest : List ℕ)
      → suc (length rest) ≤ cond here 0 (suc (position_of byte rest))
      → (length rest ≤ position_of byte rest → cut byte rest ≡ last rest)
      → cond here (piece [] (cut byte rest)) (longer first (cut byte rest)) ≡ last (first ∷ rest)
  unfolding longer
  last-piece_by true first rest over others = absurd (omega arith)
  last-piece_by false first rest over others = ap (longer first) (others (omega arith))

  pub cut-last_piece : (bytes : List ℕ) → length bytes ≤ position_of byte bytes → cut byte bytes ≡ last bytes
  unfolding position_of cut
  cut-last_piece [] over = refl
  cut-last_piece (first ∷ rest) over = last-piece_by (eqb first byte) first rest over (cut-last_piece rest)

  -- the search from `first` on stopped at `past`
  module _ (bytes : List ℕ) (first past : ℕ) (within : first ≤ length bytes) (found : past ≡ first + position_of byte (drop first bytes)) where
    pub found_within : (first ≤ past) × (past ≤ length bytes)
    found_within = (omega arith, omega (arith, position_of_within byte (drop first bytes), length-drop first bytes))

    pub cut-at_piece : (past ≡ length bytes → ⊥) → cut byte (drop first bytes) ≡ piece (take (past - first) (drop first bytes)) (cut byte (drop (past + 1) bytes))
    cut-at_piece before-end =
        let position : position_of byte (drop first bytes) ≡ past - first = omega arith in
        let next : first + suc (past - first) ≡ past + 1 = omega (arith, found_within) in
        let inside : past < length bytes = omega (arith, found_within) in
        cut-first_piece (drop first bytes) (omega (arith, length-drop first bytes, inside)) ∙ rw (drop-drop, position, next)

    pub cut-at_last : past ≡ length bytes → cut byte (drop first bytes) ≡ last (drop first bytes)
    cut-at_last at-end = cut-last_piece (drop first bytes) (omega (arith, length-drop first bytes))

pub cut-nothing : (byte : ℕ) (bytes : List ℕ) (first : ℕ) → length bytes ≤ first → cut byte (drop first bytes) ≡ last []
unfolding cut
cut-nothing byte bytes first over = rw (drop_of_length-le bytes over)

-- the pieces as a list, which the library's `split` gives
unfoldable pub pieces_listed : Pieces → List (List ℕ)
pieces_listed (last bytes) = bytes ∷ []
pieces_listed (piece bytes others) = bytes ∷ pieces_listed others

listed-longer : (byte : ℕ) (pieces : Pieces) → pieces_listed (longer byte pieces) ≡ onto_first byte (pieces_listed pieces)
unfolding pieces_listed longer
listed-longer byte (last bytes) = refl
listed-longer byte (piece bytes others) = refl

pub cut-split : (byte : ℕ) (bytes : List ℕ) → pieces_listed (cut byte bytes) ≡ slice_split (λ each. eqb each byte) bytes
unfolding pieces_listed cut
cut-split byte [] = refl
cut-split byte (first ∷ rest) = by (eqb first byte) (cut-split byte rest)
  where
    by : (here : Bool) → pieces_listed (cut byte rest) ≡ slice_split (λ each. eqb each byte) rest
        → pieces_listed (cond here (piece [] (cut byte rest)) (longer first (cut byte rest)))
        ≡ cond here ([] ∷ slice_split (λ each. eqb each byte) rest) (onto_first first (slice_split (λ each. eqb each byte) rest))
    by true same = ap {B = List (List ℕ)} (λ parts. [] ∷ parts) same
    by false same = listed-longer first (cut byte rest) ∙ ap (onto_first first) same

listed-by : (here : Bool) (first : ℕ) (pieces : Pieces) (len : ℕ) → length (pieces_listed pieces) ≤ len + 1
    → length (pieces_listed (cond here (piece [] pieces) (longer first pieces))) ≤ suc len + 1
unfolding pieces_listed longer
listed-by true first pieces len few = omega (arith, few)
listed-by false first (last bytes) len few = omega arith
listed-by false first (piece bytes others) len few = omega (arith, few)

-- one more than there are bytes at most
pub pieces_few : (byte : ℕ) (bytes : List ℕ) → length (pieces_listed (cut byte bytes)) ≤ length bytes + 1
unfolding pieces_listed cut
pieces_few byte [] = omega arith
pieces_few byte (first ∷ rest) = listed-by (eqb first byte) first (cut byte rest) (length rest) (pieces_few byte rest)
