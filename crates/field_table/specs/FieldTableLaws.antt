-- Laws of `FieldTable.antt`: what `table_check_of` gives in each case, the loop of `check_field_table`, and what an accepted table is.
-- Assumes nothing.
--
--   AcceptedTable fields message_length   what holds of a table in which row 12 finds nothing
use Rattle.std.proofs.Math.Path.{◌≡◌, refl}
use Rattle.std.specs.Simd.{first_chunks}
use Rattle.std.proofs.Common.{ap, ◌∙◌, get_or-take, get_or-drop, true≢false, arith, add-one}
use Rattle.std.specs.Prelude.{◌↔◌, ℕ, zero, suc, ◌+◌, ◌*◌, ◌-◌, ◌%◌, ◌≤◌, ◌<◌, Bool, ◌||◌, List, [], get_or, take, drop, if◌then◌else◌, Ok, Err}
use Rattle.std.proofs.Math.Bool.{true, false, not}
use Rattle.std.proofs.Math.Decide.{ℕ_discrete}
use Rattle.std.proofs.Math.Dec.{eqb, ltb}
use Rattle.std.proofs.Math.ListN.{length}
use borrow.Author.Tests.{eq-eqb, ne_eqb, eqb-true, lt-ltb, le-ltb, ltb-false}
use Rattle.field_table.specs.FieldTable.{row_count, first_of, past_of, is_bad_field, bad_from, table_check_of, fields_of}
use Rattle.refusals.specs.declared.refusal.Refusal.{Refusal}
use Rattle.refusals.specs.declared.refusal.Refusal.TheVariants.{BadField}

pub record AcceptedTable (fields : List ℕ) (message_length : ℕ) : Type 0 where
  pub threes : length fields ≡ 3 * row_count fields
  pub few : row_count fields ≤ 4096
  pub ordered : (position : ℕ) → position < row_count fields → first_of fields position ≤ past_of fields position
  pub inside : (position : ℕ) → position < row_count fields → past_of fields position ≤ message_length

-- ---- is_bad_field

module _ (fields : List ℕ) (message_length position : ℕ) where
  pub is_bad_field-reversed : past_of fields position < first_of fields position → is_bad_field fields message_length position ≡ true
  unfolding is_bad_field
  is_bad_field-reversed reversed = rw (lt-ltb _ _ reversed)

  pub is_bad_field-behind : first_of fields position ≤ past_of fields position → message_length < past_of fields position
      → is_bad_field fields message_length position ≡ true
  unfolding is_bad_field
  is_bad_field-behind ordered behind = rw (le-ltb _ _ ordered, lt-ltb _ _ behind)

  pub is_bad_field-good : first_of fields position ≤ past_of fields position → past_of fields position ≤ message_length
      → is_bad_field fields message_length position ≡ false
  unfolding is_bad_field
  is_bad_field-good ordered inside = rw (le-ltb _ _ ordered, le-ltb _ _ inside)

  is_bad_field-tells : is_bad_field fields message_length position ≡ false
      → (first_of fields position ≤ past_of fields position) × (past_of fields position ≤ message_length)
  unfolding is_bad_field
  is_bad_field-tells good = go (ltb (past_of fields position) (first_of fields position)) (ltb message_length (past_of fields position)) refl refl good
    where
      go : (reversed behind : Bool) → ltb (past_of fields position) (first_of fields position) ≡ reversed
          → ltb message_length (past_of fields position) ≡ behind → (reversed || behind) ≡ false
          → (first_of fields position ≤ past_of fields position) × (past_of fields position ≤ message_length)
      go true behind is-reversed is-behind neither = absurd (true≢false neither)
      go false true is-reversed is-behind neither = absurd (true≢false neither)
      go false false is-reversed is-behind neither = (ltb-false _ _ is-reversed, ltb-false _ _ is-behind)

-- ---- table_check_of

module _ (fields : List ℕ) (message_length : ℕ) where
  pub table_check_of-not_threes : (length fields % 3 ≡ 0 → ⊥) → table_check_of fields message_length ≡ Err (BadField 0)
  unfolding table_check_of
  table_check_of-not_threes rest = rw (ne_eqb (length fields % 3) 0 rest)

  pub table_check_of-many : length fields % 3 ≡ 0 → 4096 < row_count fields → table_check_of fields message_length ≡ Err (BadField 0)
  unfolding table_check_of
  table_check_of-many threes many = rw (eq-eqb (length fields % 3) 0 threes, lt-ltb 4096 (row_count fields) many)

  pub table_check_of-rows : length fields % 3 ≡ 0 → row_count fields ≤ 4096
      → table_check_of fields message_length ≡ bad_from fields message_length (row_count fields) 0
  unfolding table_check_of
  table_check_of-rows threes few = rw (eq-eqb (length fields % 3) 0 threes, le-ltb 4096 (row_count fields) few)

-- ---- the rows as code reads them, in threes

word_of_chunk : (count : ℕ) (fields : List ℕ) (index part : ℕ) → index < count → part < 3 → get_or (get_or (first_chunks 3 count fields) index []) part 0 ≡ get_or fields (3 * index + part) 0
word_of_chunk zero fields index part inside one = absurd (omega arith)
word_of_chunk (suc count) fields zero part inside one =
    let place : part ≡ 3 * 0 + part = omega arith in
    get_or-take 3 fields part 0 one ∙ ap (λ (word : ℕ). get_or fields word 0) place
word_of_chunk (suc count) fields (suc index) part inside one =
    let place : 3 + (3 * index + part) ≡ 3 * suc index + part = omega arith in
    word_of_chunk count (drop 3 fields) index part (omega arith) one ∙ get_or-drop 3 fields (3 * index + part) 0 ∙ ap (λ (word : ℕ). get_or fields word 0) place

module _ (fields : List ℕ) (rows : List (List ℕ)) (are-rows : rows ≡ first_chunks 3 (row_count fields) fields) (index : ℕ) (inside : index < row_count fields) where
  pub row-first : get_or (get_or rows index []) 1 0 ≡ first_of fields index
  row-first = ap (λ (rows : List (List ℕ)). get_or (get_or rows index []) 1 0) are-rows ∙ word_of_chunk (row_count fields) fields index 1 inside (omega arith)

  pub row-past : get_or (get_or rows index []) 2 0 ≡ past_of fields index
  row-past = ap (λ (rows : List (List ℕ)). get_or (get_or rows index []) 2 0) are-rows ∙ word_of_chunk (row_count fields) fields index 2 inside (omega arith)

-- ---- the loop of `check_field_table`

-- the rows before `index` are good
pub record RowsSoFar (fields : List ℕ) (message_length index : ℕ) : Type 0 where
  pub within : index ≤ row_count fields
  pub few : row_count fields ≤ 4096
  pub left : table_check_of fields message_length ≡ bad_from fields message_length (row_count fields - index) index

pub rows_begin : (fields : List ℕ) (message_length : ℕ) → length fields % 3 ≡ 0 → row_count fields ≤ 4096 → RowsSoFar fields message_length 0
rows_begin fields message_length threes few =
    let all : row_count fields - 0 ≡ row_count fields = omega arith in
    record { within = omega arith; few = few; left = rw all (table_check_of-rows fields message_length threes few) }

module _ (fields : List ℕ) (message_length index : ℕ) (so_far : RowsSoFar fields message_length index) where
  pub rows_end : row_count fields ≤ index → table_check_of fields message_length ≡ Ok tt
  unfolding bad_from
  rows_end over =
      let none_left : row_count fields - index ≡ 0 = omega (arith, so_far.within) in
      so_far.left ∙ rw none_left

  module _ (inside : index < row_count fields) where
    one_left : row_count fields - index ≡ suc (row_count fields - suc index)
    one_left = omega arith

    pub rows_bad : is_bad_field fields message_length index ≡ true → table_check_of fields message_length ≡ Err (BadField (index + 1))
    unfolding bad_from
    rows_bad bad = so_far.left ∙ rw (one_left, bad, add-one)

    pub rows_go_on : is_bad_field fields message_length index ≡ false → RowsSoFar fields message_length (index + 1)
    unfolding bad_from
    rows_go_on good = record {
      within = omega arith;
      few = so_far.few;
      left = so_far.left ∙ rw (one_left, good, add-one);
    }

-- ---- an accepted table

bad_from-accepts : (fields : List ℕ) (message_length rows position : ℕ) → bad_from fields message_length rows position ≡ Ok tt
    → (other : ℕ) → position ≤ other → other < position + rows → is_bad_field fields message_length other ≡ false
unfolding bad_from
bad_from-accepts fields message_length zero position accepted other from below = absurd (omega arith)
bad_from-accepts fields message_length (suc rows) position accepted other from below =
    go (is_bad_field fields message_length position) refl accepted (λ rest. bad_from-accepts fields message_length rows (suc position) rest other)
  where
    go : (bad : Bool) → is_bad_field fields message_length position ≡ bad
        → (if bad then Err (BadField (suc position)) else bad_from fields message_length rows (suc position)) ≡ Ok tt
        → (bad_from fields message_length rows (suc position) ≡ Ok tt → suc position ≤ other → other < suc position + rows → is_bad_field fields message_length other ≡ false)
        → is_bad_field fields message_length other ≡ false
    go true bad refused others = let zero_one : ◌≡◌ {A = ℕ} 0 1 = cc in absurd (omega arith)
    go false good rest others = here (ℕ_discrete other position)
      where
        here : Dec (other ≡ position) → is_bad_field fields message_length other ≡ false
        here (yes same) = rw same good
        here (no apart) = others rest (omega arith) (omega arith)

accepts-bad_from : (fields : List ℕ) (message_length rows position : ℕ)
    → ((other : ℕ) → position ≤ other → other < position + rows → is_bad_field fields message_length other ≡ false)
    → bad_from fields message_length rows position ≡ Ok tt
unfolding bad_from
accepts-bad_from fields message_length zero position good = refl
accepts-bad_from fields message_length (suc rows) position good =
    rw (good position (omega arith) (omega arith)) (accepts-bad_from fields message_length rows (suc position) (λ other from below. good other (omega arith) (omega arith)))

module _ (fields : List ℕ) (message_length : ℕ) where
  -- "A field table is accepted if row 12 finds nothing in it"
  pub table_check_of-accepted : table_check_of fields message_length ≡ Ok tt ↔ AcceptedTable fields message_length
  unfolding table_check_of
  table_check_of-accepted = (λ accepted. tells (eqb (length fields % 3) 0) (ltb 4096 (row_count fields)) refl refl accepted, told)
    where
      tells : (threes many : Bool) → eqb (length fields % 3) 0 ≡ threes → ltb 4096 (row_count fields) ≡ many
          → (if not threes || many then Err (BadField 0) else bad_from fields message_length (row_count fields) 0) ≡ Ok tt
          → AcceptedTable fields message_length
      tells false many is-threes is-many refused = let zero_one : ◌≡◌ {A = ℕ} 0 1 = cc in absurd (omega arith)
      tells true true is-threes is-many refused = let zero_one : ◌≡◌ {A = ℕ} 0 1 = cc in absurd (omega arith)
      tells true false is-threes is-many accepted =
          let rest : length fields % 3 ≡ 0 = eqb-true _ _ is-threes in
          record {
            threes = omega arith;
            few = ltb-false _ _ is-many;
            ordered = λ position inside.
                (is_bad_field-tells fields message_length position (bad_from-accepts fields message_length (row_count fields) 0 accepted position (omega arith) (omega arith))).0;
            inside = λ position inside.
                (is_bad_field-tells fields message_length position (bad_from-accepts fields message_length (row_count fields) 0 accepted position (omega arith) (omega arith))).1;
          }

      told : AcceptedTable fields message_length
          → (if not (eqb (length fields % 3) 0) || ltb 4096 (row_count fields) then Err (BadField 0) else bad_from fields message_length (row_count fields) 0) ≡ Ok tt
      told table =
          let rest : length fields % 3 ≡ 0 = omega (arith, table.threes) in
          rw (eq-eqb (length fields % 3) 0 rest, le-ltb 4096 (row_count fields) table.few)
          (accepts-bad_from fields message_length (row_count fields) 0
          (λ position from below. is_bad_field-good fields message_length position (table.ordered position (omega arith)) (table.inside position (omega arith))))

pub accepted-few : (fields : List ℕ) (message_length : ℕ) → table_check_of fields message_length ≡ Ok tt → row_count fields ≤ 4096
accepted-few fields message_length accepted = ((table_check_of-accepted fields message_length).0 accepted).few

-- ---- fields_of

-- the part of the message that code lends for the value at a position
pub value_at_part : (fields message : List ℕ) (position first past : ℕ) → first ≡ first_of fields position → past ≡ past_of fields position
    → take (past - first) (drop first message) ≡ (fields_of fields message).value_at position
value_at_part fields message position first past is-first is-past = rw (is-first, is-past)
