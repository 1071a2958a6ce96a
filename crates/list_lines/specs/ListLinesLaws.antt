-- Laws of `ListLines.antt`: bytes written one behind the other, numerals, and how many bytes a line takes at most. Assumes nothing.
use Rattle.std.specs.Prelude.{◌≡◌, refl, ℕ, zero, suc, ◌+◌, ◌-◌, ◌/◌, ◌%◌, ◌^◌, ◌≤◌, ◌<◌, Bool, true, false, cond, List, [], ◌∷◌, ◌++◌, ltb, eqb, length, get_or, take, drop, set, if◌then◌else◌}
use Rattle.std.proofs.Common.{sym, ap, ◌∙◌, append_assoc, arith, drop_of_length-le, length-append, length-set, lt-ltb, le-ltb, ltb-false, ne_eqb}
use Rattle.std.proofs.lemmas.List.Edits.{sets, sets-eq}
use borrow.Rule.Slice.PartMut.{put_mid, Post-is}
use Rattle.std.proofs.Math.Seq.{length-sets}
use Rattle.ascii.specs.Bytes.{ascii}
use Rattle.ascii.specs.BytesLaws.{drop-step}
use Rattle.ascii.specs.Digits.{decimal}
use Rattle.refusals.specs.declared.refusal.Refusal.{Refusal}
use Rattle.refusals.specs.Refusal.{refusal_number, refusal_place}
use Rattle.lines.specs.LineParts.{no_leading_zero}
use Rattle.records.specs.LineTexts.{digits_of}
use Rattle.records.specs.NumeralLaws.{bound, digits_of-makes, digits_of-plain}
use Rattle.list_lines.specs.ListLines.{feed, numeral_of, labelled, type_line, kind_name, event_line, verdict_digits, verdict_line, refused_line}

-- ---- bytes written from `at` on, up to before `past`

pub record Put (out out' : List ℕ) (at past : ℕ) (bytes : List ℕ) : Type 0 where
  pub past_is : past ≡ at + length bytes
  pub out_is : out' ≡ sets out at bytes

pub put-nothing : (out : List ℕ) (at : ℕ) → Put out out at at []
put-nothing out at = record { past_is = omega arith; out_is = refl }

sets_append : (out : List ℕ) (at : ℕ) (bytes others : List ℕ) → sets (sets out at bytes) (at + length bytes) others ≡ sets out at (bytes ++ others)
sets_append out at [] others = let here : at + 0 ≡ at = omega arith in rw here
sets_append out at (byte ∷ bytes) others =
    let next : at + suc (length bytes) ≡ suc at + length bytes = omega arith in
    rw next (sets_append (set out at byte) (suc at) bytes others)

-- one behind the other
pub put_then : {out out' out'' : List ℕ} {at behind past : ℕ} {bytes others : List ℕ}
    → Put out out' at behind bytes → Put out' out'' behind past others → Put out out'' at past (bytes ++ others)
put_then {out} {out'} {out''} {at} {behind} {past} {bytes} {others} first second = record {
  past_is = omega (arith, first.past_is, second.past_is, length-append bytes others);
  out_is = second.out_is ∙ rw (first.out_is, first.past_is) (sets_append out at bytes others);
}

pub put-length : {out out' : List ℕ} {at past : ℕ} {bytes : List ℕ} → Put out out' at past bytes → length out' ≡ length out
put-length {out} {out'} {at} {past} {bytes} put = rw put.out_is (length-sets out at bytes)

-- what is left of the room behind bytes that are at most so many
pub room-left : {out out' : List ℕ} {at past : ℕ} {bytes : List ℕ} → Put out out' at past bytes → (most more : ℕ) → length bytes ≤ most
    → at + most + more ≤ length out → past + more ≤ length out'
room-left put most more few room = omega (arith, put.past_is, put-length put)

-- `out[at..past].copy_from_slice(text)`
pub put-text_of : (out : List ℕ) (at : ℕ) (part text : List ℕ) → part ≡ text → at + length text ≤ length out
    → Put out (put_mid at (at + length text - at) out part) at (at + length text) text
put-text_of out at part text same room = record {
  past_is = refl;
  out_is = rw (same, Post-is at (at + length text) out (omega arith)) (sym (sets-eq text out at room ∙ append_assoc (take at out) text (drop (at + length text) out)));
}

-- ---- numeral_of

digits_of-few_by : (one : Bool) (digits n : ℕ) → length (digits_of digits (n / 10)) ≤ digits
    → length (cond one ((48 + n) ∷ []) (digits_of digits (n / 10) ++ ((48 + n % 10) ∷ []))) ≤ suc digits
digits_of-few_by true digits n deeper = omega arith
digits_of-few_by false digits n deeper = omega (arith, length-append (digits_of digits (n / 10)) ((48 + n % 10) ∷ []))

digits_of-few : (digits n : ℕ) → length (digits_of digits n) ≤ digits
unfolding digits_of
digits_of-few zero n = omega arith
digits_of-few (suc digits) n = digits_of-few_by (ltb n 10) digits n (digits_of-few digits (n / 10))

pub numeral_of-few : (n : ℕ) → length (numeral_of n) ≤ 20
numeral_of-few n = digits_of-few 20 n

-- a number that fits is written the same where one more digit would fit
enough-by : (one : Bool) (digits n : ℕ) → ltb n 10 ≡ one → n < bound (suc digits)
    → ((lesser : ℕ) → digits ≡ suc lesser → digits_of (suc digits) (n / 10) ≡ digits_of digits (n / 10))
    → cond one ((48 + n) ∷ []) (digits_of (suc digits) (n / 10) ++ ((48 + n % 10) ∷ []))
    ≡ cond one ((48 + n) ∷ []) (digits_of digits (n / 10) ++ ((48 + n % 10) ∷ []))
enough-by true digits n test fits deeper = refl
enough-by false zero n test fits deeper = absurd (omega (arith, ltb-false n 10 test))
enough-by false (suc lesser) n test fits deeper = rw (deeper lesser refl)

digits_of-enough : (digits n : ℕ) → n < bound (suc digits) → digits_of (suc (suc digits)) n ≡ digits_of (suc digits) n
unfolding digits_of
digits_of-enough zero n fits = enough-by (ltb n 10) zero n refl fits (λ lesser none. absurd (omega arith))
digits_of-enough (suc digits) n fits = enough-by (ltb n 10) (suc digits) n refl fits (λ lesser same. digits_of-enough digits (n / 10) (omega arith))

module _ (n : ℕ) where
  pub numeral_of-one : n < 10 → numeral_of n ≡ (48 + n) ∷ []
  unfolding digits_of
  numeral_of-one small = rw (lt-ltb n 10 small)

  pub numeral_of-more : 10 ≤ n → n < 2 ^ 64 → numeral_of n ≡ numeral_of (n / 10) ++ ((48 + n % 10) ∷ [])
  numeral_of-more large fits =
      let step : numeral_of n ≡ digits_of 19 (n / 10) ++ ((48 + n % 10) ∷ []) = unfold digits_of in rw (le-ltb n 10 large) in
      let enough : digits_of 20 (n / 10) ≡ digits_of 19 (n / 10) = digits_of-enough 18 (n / 10) (omega arith) in
      step ∙ rw enough

  -- it is the number's, and has no leading zero
  pub numeral_of-makes : n < 2 ^ 64 → decimal (numeral_of n) ≡ n
  numeral_of-makes fits = digits_of-makes 20 n (omega arith)

  pub numeral_of-plain : n < 2 ^ 64 → no_leading_zero (numeral_of n) ≡ true
  numeral_of-plain fits = digits_of-plain 18 n (omega arith)

module _ (out : List ℕ) (at n : ℕ) where
  pub put-digit : n < 10 → Put out (set out at (48 + n)) at (at + 1) (numeral_of n)
  put-digit small = rw (numeral_of-one n small) (record { past_is = refl; out_is = refl })

  pub put-last_digit : 10 ≤ n → n < 2 ^ 64 → (out' : List ℕ) (last : ℕ) → Put out out' at last (numeral_of (n / 10))
      → Put out (set out' last (48 + n % 10)) at (last + 1) (numeral_of n)
  put-last_digit large fits out' last put = rw (numeral_of-more n large fits) (put_then put (record { past_is = refl; out_is = refl }))

  -- the last digit has its place among twenty
  pub last-digit_room : 10 ≤ n → n < 2 ^ 64 → length (numeral_of (n / 10)) < 20
  last-digit_room large fits =
      let size = ap length (numeral_of-more n large fits) in
      omega (arith, size, length-append (numeral_of (n / 10)) ((48 + n % 10) ∷ []), numeral_of-few n)

-- ---- verdict_digits

pub verdict_digits-length : (verdicts : List ℕ) → length (verdict_digits verdicts) ≡ length verdicts
unfolding verdict_digits
verdict_digits-length [] = refl
verdict_digits-length (verdict ∷ rest) = ap suc (verdict_digits-length rest)

pub verdict_digits-at : (verdicts : List ℕ) (index : ℕ) → index < length verdicts → get_or (verdict_digits verdicts) index 0 ≡ 48 + get_or verdicts index 0 % 10
unfolding verdict_digits
verdict_digits-at [] index inside = absurd (omega arith)
verdict_digits-at (verdict ∷ rest) zero inside = refl
verdict_digits-at (verdict ∷ rest) (suc index) inside = verdict_digits-at rest index (omega arith)

-- the loop of `put_verdicts`: the digits before `index` are written
pub record DigitsSoFar (out₀ verdicts out : List ℕ) (at index : ℕ) : Type 0 where
  pub same : length out ≡ length out₀
  pub rest : sets out₀ at (verdict_digits verdicts) ≡ sets out (at + index) (drop index (verdict_digits verdicts))

pub digits-begin : (out verdicts : List ℕ) (at : ℕ) → DigitsSoFar out verdicts out at 0
digits-begin out verdicts at = let here : at + 0 ≡ at = omega arith in record { same = refl; rest = rw here }

module _ (out₀ verdicts out : List ℕ) (at index : ℕ) (so_far : DigitsSoFar out₀ verdicts out at index) where
  pub digits-go_on : index < length verdicts → DigitsSoFar out₀ verdicts (set out (at + index) (48 + get_or verdicts index 0 % 10)) at (index + 1)
  digits-go_on inside =
      let next : at + (index + 1) ≡ suc (at + index) = omega arith in
      let within : index < length (verdict_digits verdicts) = omega (arith, verdict_digits-length verdicts) in
      record {
        same = length-set out (at + index) (48 + get_or verdicts index 0 % 10) ∙ so_far.same;
        rest = so_far.rest ∙ rw (drop-step (verdict_digits verdicts) index within, verdict_digits-at verdicts index inside, next);
      }

  pub digits-end : length verdicts ≤ index → Put out₀ out at (at + length verdicts) (verdict_digits verdicts)
  digits-end over =
      let past : length (verdict_digits verdicts) ≤ index = omega (arith, verdict_digits-length verdicts) in
      record {
        past_is = omega (arith, verdict_digits-length verdicts);
        out_is = sym (so_far.rest ∙ rw (drop_of_length-le (verdict_digits verdicts) past));
      }

-- ---- kind_name

pub put-kind_of : {out out' : List ℕ} {at past : ℕ} (kind number : ℕ) → kind ≡ number → Put out out' at past (kind_name number) → Put out out' at past (kind_name kind)
put-kind_of kind number same put = rw same put

-- the kinds are numbered from 1 to 11
pub kind_name-other : (kind : ℕ) → (1 ≤ kind → 12 ≤ kind) → kind_name kind ≡ []
unfolding kind_name
kind_name-other kind other =
    rw (
      ne_eqb kind 1 (λ same. omega arith),
      ne_eqb kind 2 (λ same. omega arith),
      ne_eqb kind 3 (λ same. omega arith),
      ne_eqb kind 4 (λ same. omega arith),
      ne_eqb kind 5 (λ same. omega arith),
      ne_eqb kind 6 (λ same. omega arith),
      ne_eqb kind 7 (λ same. omega arith),
      ne_eqb kind 8 (λ same. omega arith),
      ne_eqb kind 9 (λ same. omega arith),
      ne_eqb kind 10 (λ same. omega arith),
      ne_eqb kind 11 (λ same. omega arith),
    )

name_by : (here : Bool) (name others : List ℕ) → length name ≤ 8 → length others ≤ 8 → length (if here then name else others) ≤ 8
name_by true name others few few-others = few
name_by false name others few few-others = few-others

pub kind_name-few : (kind : ℕ) → length (kind_name kind) ≤ 8
unfolding kind_name
kind_name-few kind =
    name_by (eqb kind 1) _ _ (omega arith)
    (name_by (eqb kind 2) _ _ (omega arith)
    (name_by (eqb kind 3) _ _ (omega arith)
    (name_by (eqb kind 4) _ _ (omega arith)
    (name_by (eqb kind 5) _ _ (omega arith)
    (name_by (eqb kind 6) _ _ (omega arith)
    (name_by (eqb kind 7) _ _ (omega arith)
    (name_by (eqb kind 8) _ _ (omega arith)
    (name_by (eqb kind 9) _ _ (omega arith)
    (name_by (eqb kind 10) _ _ (omega arith)
    (name_by (eqb kind 11) _ _ (omega arith) (omega arith)))))))))))

-- ---- lines of several parts

pub labelled-few : (label : List ℕ) (n : ℕ) → length (labelled label n) ≤ length label + 20
unfolding labelled
labelled-few label n = omega (arith, length-append label (numeral_of n), numeral_of-few n)

pub put-labelled_of : {out out' out'' : List ℕ} {at behind past : ℕ} {label : List ℕ} (n : ℕ)
    → Put out out' at behind label → Put out' out'' behind past (numeral_of n) → Put out out'' at past (labelled label n)
unfolding labelled
put-labelled_of n first second = put_then first second

-- the most bytes that the line of an event takes
pub event_line-few : (kind group depth a b : ℕ) → length (event_line kind group depth a b) ≤ 115
unfolding event_line
event_line-few kind group depth a b =
    simp length-append
    (omega (arith, kind_name-few kind, labelled-few (ascii " group=") group, labelled-few (ascii " depth=") depth, labelled-few (ascii " a=") a, labelled-few (ascii " b=") b))

pub put-event_of : {out out₁ out₂ out₃ out₄ out₅ out₆ out₇ : List ℕ} {at name group_at depth-at a_at b_at end past : ℕ} (kind group depth a b : ℕ)
    → Put out out₁ at name (ascii "event=")
    → Put out₁ out₂ name group_at (kind_name kind)
    → Put out₂ out₃ group_at depth-at (labelled (ascii " group=") group)
    → Put out₃ out₄ depth-at a_at (labelled (ascii " depth=") depth)
    → Put out₄ out₅ a_at b_at (labelled (ascii " a=") a)
    → Put out₅ out₆ b_at end (labelled (ascii " b=") b)
    → Put out₆ out₇ end past feed
    → Put out out₇ at past (event_line kind group depth a b)
unfolding event_line
put-event_of kind group depth a b puts-event puts-kind puts-group puts-depth puts-a puts-b puts-feed =
    put_then puts-event (put_then puts-kind (put_then puts-group (put_then puts-depth (put_then puts-a (put_then puts-b puts-feed)))))

pub put-type_of : {out out₁ out₂ out₃ out₄ : List ℕ} {at value behind end past : ℕ} {type : List ℕ} (fields : ℕ)
    → Put out out₁ at value (ascii "type=")
    → Put out₁ out₂ value behind type
    → Put out₂ out₃ behind end (labelled (ascii " fields=") fields)
    → Put out₃ out₄ end past feed
    → Put out out₄ at past (type_line type fields)
unfolding type_line
put-type_of fields puts-label puts-type puts-fields puts-feed = put_then puts-label (put_then puts-type (put_then puts-fields puts-feed))

pub put-verdicts_of : {out out₁ out₂ out₃ : List ℕ} {at digits end past : ℕ} (verdicts : List ℕ)
    → Put out out₁ at digits (ascii "verdicts=")
    → Put out₁ out₂ digits end (verdict_digits verdicts)
    → Put out₂ out₃ end past feed
    → Put out out₃ at past (verdict_line verdicts)
unfolding verdict_line
put-verdicts_of verdicts puts-label puts-digits puts-feed = put_then puts-label (put_then puts-digits puts-feed)

pub put-refused_of : {out out₁ out₂ out₃ : List ℕ} {at place_at end past : ℕ} (refusal : Refusal) (number place : ℕ)
    → number ≡ refusal_number refusal
    → place ≡ refusal_place refusal
    → Put out out₁ at place_at (labelled (ascii "refused=") number)
    → Put out₁ out₂ place_at end (labelled (ascii " place=") place)
    → Put out₂ out₃ end past feed
    → Put out out₃ at past (refused_line refusal)
unfolding refused_line
put-refused_of refusal number place is_number is-place puts-number puts-place puts-feed =
    rw (← is_number, ← is-place) (put_then puts-number (put_then puts-place puts-feed))
