-- Laws of `ListText.antt`: each line fits the room for lines, and the lines, one after the other, are the list. Assumes nothing.
use Rattle.std.specs.Prelude.{◌≡◌, refl, Bool, true, false, eqb, leb, take, drop, if◌then◌else◌, Result, Ok, Err}
use Rattle.std.specs.Coded.{Unit-prop, le_prop}
use Rattle.std.proofs.Common.{ap, length-append, length-take, length-drop}
use Prim.Native.Nat.{ℕ, zero, suc, ◌+◌, ◌-◌, ◌≤◌, ◌<◌}
use mathlib.Core.List.{List, [], ◌++◌, append_assoc, append-nil}
use native.Mathlib.Omega.{arith}
use Rattle.std.proofs.Math.Numerals.{add-two}
use Rattle.std.proofs.Math.ListN.{length}
use Rattle.std.proofs.lemmas.List.Edits.{sets}
use Rattle.std.proofs.Math.Seq.{length-take-le}
use borrow.Author.Tests.{eq-eqb, ne_eqb, le-leb, lt-leb}
use Rattle.ascii.specs.Bytes.{ascii}
use Rattle.refusals.specs.declared.refusal.Refusal.{Refusal}
use Rattle.refusals.specs.Refusal.{refusal_number, refusal_place}
use Rattle.listing.specs.declared.list_text.Shape.{Shape}
use Rattle.list_lines.specs.ListLines.{type_line, verdict_line, refused_line}
use Rattle.list_lines.specs.ListLinesLaws.{Put, put-nothing, put-length, labelled-few, verdict_digits-length, event_line-few}
use Rattle.listing.specs.ListText.{HeldShape, Held, words_line, words_lines, type_of, line_count, full_line, line_at, lines_from, printed}

-- ---- what a list is printed from

pub held-shape : (listed : Result Shape Refusal) (shape : Shape) (message events verdicts : List ℕ) → listed ≡ Ok shape → Held listed message events verdicts
    → HeldShape shape message events verdicts
held-shape listed shape message events verdicts full held = rw full at held

-- there is one proof of it at most
pub held-prop : (listed : Result Shape Refusal) (message events verdicts : List ℕ) → IsProp (Held listed message events verdicts)
held-prop (Ok shape) message events verdicts = hlevel le_prop
held-prop (Err refusal) message events verdicts = Unit-prop

-- ---- full_line

module _ (message events verdicts : List ℕ) (shape : Shape) (index : ℕ) where
  pub full_line-type : index ≡ 0 → full_line message events verdicts shape index ≡ type_line (type_of shape message) shape.fields
  unfolding full_line
  full_line-type first = rw (eq-eqb index 0 first)

  module _ (later : index ≡ 0 → ⊥) where
    pub full_line-event : index ≤ shape.events → full_line message events verdicts shape index ≡ words_line events (index - 1)
    unfolding full_line
    full_line-event inside = rw (ne_eqb index 0 later, le-leb index shape.events inside)

    module _ (behind : shape.events < index) where
      pub full_line-verdicts : index ≡ shape.events + 1 → full_line message events verdicts shape index ≡ verdict_line (take shape.fields verdicts)
      unfolding full_line
      full_line-verdicts next = rw (ne_eqb index 0 later, lt-leb index shape.events behind, eq-eqb index (shape.events + 1) next)

      pub full_line-none : (index ≡ shape.events + 1 → ⊥) → full_line message events verdicts shape index ≡ []
      unfolding full_line
      full_line-none other = rw (ne_eqb index 0 later, lt-leb index shape.events behind, ne_eqb index (shape.events + 1) other)

-- ---- the lines, one behind the other, are the list

module _ (message events verdicts : List ℕ) where
  -- the lines of the events from `index` on, then the last line
  event-lines : (shape : Shape) (left index : ℕ) → index + left ≡ shape.events
      → lines_from message events verdicts (Ok shape) (suc left) (suc index) ≡ words_lines events left index ++ verdict_line (take shape.fields verdicts)
  unfolding lines_from words_lines line_at
  event-lines shape zero index all =
      let last : suc index ≡ shape.events + 1 = omega arith in
      rw (full_line-verdicts message events verdicts shape (suc index) (λ none. omega arith) (omega arith) last, append-nil)
  event-lines shape (suc left) index all =
      let here : suc index - 1 ≡ index = omega arith in
      let deeper = event-lines shape left (suc index) (omega arith) in
      rw (full_line-event message events verdicts shape (suc index) (λ none. omega arith) (omega arith), here, append_assoc)
      (ap (λ (others : List ℕ). words_line events index ++ others) deeper)

  pub lines-printed : (listed : Result Shape Refusal) → lines_from message events verdicts listed (line_count listed) 0 ≡ printed message events verdicts listed
  unfolding lines_from line_at printed
  lines-printed (Ok shape) =
      rw (add-two, full_line-type message events verdicts shape 0 refl)
      (ap (λ (others : List ℕ). type_line (type_of shape message) shape.fields ++ others) (event-lines shape shape.events 0 (omega arith)))
  lines-printed (Err refusal) = append-nil (refused_line refusal)

-- ---- the most bytes that a line takes

part-few : (size first : ℕ) (message : List ℕ) → length (take size (drop first message)) ≤ length message
part-few size first message = omega (arith, length-take size (drop first message), length-drop first message)

type_line-few : (type : List ℕ) (fields : ℕ) → length (type_line type fields) ≤ length type + 34
unfolding type_line
type_line-few type fields = simp length-append (omega (arith, labelled-few (ascii " fields=") fields))

verdict_line-few : (verdicts : List ℕ) → length (verdict_line verdicts) ≤ length verdicts + 10
unfolding verdict_line
verdict_line-few verdicts = simp length-append (omega (arith, verdict_digits-length verdicts))

refused_line-few : (refusal : Refusal) → length (refused_line refusal) ≤ 56
unfolding refused_line
refused_line-few refusal =
    simp length-append (omega (arith, labelled-few (ascii "refused=") (refusal_number refusal), labelled-few (ascii " place=") (refusal_place refusal)))

words_line-few : (events : List ℕ) (index : ℕ) → length (words_line events index) ≤ 115
words_line-few events index = event_line-few _ _ _ _ _

line-by : (test : Bool) (this that : List ℕ) → length this ≤ 65570 → length that ≤ 65570 → length (if test then this else that) ≤ 65570
line-by true this that few few-others = few
line-by false this that few few-others = few-others

module _ (message events verdicts : List ℕ) (index : ℕ) where
  full_line-few : (shape : Shape) → HeldShape shape message events verdicts → length (full_line message events verdicts shape index) ≤ 65570
  unfolding full_line
  full_line-few shape held =
      let type-few = type_line-few (type_of shape message) shape.fields in
      let part = part-few (shape.message_type.past - shape.message_type.first) shape.message_type.first message in
      let taken : length (take shape.fields verdicts) ≡ shape.fields = length-take-le shape.fields verdicts held.verdict_words in
      line-by (eqb index 0) _ _ (omega (arith, type-few, part, held.few_bytes))
      (line-by (leb index shape.events) _ _ (omega (arith, words_line-few events (index - 1)))
      (line-by (eqb index (shape.events + 1)) _ _ (omega (arith, verdict_line-few (take shape.fields verdicts), taken, held.few_fields)) (omega arith)))

  pub line_at_few : (listed : Result Shape Refusal) → Held listed message events verdicts → length (line_at message events verdicts listed index) ≤ 65570
  unfolding line_at
  line_at_few (Ok shape) held = full_line-few shape held
  line_at_few (Err refusal) held = line-by (eqb index 0) (refused_line refusal) [] (omega (arith, refused_line-few refusal)) (omega arith)

-- ---- the answer of `list_line`

abbrev pub Handed : List ℕ → List ℕ → List ℕ → ℕ → Type 0
Handed line out out' size = (size ≡ length line) × ((out' ≡ sets out 0 line) × (size ≤ length out'))

module _ (message events verdicts : List ℕ) (listed : Result Shape Refusal) (index : ℕ) (held : Held listed message events verdicts) where
  handed : (out out' : List ℕ) (size : ℕ) (line : List ℕ) → 65570 ≤ length out → line_at message events verdicts listed index ≡ line
      → Put out out' 0 size line → Handed (line_at message events verdicts listed index) out out' size
  handed out out' size line room is-line put = (
    rw is-line (omega (arith, put.past_is)),
    (rw is-line put.out_is, omega (arith, put.past_is, put-length put, ap length is-line, line_at_few message events verdicts index listed held)),
  )

  pub hand_full : (out out' : List ℕ) (size : ℕ) (shape : Shape) → 65570 ≤ length out → listed ≡ Ok shape
      → Put out out' 0 size (full_line message events verdicts shape index) → Handed (line_at message events verdicts listed index) out out' size
  unfolding line_at
  hand_full out out' size shape room full put = handed out out' size (full_line message events verdicts shape index) room (rw full) put

  module _ (refusal : Refusal) (refused : listed ≡ Err refusal) (out : List ℕ) (room : 65570 ≤ length out) where
    pub hand_refusal : (out' : List ℕ) (size : ℕ) → index ≡ 0 → Put out out' 0 size (refused_line refusal) → Handed (line_at message events verdicts listed index) out out' size
    unfolding line_at
    hand_refusal out' size first put = handed out out' size (refused_line refusal) room (rw (refused, eq-eqb index 0 first)) put

    pub hand_nothing : (index ≡ 0 → ⊥) → Handed (line_at message events verdicts listed index) out out 0
    unfolding line_at
    hand_nothing later = handed out out 0 [] room (rw (refused, ne_eqb index 0 later)) (put-nothing out 0)
