-- The steps of `list` (src/list.rt), a call at a time: what the call answered and wrote, and what the calls behind it did with that, is what `ListCall.antt`
-- says of the stage. A part `&words[0..size]` is lent as `take (size - 0) words`. Assumes nothing.
--
--   read_fits, table_fits, part-inside    what was written was lent, so that a part of it can be lent on
--   list-expanded, list-not-expanded      the stage from the expansion on
--   list_read, list-not-read              .. from the message text on
--   list_written, list-not-written        .. the whole
use Rattle.std.specs.Prelude.{◌≡◌, refl, ℕ, zero, suc, ◌*◌, ◌-◌, ◌≤◌, Bool, true, false, List, [], ◌∷◌, leb, length, if◌then◌else◌, Result, Ok, Err}
use Rattle.std.proofs.Math.Path.{sym}
use Rattle.std.proofs.Common.{ap, ◌∙◌, leb-true}
use native.Mathlib.Omega.{arith}
use Rattle.std.proofs.Math.ListN.{take}
use Rattle.refusals.specs.declared.refusal.Refusal.{Refusal}
use Rattle.refusals.specs.declared.refusal.Refusal.TheVariants.{SpaceShort}
use Rattle.texts.specs.DictionaryText.{dictionary_text_of}
use Rattle.dictionary.specs.DictionaryWords.{dictionary_words}
use Rattle.read_dictionary.specs.ReadDictionary.{text_lines, text_answer, read_of, read_in}
use Rattle.validator.specs.MessageCall.{events_in}
use Rattle.expand.specs.declared.expand_call.Expanded.{Expanded}
use Rattle.expand.specs.ExpandCall.{expanded_of, expanded_in}
use Rattle.message_text.specs.declared.message_type.Stretch.{Stretch}
use Rattle.message_text.specs.MessageText.{read_message_of, fields_in}
use Rattle.message_text.specs.MessageType.{type_place_of, part_of}
use Rattle.message_text.specs.MessageTable.{table-length, table-few, table-written}
use Rattle.listing.specs.ListText.{Held}
use Rattle.message_list.specs.ListCall.{list_of_layout, verdicts_of_layout, type_of_fields, layout_written, list_of_fields, events_of_fields, verdicts_of_fields, table_written, list_of_message, layout_of_message, events_of_message, verdicts_of_message, dictionary_written, list_of, layout_of, fields_of, events_of, verdicts_of}
use Rattle.message_list.specs.ListCallLaws.{type_inside, held-list}
use Rattle.texts.specs.declared.dictionary_text.Counts.{Counts}
use Rattle.listing.specs.declared.list_text.Shape.{Shape}

-- ---- what was written was lent

read-room : (test : Bool) (needed space count : ℕ) → leb needed space ≡ test
    → (if test then Ok needed else Err (SpaceShort needed)) ≡ Ok count → count ≤ space
read-room true needed space count inside given = let same : needed ≡ count = cc in omega (arith, leb-true needed space inside, same)
read-room false needed space count inside given = let never : ◌≡◌ {A = ℕ} 0 1 = cc in absurd (omega arith)

read_by : (outcome : Result Counts Refusal) (dictionary : List ℕ) (space count : ℕ) → text_answer outcome dictionary space ≡ Ok count → count ≤ space
read_by (Ok counts) dictionary space count given = read-room (leb (length dictionary) space) (length dictionary) space count refl given
read_by (Err refusal) dictionary space count given = let never : ◌≡◌ {A = ℕ} 0 1 = cc in absurd (omega arith)

pub read_fits : (dictionary_text : List ℕ) (space count : ℕ) → read_of dictionary_text space ≡ Ok count → count ≤ space
unfolding read_of
read_fits dictionary_text space count given = read_by (dictionary_text_of dictionary_text) (dictionary_words (text_lines dictionary_text)) space count given

take-few : (count : ℕ) (words : List ℕ) → length (take count words) ≤ length words
take-few zero words = omega arith
take-few (suc count) [] = omega arith
take-few (suc count) (word ∷ words) = omega (arith, take-few count words)

pub table_fits : (text fields : List ℕ) (count : ℕ) → read_message_of text (length fields) ≡ Ok count
    → (3 * count ≤ length (fields_in text fields)) × (3 * count ≤ 65536)
table_fits text fields count reads =
    let written = table-written text fields count reads in
    let size : length (take (3 * count) (fields_in text fields)) ≡ 3 * count = ap length written.1 ∙ table-length text count written.0 in
    (omega (arith, size, take-few (3 * count) (fields_in text fields)), table-few text count written.0)

pub part-inside : (fields text : List ℕ) (part : Stretch) → part ≡ type_place_of fields
    → ((type_place_of fields).first ≤ (type_place_of fields).past) × ((type_place_of fields).past ≤ length text) → (part.first ≤ part.past) × (part.past ≤ length text)
part-inside fields text part is-part inside = rw is-part inside

-- ---- expansion

module _ (dictionary fields text layout events verdicts : List ℕ) (part : Stretch) (is-part : part ≡ type_place_of fields)
    (answer : Result Expanded Refusal) (answers : answer ≡ expanded_of dictionary (part_of part text) (length layout))
    (layout_now : List ℕ) (written : layout_now ≡ expanded_in dictionary (part_of part text) layout) where
  answer-is : expanded_of dictionary (type_of_fields fields text) (length layout) ≡ answer
  answer-is = rw (sym is-part) (sym answers)

  layout_is : layout_now ≡ expanded_in dictionary (type_of_fields fields text) layout
  layout_is = rw (sym is-part) written

  pub list_expanded : (nodes words : ℕ) → answer ≡ Ok (record { nodes = nodes; words = words }) → (listed : Result Shape Refusal) (events_now verdicts_now : List ℕ)
      → listed ≡ list_of_layout dictionary (take (words - 0) layout_now) fields text events verdicts part
      → events_now ≡ events_in dictionary (take (words - 0) layout_now) fields text events
      → verdicts_now ≡ verdicts_of_layout dictionary (take (words - 0) layout_now) fields text events verdicts
      → (listed ≡ list_of_fields dictionary fields text layout events verdicts)
      × ((layout_now ≡ expanded_in dictionary (type_of_fields fields text) layout)
      × ((events_now ≡ events_of_fields dictionary fields text layout events verdicts) × (verdicts_now ≡ verdicts_of_fields dictionary fields text layout events verdicts)))
  unfolding list_of_fields events_of_fields verdicts_of_fields
  list_expanded nodes words done listed events_now verdicts_now lists raises judges =
      let all : words - 0 ≡ words = omega arith in
      let is : expanded_of dictionary (type_of_fields fields text) (length layout) ≡ Ok (record { nodes = nodes; words = words }) = answer-is ∙ done in
      let same : take (words - 0) layout_now ≡ layout_written dictionary (type_of_fields fields text) layout words = rw (all, layout_is) in
      (rw is (lists ∙ rw (same, is-part)), (layout_is, (rw is (raises ∙ rw same), rw is (judges ∙ rw same))))

  pub list_not_expanded : (refusal : Refusal) → answer ≡ Err refusal
      → (Err refusal ≡ list_of_fields dictionary fields text layout events verdicts)
      × ((layout_now ≡ expanded_in dictionary (type_of_fields fields text) layout)
      × ((events ≡ events_of_fields dictionary fields text layout events verdicts) × (verdicts ≡ verdicts_of_fields dictionary fields text layout events verdicts)))
  unfolding list_of_fields events_of_fields verdicts_of_fields
  list_not_expanded refusal refused =
      let is : expanded_of dictionary (type_of_fields fields text) (length layout) ≡ Err refusal = answer-is ∙ refused in
      (rw is, (layout_is, (rw is, rw is)))

-- ---- message text

module _ (dictionary text layout fields events verdicts : List ℕ) (answer : Result ℕ Refusal) (answers : answer ≡ read_message_of text (length fields))
    (fields_now : List ℕ) (written : fields_now ≡ fields_in text fields) where
  pub fields_fit : (count : ℕ) → answer ≡ Ok count → (3 * count ≤ length fields_now) × (3 * count ≤ 65536)
  fields_fit count reads = rw written (table_fits text fields count (sym answers ∙ reads))

  pub type-fits : (count : ℕ) → answer ≡ Ok count
      → ((type_place_of (take (3 * count - 0) fields_now)).first ≤ (type_place_of (take (3 * count - 0) fields_now)).past)
      × ((type_place_of (take (3 * count - 0) fields_now)).past ≤ length text)
  type-fits count reads =
      let all : 3 * count - 0 ≡ 3 * count = omega arith in
      let inside = type_inside text fields count (sym answers ∙ reads) in
      rw (all, written) (inside.ordered, inside.inside)

  pub list_read : (count : ℕ) → answer ≡ Ok count → (listed : Result Shape Refusal) (layout_now events_now verdicts_now : List ℕ)
      → listed ≡ list_of_fields dictionary (take (3 * count - 0) fields_now) text layout events verdicts
      → layout_now ≡ expanded_in dictionary (type_of_fields (take (3 * count - 0) fields_now) text) layout
      → events_now ≡ events_of_fields dictionary (take (3 * count - 0) fields_now) text layout events verdicts
      → verdicts_now ≡ verdicts_of_fields dictionary (take (3 * count - 0) fields_now) text layout events verdicts
      → (listed ≡ list_of_message dictionary text layout fields events verdicts)
      × ((layout_now ≡ layout_of_message dictionary text layout fields events verdicts)
      × ((fields_now ≡ fields_in text fields)
      × ((events_now ≡ events_of_message dictionary text layout fields events verdicts) × (verdicts_now ≡ verdicts_of_message dictionary text layout fields events verdicts))))
  unfolding list_of_message layout_of_message events_of_message verdicts_of_message
  list_read count reads listed layout_now events_now verdicts_now lists lays raises judges =
      let all : 3 * count - 0 ≡ 3 * count = omega arith in
      let is : read_message_of text (length fields) ≡ Ok count = sym answers ∙ reads in
      let same : take (3 * count - 0) fields_now ≡ table_written text fields count = rw (all, written) in
      (rw is (lists ∙ rw same), (rw is (lays ∙ rw same), (written, (rw is (raises ∙ rw same), rw is (judges ∙ rw same)))))

  pub list_not_read : (refusal : Refusal) → answer ≡ Err refusal
      → (Err refusal ≡ list_of_message dictionary text layout fields events verdicts)
      × ((layout ≡ layout_of_message dictionary text layout fields events verdicts)
      × ((fields_now ≡ fields_in text fields)
      × ((events ≡ events_of_message dictionary text layout fields events verdicts) × (verdicts ≡ verdicts_of_message dictionary text layout fields events verdicts))))
  unfolding list_of_message layout_of_message events_of_message verdicts_of_message
  list_not_read refusal refused =
      let is : read_message_of text (length fields) ≡ Err refusal = sym answers ∙ refused in
      (rw is, (rw is, (written, (rw is, rw is))))

-- ---- dictionary text

module _ (dictionary_text text words layout fields events verdicts : List ℕ) (answer : Result ℕ Refusal) (answers : answer ≡ read_of dictionary_text (length words))
    (words_now : List ℕ) (written : words_now ≡ read_in dictionary_text words) where
  -- what is promised of the list and of each space
  abbrev Whole : Result Shape Refusal → List ℕ → List ℕ → List ℕ → List ℕ → Type 0
  Whole listed layout_now fields_now events_now verdicts_now =
      (listed ≡ list_of dictionary_text text words layout fields events verdicts)
      × ((words_now ≡ read_in dictionary_text words)
      × ((layout_now ≡ layout_of dictionary_text text words layout fields events verdicts)
      × ((fields_now ≡ fields_of dictionary_text text words layout fields events verdicts)
      × ((events_now ≡ events_of dictionary_text text words layout fields events verdicts)
      × ((verdicts_now ≡ verdicts_of dictionary_text text words layout fields events verdicts) × Held listed text events_now verdicts_now)))))

  whole-held : (listed : Result Shape Refusal) (events_now verdicts_now : List ℕ) → listed ≡ list_of dictionary_text text words layout fields events verdicts
      → events_now ≡ events_of dictionary_text text words layout fields events verdicts → verdicts_now ≡ verdicts_of dictionary_text text words layout fields events verdicts
      → Held listed text events_now verdicts_now
  whole-held listed events_now verdicts_now lists raises judges = rw (lists, raises, judges) (held-list dictionary_text text words layout fields events verdicts)

  pub list_written : (size : ℕ) → answer ≡ Ok size → (listed : Result Shape Refusal) (layout_now fields_now events_now verdicts_now : List ℕ)
      → listed ≡ list_of_message (take (size - 0) words_now) text layout fields events verdicts
      → layout_now ≡ layout_of_message (take (size - 0) words_now) text layout fields events verdicts
      → fields_now ≡ fields_in text fields
      → events_now ≡ events_of_message (take (size - 0) words_now) text layout fields events verdicts
      → verdicts_now ≡ verdicts_of_message (take (size - 0) words_now) text layout fields events verdicts
      → Whole listed layout_now fields_now events_now verdicts_now
  unfolding list_of layout_of fields_of events_of verdicts_of
  list_written size reads listed layout_now fields_now events_now verdicts_now lists lays reads-fields raises judges =
      let all : size - 0 ≡ size = omega arith in
      let is : read_of dictionary_text (length words) ≡ Ok size = sym answers ∙ reads in
      let same : take (size - 0) words_now ≡ dictionary_written dictionary_text words size = rw (all, written) in
      let listed-is : listed ≡ list_of dictionary_text text words layout fields events verdicts = rw is (lists ∙ rw same) in
      let events_are : events_now ≡ events_of dictionary_text text words layout fields events verdicts = rw is (raises ∙ rw same) in
      let verdicts-are : verdicts_now ≡ verdicts_of dictionary_text text words layout fields events verdicts = rw is (judges ∙ rw same) in (
        listed-is,
        (written, (rw is (lays ∙ rw same), (rw is reads-fields, (events_are, (verdicts-are, whole-held listed events_now verdicts_now listed-is events_are verdicts-are))))),
      )

  pub list_not_written : (refusal : Refusal) → answer ≡ Err refusal → Whole (Err refusal) layout fields events verdicts
  unfolding list_of layout_of fields_of events_of verdicts_of
  list_not_written refusal refused =
      let is : read_of dictionary_text (length words) ≡ Err refusal = sym answers ∙ refused in
      (rw is, (written, (rw is, (rw is, (rw is, (rw is, tt))))))
