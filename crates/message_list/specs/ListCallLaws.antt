-- Laws of `ListCall.antt`: what the calls wrote fits what they were lent, so that a list can be printed from it (`Held`). Assumes nothing.
use Rattle.std.specs.Prelude.{◌≡◌, ℕ, ◌*◌, ◌≤◌, Bool, true, false, List, ◌++◌, leb, length, drop, if◌then◌else◌, Result, Ok, Err}
use Rattle.std.proofs.Math.Path.{refl}
use Rattle.std.proofs.Common.{sym, arith, length-append}
use Rattle.refusals.specs.declared.refusal.Refusal.TheVariants.{UnknownForm, RuleBroken, SpaceShort}
use Rattle.dictionary.specs.DictionaryCheck.{is_dictionary}
use Rattle.read_dictionary.specs.ReadDictionary.{read_of}
use Rattle.layouts.specs.Limits.{gate_limits}
use Rattle.layouts.specs.LayoutCheck.{is_layout}
use Rattle.events.specs.declared.event.Event.{Event}
use Rattle.events.specs.Events.{events_words}
use Rattle.events.specs.EventSpaceLaws.{events_words-length}
use Rattle.field_table.specs.FieldTable.{row_count, table_check_of, fields_of}
use Rattle.field_table.specs.FieldTableLaws.{table_check_of-accepted}
use Rattle.validator.specs.MessageCall as call
use Rattle.validator.specs.MessageCall.{walk_of, walked_of, events_in}
use Rattle.verdicts.specs.Verdicts as verdict
use Rattle.verdicts.specs.Verdicts.{judged_of, verdicts_in}
use Rattle.verdicts.specs.VerdictsLaws.{verdicts_from-length}
use Rattle.expand.specs.declared.expand_call.Expanded.{Expanded}
use Rattle.expand.specs.ExpandCall.{expanded_of}
use Rattle.message_text.specs.declared.message_type.Stretch.{Stretch}
use Rattle.message_text.specs.MessageText.{read_message_of}
use Rattle.message_text.specs.MessageType.{type_place_of}
use Rattle.message_text.specs.MessageTable.{accepted-text, table-written, type-says}
use Rattle.listing.specs.ListText.{Held}
use Rattle.message_list.specs.ListCall.{shape_of, on_judged, on_walked, walked_space, list_of_layout, verdicts_of_layout, on_expanded, expanded_space, type_of_fields, layout_written, list_of_fields, events_of_fields, verdicts_of_fields, on_fields, fields_space, table_written, list_of_message, events_of_message, verdicts_of_message, on_read, read_space, dictionary_written, list_of, events_of, verdicts_of}
use Rattle.refusals.specs.declared.refusal.Refusal.{Refusal}

-- ---- the events that a walk wrote

module _ (events : List Event) (space : List ℕ) (words : ℕ) where
  walk_fits : (fits : Bool) → leb (5 * length events) (length space) ≡ fits
      → (if fits then Ok (5 * length events) else Err (SpaceShort (5 * length events))) ≡ Ok words
      → words ≤ length (if fits then events_words events ++ drop (5 * length events) space else space)
  walk_fits false test short = let never : ◌≡◌ {A = ℕ} 0 1 = cc in absurd (omega arith)
  walk_fits true test done =
      let is-words : 5 * length events ≡ words = cc in
      omega (arith, length-append (events_words events) (drop (5 * length events) space), events_words-length events)

module _ (dictionary layout fields text space : List ℕ) (words : ℕ) where
  table_fits : (check : Result Unit Refusal) → call.table_answer dictionary layout fields text space check ≡ Ok words
      → words ≤ length (call.table_space dictionary layout fields text space check)
  table_fits (Err refusal) refused = let never : ◌≡◌ {A = ℕ} 0 1 = cc in absurd (omega arith)
  table_fits (Ok tt) done = walk_fits (walk_of dictionary layout fields text) space words (leb (5 * length (walk_of dictionary layout fields text)) (length space)) refl done

  walked_by : (known laid : Bool)
      → (if known then (if laid then call.table_answer dictionary layout fields text space (table_check_of fields (length text)) else Err (RuleBroken 0 0))
      else Err (UnknownForm 0)) ≡ Ok words
      → words ≤ length (if known then (if laid then call.table_space dictionary layout fields text space (table_check_of fields (length text)) else space) else space)
  walked_by false laid refused = let never : ◌≡◌ {A = ℕ} 0 1 = cc in absurd (omega arith)
  walked_by true false refused = let never : ◌≡◌ {A = ℕ} 0 1 = cc in absurd (omega arith)
  walked_by true true done = table_fits (table_check_of fields (length text)) done

  pub walked-fits : walked_of dictionary layout fields text space ≡ Ok words → words ≤ length (events_in dictionary layout fields text space)
  unfolding walked_of events_in
  walked-fits done = walked_by (is_dictionary dictionary) (is_layout gate_limits layout) done

-- ---- the verdicts that were written

module _ (dictionary fields text : List ℕ) (strict : Bool) (space : List ℕ) (count : ℕ) where
  judge_fits : (fits : Bool) → leb (row_count fields) (length space) ≡ fits
      → (if fits then Ok (row_count fields) else Err (SpaceShort (row_count fields))) ≡ Ok count
      → count ≤ length (if fits then verdict.written_in dictionary fields text strict space else space)
  judge_fits false test short = let never : ◌≡◌ {A = ℕ} 0 1 = cc in absurd (omega arith)
  judge_fits true test done =
      let is-count : row_count fields ≡ count = cc in
      let written = verdict.verdicts_of dictionary strict (fields_of fields text) in
      omega (arith, length-append written (drop (row_count fields) space), verdicts_from-length dictionary strict (fields_of fields text) (row_count fields) 0)

  judge_few : (fits : Bool) → (if fits then Ok (row_count fields) else Err (SpaceShort (row_count fields))) ≡ Ok count → count ≡ row_count fields
  judge_few false short = let never : ◌≡◌ {A = ℕ} 0 1 = cc in absurd (omega arith)
  judge_few true done = let is-count : row_count fields ≡ count = cc in sym is-count

  judged_table : (check : Result Unit Refusal) → table_check_of fields (length text) ≡ check → verdict.table_answer fields space check ≡ Ok count
      → (count ≤ length (verdict.table_space dictionary fields text strict space check)) × (count ≤ 4096)
  judged_table (Err refusal) test refused = let never : ◌≡◌ {A = ℕ} 0 1 = cc in absurd (omega arith)
  judged_table (Ok tt) test done =
      let accepted = (table_check_of-accepted fields (length text)).0 test in
      (judge_fits (leb (row_count fields) (length space)) refl done, omega (arith, judge_few (leb (row_count fields) (length space)) done, accepted.few))

  judged_by : (known : Bool)
      → (if known then verdict.table_answer fields space (table_check_of fields (length text)) else Err (UnknownForm 0)) ≡ Ok count
      → (count ≤ length (if known then verdict.table_space dictionary fields text strict space (table_check_of fields (length text)) else space)) × (count ≤ 4096)
  judged_by false refused = let never : ◌≡◌ {A = ℕ} 0 1 = cc in absurd (omega arith)
  judged_by true done = judged_table (table_check_of fields (length text)) refl done

  pub judged_fits : judged_of dictionary fields text space ≡ Ok count → (count ≤ length (verdicts_in dictionary fields text strict space)) × (count ≤ 4096)
  unfolding judged_of verdicts_in
  judged_fits done = judged_by (is_dictionary dictionary) done

-- ---- a list that was made can be printed

-- where the type stands in the message
pub record TypeInside (type : Stretch) (text : List ℕ) : Type 0 where
  pub ordered : type.first ≤ type.past
  pub inside : type.past ≤ length text
  pub few : length text ≤ 65536

module _ (dictionary fields text : List ℕ) (type : Stretch) (inside : TypeInside type text) (verdicts events' : List ℕ) (words : ℕ) (fits : words ≤ length events') where
  held-judged : (answer : Result ℕ Refusal) → judged_of dictionary fields text verdicts ≡ answer
      → Held (on_judged answer (λ count. Ok (shape_of type count words))) text events' (verdicts_in dictionary fields text false verdicts)
  held-judged (Err refusal) answers = tt
  held-judged (Ok count) answers =
      let few = judged_fits dictionary fields text false verdicts count answers in
      record {
        type_ordered = inside.ordered;
        type_inside = inside.inside;
        few_bytes = inside.few;
        event_words_lem = omega arith;
        verdict_words = few.0;
        few_fields = few.1;
      }

module _ (dictionary layout fields text : List ℕ) (type : Stretch) (inside : TypeInside type text) (events verdicts : List ℕ) where
  held-walked : (answer : Result ℕ Refusal) → walked_of dictionary layout fields text events ≡ answer
      → Held (on_walked answer (λ words. on_judged (judged_of dictionary fields text verdicts) (λ count. Ok (shape_of type count words)))) text
      (events_in dictionary layout fields text events) (walked_space answer (verdicts_in dictionary fields text false verdicts) verdicts)
  held-walked (Err refusal) answers = tt
  held-walked (Ok words) answers =
      held-judged dictionary fields text type inside verdicts (events_in dictionary layout fields text events) words
      (walked-fits dictionary layout fields text events words answers) (judged_of dictionary fields text verdicts) refl

  held-layout : Held (list_of_layout dictionary layout fields text events verdicts type) text
      (events_in dictionary layout fields text events) (verdicts_of_layout dictionary layout fields text events verdicts)
  unfolding list_of_layout verdicts_of_layout
  held-layout = held-walked (walked_of dictionary layout fields text events) refl

module _ (dictionary fields text : List ℕ) (inside : TypeInside (type_place_of fields) text) (layout events verdicts : List ℕ) where
  held-expanded : (answer : Result Expanded Refusal)
      → Held (on_expanded answer (λ words. list_of_layout dictionary (layout_written dictionary (type_of_fields fields text) layout words) fields text events verdicts (type_place_of fields))) text
      (expanded_space answer (λ words. events_in dictionary (layout_written dictionary (type_of_fields fields text) layout words) fields text events) events)
      (expanded_space answer (λ words. verdicts_of_layout dictionary (layout_written dictionary (type_of_fields fields text) layout words) fields text events verdicts) verdicts)
  held-expanded (Err refusal) = tt
  held-expanded (Ok expanded) =
      held-layout dictionary (layout_written dictionary (type_of_fields fields text) layout expanded.words) fields text (type_place_of fields) inside events verdicts

  held-fields : Held (list_of_fields dictionary fields text layout events verdicts) text (events_of_fields dictionary fields text layout events verdicts)
      (verdicts_of_fields dictionary fields text layout events verdicts)
  unfolding list_of_fields events_of_fields verdicts_of_fields
  held-fields = held-expanded (expanded_of dictionary (type_of_fields fields text) (length layout))

-- the type of a message that was read stands inside it
pub type_inside : (text fields : List ℕ) (count : ℕ) → read_message_of text (length fields) ≡ Ok count → TypeInside (type_place_of (table_written text fields count)) text
type_inside text fields count reads =
    let written = table-written text fields count reads in
    let says = type-says text count written.0 in
    rw written.1 (record { ordered = says.ordered; inside = says.inside; few = (accepted-text text count written.0).1 })

module _ (dictionary text : List ℕ) (layout fields events verdicts : List ℕ) where
  held-by_read : (answer : Result ℕ Refusal) → read_message_of text (length fields) ≡ answer
      → Held (on_fields answer (λ count. list_of_fields dictionary (table_written text fields count) text layout events verdicts)) text
      (fields_space answer (λ count. events_of_fields dictionary (table_written text fields count) text layout events verdicts) events)
      (fields_space answer (λ count. verdicts_of_fields dictionary (table_written text fields count) text layout events verdicts) verdicts)
  held-by_read (Err refusal) reads = tt
  held-by_read (Ok count) reads = held-fields dictionary (table_written text fields count) text (type_inside text fields count reads) layout events verdicts

  held-message : Held (list_of_message dictionary text layout fields events verdicts) text (events_of_message dictionary text layout fields events verdicts)
      (verdicts_of_message dictionary text layout fields events verdicts)
  unfolding list_of_message events_of_message verdicts_of_message
  held-message = held-by_read (read_message_of text (length fields)) refl

module _ (dictionary_text text : List ℕ) (words layout fields events verdicts : List ℕ) where
  held-by_dictionary : (answer : Result ℕ Refusal)
      → Held (on_read answer (λ size. list_of_message (dictionary_written dictionary_text words size) text layout fields events verdicts)) text
      (read_space answer (λ size. events_of_message (dictionary_written dictionary_text words size) text layout fields events verdicts) events)
      (read_space answer (λ size. verdicts_of_message (dictionary_written dictionary_text words size) text layout fields events verdicts) verdicts)
  held-by_dictionary (Err refusal) = tt
  held-by_dictionary (Ok size) = held-message (dictionary_written dictionary_text words size) text layout fields events verdicts

  pub held-list : Held (list_of dictionary_text text words layout fields events verdicts) text (events_of dictionary_text text words layout fields events verdicts)
      (verdicts_of dictionary_text text words layout fields events verdicts)
  unfolding list_of events_of verdicts_of
  held-list = held-by_dictionary (read_of dictionary_text (length words))
