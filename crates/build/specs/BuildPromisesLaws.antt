-- Laws of `BuildPromises.antt`, and the steps of the functions of src/build.rt: the line that opens the header or the trailer, the three bodies of the message
-- level one behind the other, and the choice of the message. Assumes nothing.
use Rattle.std.specs.Prelude.{◌≡◌, Bool, cond, not, ◌&&◌, ◌||◌, eqb, length, get_or, take, drop, Option, Some, None, Result, Ok, Err}
use Rattle.std.proofs.Math.Path.{refl, sym, ap}
use Rattle.std.specs.List.{position, position_or_len}
use Rattle.std.proofs.Math.Seq.{take-length}
use Rattle.std.specs.List.Sorted.{IsPartitionedBy, IsPartitionPoint}
use Rattle.std.proofs.Common.{◌∙◌, arith, add-one, drop-cons, get_or-take, get_or-drop, length-drop, lt-ltb}
use Prim.Native.Nat.{ℕ, suc, ◌+◌, ◌-◌, ◌*◌, ◌≤◌, ◌<◌}
use Rattle.std.proofs.Math.Bool.{true, false}
use Rattle.std.proofs.lemmas.Bool.{false≢true}
use mathlib.Core.List.{List, [], ◌∷◌}
use Rattle.refusals.specs.declared.refusal.Refusal.{Refusal}
use Rattle.refusals.specs.declared.refusal.Refusal.TheVariants.{TypeNotDefined}
use Rattle.line_forms.specs.declared.line.Line.{Line}
use Rattle.line_forms.specs.declared.line.Line.TheVariants.{Def, Value, BeginHeader, BeginTrailer, EndHeader, EndTrailer, Component, Message, Field, Group, Use, End, Member, RequiredTag, Unknown}
use Rattle.lines.specs.LineParts.{message_type_of}
use Rattle.layouts.specs.Limits.{gate_limits}
use Rattle.records.specs.Records.{record_of, Words32}
use Rattle.dictionary.specs.DictionaryWords.{is_of, name_of, place_of, word_lines}
use Rattle.dictionary.specs.DictionaryCheck.{stands_at, is_dictionary}
use Rattle.dictionary.specs.DictionaryRecords.{records_in, length-first_chunks, record_numbered}
use Rattle.definitions.specs.Definitions as Words
use Rattle.expansion.specs.declared.builder.Builder as Code
use Rattle.expansion.specs.declared.builder.Stop.{Stop}
use Rattle.expansion.specs.declared.builder.Stop.TheVariants.{Error, NoRoom}
use Rattle.expansion.specs.Dictionary.{Body, uses_of}
use Rattle.bodies.specs.AcceptedPlaces.{is_definition, place-behind}
use Rattle.bodies.specs.DictionaryInWords.{dictionary_in}
use Rattle.definitions.specs.WordLinesLaws.{lines-counted}
use Rattle.bodies.specs.DictionaryLookups.{body_at, kind_at, stands-line, definitions-first, header-comes, trailer-comes, Begins, header-begins, trailer-begins, message-found, message-missing}
use Rattle.expansion.specs.Expansion.{Work, Builder, OpenLevel, empty_level, nothing_spent, each_use, add_envelope, add_message, build, outcome_of, expand_of, Expanded, finish}
use Rattle.expansion.specs.Expansion as Definition
use Rattle.expansion.specs.Trace.{First, run, Fits, Grows, Adds}
use Rattle.expansion.specs.TraceLaws.{adds_then, adds-stops, grows_then, done-grown, stopped_grows}
use Rattle.bodies.specs.FillLaws.{first-fill}
use Rattle.bodies.specs.ExpansionPromises.{fill_at, Uses}
use Rattle.build.specs.BuildPromises.{built_of, top_frame, Built, Traced}

-- ---- header_of: the definitions stand before the line that opens the header, and none after it

-- the record defines a tag or a value that it admits
abbrev pub defines : List ℕ → Bool
defines one = eqb (get_or one 0 0) 1 || eqb (get_or one 0 0) 2

module _ (words : List ℕ) (small : Words32 words) (passed : is_dictionary words ≡ true) where
  defines-line : (number : ℕ) (other : List ℕ) → number < get_or words 0 0
      → defines (get_or (records_in words) number other) ≡ is_definition (get_or (word_lines words) number Unknown)
  unfolding is_of
  defines-line number other inside =
      let here : 4 + 10 * number + 0 ≡ 4 + 10 * number = omega arith in
      rw (
        record_numbered words number other inside,
        get_or-take 10 (drop (4 + 10 * number) words) 0 0 (omega arith),
        get_or-drop (4 + 10 * number) words 0 0,
        here,
        kind_at words small passed number inside,
      ) refl

  defines-before : (number : ℕ) (other : List ℕ) → number < place_of 3 0 (word_lines words) → defines (get_or (records_in words) number other) ≡ true
  defines-before number other before =
      defines-line number other (omega (arith, header-comes words small passed)) ∙ (definitions-first words small passed).before_it number before

  defines-behind : (number : ℕ) (other : List ℕ) → place_of 3 0 (word_lines words) ≤ number → number < get_or words 0 0
      → defines (get_or (records_in words) number other) ≡ false
  defines-behind number other behind inside =
      defines-line number other inside ∙ (definitions-first words small passed).behind_it number behind (omega (arith, lines-counted words))

  header-parted : IsPartitionedBy defines (records_in words)
  header-parted first second other low inside there =
      let before : place_of 3 0 (word_lines words) ≤ second → ⊥ = λ behind.
      false≢true (sym (defines-behind second other behind (omega (arith, length-first_chunks (get_or words 0 0) (drop 4 words)))) ∙ there) in
      defines-before first other (omega (arith, before))

  header-found : (place : ℕ) → place ≤ length (records_in words)
      → IsPartitionPoint (λ one. defines one ≡ true) (λ one. defines one ≡ false) (records_in words) place
      → place ≡ place_of 3 0 (word_lines words)
  header-found place inside point =
      let count = length-first_chunks (get_or words 0 0) (drop 4 words) in
      let above : place < place_of 3 0 (word_lines words) → ⊥ = λ less.
      false≢true (sym (point.1 place [] (omega arith) (omega (arith, count, header-comes words small passed))) ∙ defines-before place [] less) in
      let below : place_of 3 0 (word_lines words) < place → ⊥ = λ more.
      false≢true (sym (defines-behind (place_of 3 0 (word_lines words)) [] (omega arith) (header-comes words small passed)) ∙ point.0 (place_of 3 0 (word_lines words)) [] (omega arith) more) in
      omega (arith, above, below)

  pub header-lent : (records : List (List ℕ)) (place : ℕ) → records ≡ records_in words → place ≤ length records
      → (IsPartitionedBy defines records → IsPartitionPoint (λ one. defines one ≡ true) (λ one. defines one ≡ false) records place)
      → place ≡ place_of 3 0 (word_lines words)
  header-lent records place are inside point = header-found place (rw are at inside) (rw are at (point (rw are header-parted)))

-- ---- trailer_of: the first record behind the header's that opens the trailer

-- the record opens the trailer
abbrev pub opens : List ℕ → Bool
opens one = eqb (get_or one 0 0) 4

opens-end : (number : Option ℕ) (letters : Option ℕ) → opens (record_of (End number letters)) ≡ (is_of 4 (End number letters) && eqb (name_of (End number letters)) 0)
unfolding is_of name_of record_of
opens-end number (Some letters) = refl
opens-end (Some number) None = refl
opens-end None None = refl

opens-line : (line : Line) → opens (record_of line) ≡ (is_of 4 line && eqb (name_of line) 0)
unfolding is_of name_of record_of
opens-line (Def tag place) = refl
opens-line (Value admitted) = refl
opens-line BeginHeader = refl
opens-line BeginTrailer = refl
opens-line EndHeader = refl
opens-line EndTrailer = refl
opens-line (Component name) = refl
opens-line (Message letters app) = refl
opens-line (Field tag required) = refl
opens-line (Group count delimiter required) = refl
opens-line (Use name required) = refl
opens-line (End number letters) = opens-end number letters
opens-line (Member tag) = refl
opens-line (RequiredTag tag) = refl
opens-line Unknown = refl

-- the first record that passes the test stands where the line does
position-by : (test here : Bool) (place count : ℕ) → test ≡ here → count ≡ place → cond (not test) (1 + count) 0 ≡ cond here 0 (suc place)
position-by true true place count same more = refl
position-by false false place count same more = let next : 1 + count ≡ suc count = omega arith in next ∙ ap suc more
position-by true false place count same more = absurd (false≢true (sym same))
position-by false true place count same more = absurd (false≢true same)

place-position : (records : List (List ℕ)) (lines : List Line) → length records ≡ length lines
    → ((place : ℕ) → place < length records → opens (get_or records place []) ≡ (is_of 4 (get_or lines place Unknown) && eqb (name_of (get_or lines place Unknown)) 0))
    → position_or_len opens records ≡ place_of 4 0 lines
unfolding place_of
place-position [] [] count same = refl
place-position (one ∷ rest) [] count same = absurd (omega (arith, count))
place-position [] (line ∷ others) count same = absurd (omega (arith, count))
place-position (one ∷ rest) (line ∷ others) count same =
    position-by (opens one) (is_of 4 line && eqb (name_of line) 0) (place_of 4 0 others) (position_or_len opens rest) (same 0 (omega arith))
    (place-position rest others (omega (arith, count)) (λ place inside. same (suc place) (omega arith)))

module _ (words : List ℕ) (small : Words32 words) (passed : is_dictionary words ≡ true) (header : ℕ) (is-header : header ≡ place_of 3 0 (word_lines words)) where
  trailer-ahead : place_of 4 0 (word_lines words) ≡ header + place_of 4 0 (drop header (word_lines words))
  trailer-ahead =
      rw is-header
      (place-behind 4 0 (word_lines words) (place_of 3 0 (word_lines words)) (omega arith) (omega (arith, header-comes words small passed, lines-counted words))
      (definitions-first words small passed).before_it)

  pub header-within : header ≤ get_or words 0 0
  header-within = omega (arith, is-header, header-comes words small passed)

  opens-behind : (place : ℕ) → header + place < get_or words 0 0
      → opens (get_or (drop header (records_in words)) place [])
      ≡ (is_of 4 (get_or (drop header (word_lines words)) place Unknown) && eqb (name_of (get_or (drop header (word_lines words)) place Unknown)) 0)
  opens-behind place inside =
      let here : 4 + 10 * (header + place) + 0 ≡ 4 + 10 * (header + place) = omega arith in
      rw (
        get_or-drop header (records_in words) place [],
        get_or-drop header (word_lines words) place Unknown,
        record_numbered words (header + place) [] inside,
        get_or-take 10 (drop (4 + 10 * (header + place)) words) 0 0 (omega arith),
        get_or-drop (4 + 10 * (header + place)) words 0 0,
        here,
        kind_at words small passed (header + place) inside,
      )
      (opens-line (get_or (word_lines words) (header + place) Unknown))

  trailer-position : position_or_len opens (drop header (records_in words)) ≡ place_of 4 0 (drop header (word_lines words))
  trailer-position =
      let count = length-first_chunks (get_or words 0 0) (drop 4 words) in
      place-position (drop header (records_in words)) (drop header (word_lines words))
      (omega (arith, length-drop header (records_in words), length-drop header (word_lines words), count, lines-counted words))
      (λ place inside. opens-behind place (omega (arith, length-drop header (records_in words), count)))

  pub trailer-lent : (lent : List (List ℕ)) → lent ≡ records_in words
      → (position opens (take (length lent - header) (drop header lent)) ≡ Some (place_of 4 0 (drop header (word_lines words)))) × (header + place_of 4 0 (drop header (word_lines words)) ≡ place_of 4 0 (word_lines words))
  trailer-lent lent are =
      let all : take (length lent - header) (drop header lent) ≡ drop header (records_in words) = rw (← length-drop header lent) (take-length (drop header lent)) ∙ ap (drop header) are in
      let count = length-first_chunks (get_or words 0 0) (drop 4 words) in
      let there : place_of 4 0 (drop header (word_lines words)) < length (drop header (records_in words)) = omega (arith, length-drop header (records_in words), count, trailer-ahead, trailer-comes words small passed) in
      (rw (all, trailer-position, lt-ltb _ _ there), sym trailer-ahead)

  abbrev told : Option ℕ → ℕ
  told (Some place) = place
  told None = 0

  pub trailer-found : (lent : List (List ℕ)) → lent ≡ records_in words → (found : ℕ) → position opens (take (length lent - header) (drop header lent)) ≡ Some found
      → header + found ≡ place_of 4 0 (word_lines words)
  trailer-found lent are found is =
      let same : place_of 4 0 (drop header (word_lines words)) ≡ found = ap told (sym (trailer-lent lent are).0 ∙ is) in
      ap (λ (place : ℕ). header + place) (sym same) ∙ (trailer-lent lent are).1

-- ---- build: the header, the trailer and the message

-- a body of the message level
abbrev top_fill : List ℕ → ℕ → Work → Work
top_fill words line = fill_at words 33 [] true (line + 1)

-- a body without uses is added as the header and the trailer are
envelope_is : (words : List ℕ) (line : ℕ) (body : Body)
    → body ≡ body_at (word_lines words) (line + 1)
    → uses_of (body_at (word_lines words) (line + 1)) ≡ []
    → (work : Work) → top_fill words line work ≡ add_envelope gate_limits (dictionary_in words) body work
unfolding each_use
envelope_is words line body same none work = rw (same, none) refl

first-top : (words : List ℕ) (line : ℕ) (refusal : Refusal) (work : Work) → First refusal work.builder → First refusal (top_fill words line work).builder
first-top words line refusal work first = first-fill gate_limits refusal (dictionary_in words) 33 [] true true (body_at (word_lines words) (line + 1)) work first

abbrev pub nothing_added : Code.Builder
nothing_added = record { nodes = 0; members = 0; required = 0; len = 0 }

pub nothing-fits : Fits nothing_added
nothing-fits = record { nodes = omega arith; members = omega arith; required = omega arith; len = omega arith }

module _ (words : List ℕ) (small : Words32 words) (passed : is_dictionary words ≡ true) (header trailer message : ℕ)
    (is-header : header ≡ place_of 3 0 (word_lines words)) (is-trailer : trailer ≡ place_of 4 0 (word_lines words)) where
  -- the three bodies, one behind the other
  abbrev all_three : Work → Work
  all_three work = top_fill words message (top_fill words trailer (top_fill words header work))

  all-is : all_three (record { builder = nothing_spent; level = empty_level }) ≡ built_of words message
  unfolding build
  all-is =
      let first = header-begins words small passed header is-header in
      let second = trailer-begins words small passed trailer is-trailer in
      ap (λ (work : Work). top_fill words message (top_fill words trailer work))
      (envelope_is words header (dictionary_in words).header first.1.0 first.1.1 (record { builder = nothing_spent; level = empty_level }))
      ∙ ap (top_fill words message)
      (envelope_is words trailer (dictionary_in words).trailer second.1.0 second.1.1
      (add_envelope gate_limits (dictionary_in words) (dictionary_in words).header (record { builder = nothing_spent; level = empty_level })))

  built-by : (before after : List ℕ) (added : Result Code.Builder Stop) → Adds all_three nothing_added before added after → Grows nothing_added added → Built words message added after
  unfolding Adds Grows Built run
  built-by before after (Ok builder) adds grows =
      let start = adds (top_frame empty_level) [] refl in
      (rw (← all-is) start.0, (rw (← all-is) start.1, grows.fits))
  built-by before after (Err stop) adds grows = rw (← all-is) (adds (top_frame empty_level) [] refl)

  module _ (before first : List ℕ) where
    pub built-header_over : (stop : Stop)
        → Uses (fill_at words 33 [] true (header + 1)) nothing_added before (Err stop) first
        → Built words message (Err stop) first
    built-header_over stop over =
        built-by before first (Err stop)
        (adds-stops (top_fill words header) (λ work. top_fill words message (top_fill words trailer work)) nothing_added before first stop over.adds
        (λ refusal work met. first-top words message refusal (top_fill words trailer work) (first-top words trailer refusal work met)))
        (stopped_grows nothing_added stop)

    module _ (head : Code.Builder) (has-header : Uses (fill_at words 33 [] true (header + 1)) nothing_added before (Ok head) first) where
      pub built-trailer_over : (stop : Stop) (second : List ℕ)
          → Uses (fill_at words 33 [] true (trailer + 1)) head first (Err stop) second
          → Built words message (Err stop) second
      built-trailer_over stop second over =
          built-by before second (Err stop)
          (adds_then (top_fill words header) (λ work. top_fill words message (top_fill words trailer work)) nothing_added before first head (Err stop) second
          has-header.adds
          (adds-stops (top_fill words trailer) (top_fill words message) head first second stop over.adds
          (λ refusal work met. first-top words message refusal work met)))
          (stopped_grows nothing_added stop)

      pub built-message : (envelope : Code.Builder) (second after : List ℕ) (added : Result Code.Builder Stop)
          → Uses (fill_at words 33 [] true (trailer + 1)) head first (Ok envelope) second
          → Uses (fill_at words 33 [] true (message + 1)) envelope second added after
          → Built words message added after
      built-message envelope second after added has-trailer last =
          built-by before after added
          (adds_then (top_fill words header) (λ work. top_fill words message (top_fill words trailer work)) nothing_added before first head added after
          has-header.adds
          (adds_then (top_fill words trailer) (top_fill words message) head first second envelope added after has-trailer.adds last.adds))
          (grows_then nothing_added head added (done-grown nothing_added head has-header.grows)
          (grows_then head envelope added (done-grown head envelope has-trailer.grows) last.grows))

-- ---- the message of a type

module _ (words : List ℕ) (small : Words32 words) (passed : is_dictionary words ≡ true) (value : List ℕ) where
  message-begins_by : (type : Option ℕ) (number : ℕ)
      → Words.message_with words type ≡ Some number
      → Begins words number
      × (Definition.on_type gate_limits (dictionary_in words) (dictionary_in words) type ≡ outcome_of (built_of words number))
  message-begins_by (Some letters) number there =
      let found = message-found words small passed letters number there in
      (found.0, ap (Definition.on_message gate_limits (dictionary_in words) (dictionary_in words)) found.1)
  message-begins_by None number there = let never : ◌≡◌ {A = ℕ} 0 1 = cc in absurd (omega arith)

  message-none_by : (type : Option ℕ)
      → Words.message_with words type ≡ None
      → Definition.on_type gate_limits (dictionary_in words) (dictionary_in words) type ≡ Definition.Refused TypeNotDefined
  message-none_by (Some letters) missing =
      ap (Definition.on_message gate_limits (dictionary_in words) (dictionary_in words)) (message-missing words small passed letters missing)
  message-none_by None missing = refl

  pub message-begins : (number : ℕ) → Words.message_of words value ≡ Some number → Begins words number
  unfolding Words.message_of
  message-begins number there = (message-begins_by (message_type_of value) number there).0

  pub traced_undefined : (trace : List ℕ) → Words.message_of words value ≡ None → Traced words value (Err (Error TypeNotDefined)) trace
  unfolding Words.message_of Traced expand_of
  traced_undefined trace missing = message-none_by (message_type_of value) missing

  pub traced_built : (number : ℕ) (added : Result Code.Builder Stop) (trace : List ℕ)
      → Words.message_of words value ≡ Some number
      → Built words number added trace
      → Traced words value added trace
  unfolding Words.message_of Traced Built expand_of outcome_of
  traced_built number (Ok builder) trace there built = (
    (built_of words number).level,
    (
      built.0,
      (
        (message-begins_by (message_type_of value) number there).1
            ∙ ap (λ (shared : Builder). Definition.answered shared.errors (record { builder = shared; level = (built_of words number).level })) built.1.0,
        built.1.1,
      ),
    ),
  )
  traced_built number (Err NoRoom) trace there built = built
  traced_built number (Err (Error refusal)) trace there built =
      (message-begins_by (message_type_of value) number there).1
      ∙ ap (λ (errors : List Refusal). Definition.answered errors (built_of words number)) built.1
