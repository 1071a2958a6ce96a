-- What is looked up in a dictionary's words (crate definitions, `Definitions.antt`), as places among its lines and bodies of its tree: words that pass the
-- check tell lines that are in order, the number that an index gives a name is the place of its line, and the body behind that line is the one
-- that the tree has under that name. Assumes nothing.
--
--   body_at lines place, around_at lines place   what is left of the innermost body that is open at the place, and of those around it
--   BodyAt lines place           a body is open there
--   placed_body lines place       the body that begins behind the line at this place; none where the place is behind the last line
use Rattle.std.specs.Prelude.{◌≡◌, Bool, ◌&&◌, cond, ◌⊎◌, ltb, length, get_or, Option, Some, None}
use Rattle.std.proofs.Math.Path.{refl}
use Rattle.std.proofs.Common.{sym, ap, ◌∙◌, inl, inr}
use Prim.Native.Nat.{ℕ, suc, ◌+◌, ◌*◌, ◌≤◌, ◌<◌}
use Rattle.std.proofs.Math.Bool.{true, false}
use mathlib.Core.List.{List, [], ◌∷◌}
use native.Mathlib.Omega.{arith}
use Rattle.std.proofs.Math.Dec.{eqb}
use borrow.Author.Tests.{ltb-true, ltb-false, lt-ltb, le-ltb, eqb-true}
use Rattle.ascii.specs.Notation.{◌<ᵇ◌}
use Rattle.line_forms.specs.declared.line.Line.{Line}
use Rattle.line_forms.specs.declared.line.Line.TheVariants.{Def, Value, BeginHeader, BeginTrailer, EndHeader, EndTrailer, Component, Message, Field, Group, Use, End, Member, RequiredTag, Unknown}
use Rattle.records.specs.Records.{record_of, Words32}
use Rattle.dictionary.specs.DictionaryWords.{is_of, name_of, place_of, word_lines}
use Rattle.dictionary.specs.DictionaryCheck.{stands_at, components_at, messages_at, is_dictionary}
use Rattle.definitions.specs.Definitions as Words
use Rattle.definitions.specs.DefinitionsLaws.{is_dictionary-parts}
use Rattle.definitions.specs.DefinitionsLaws as Passed
use Rattle.definitions.specs.WordLinesLaws.{lines-counted, less_suc, placed_at, word_at, record_in-line}
use Rattle.expansion.specs.Dictionary.{Body, Blocks, Dictionary, FoundBody, nothing_read, uses_of, innermost, around_it, before, blocks_of, dictionary_of, body_called, component_of, message_of}
use Rattle.expansion.specs.Dictionary as Tree
use Rattle.bodies.specs.DictionaryInWords.{dictionary_in}
use Rattle.bodies.specs.DictionaryPlaces.{open_at, OneBody, InOrder, InPlace, in_place}
use Rattle.bodies.specs.AcceptedPlaces.{Parted, accepted-order, accepted-parted, accepted-header, accepted-trailer}

abbrev pub body_at : List Line → ℕ → Body
body_at lines place = innermost (open_at lines place)

abbrev pub around_at : List Line → ℕ → List Body
around_at lines place = around_it (open_at lines place)

abbrev pub BodyAt : List Line → ℕ → Type 0
BodyAt lines place = open_at lines place ≡ body_at lines place ∷ around_at lines place

-- ---- the body behind a line

-- an answer that the first line of a kind and a name decides: it is given by the body that begins behind that line
module _ {Answer : Type 0} (kind name : ℕ) (answer : Dictionary → Answer) (given : Body → Answer)
    (first : (line : Line) (blocks : Blocks)
    → answer (before line blocks).whole ≡ cond (is_of kind line && eqb (name_of line) name) (given (innermost blocks.opened)) (answer blocks.whole)) where
  decided-by : (line : Line) (rest : List Line) (test : Bool)
      → answer (blocks_of rest).whole
      ≡ cond (place_of kind name rest <ᵇ length rest) (given (body_at rest (place_of kind name rest + 1))) (answer nothing_read.whole)
      → cond test (given (innermost (blocks_of rest).opened)) (answer (blocks_of rest).whole)
      ≡ cond (cond test 0 (suc (place_of kind name rest)) <ᵇ suc (length rest)) (given (body_at (line ∷ rest) (cond test 0 (suc (place_of kind name rest)) + 1)))
      (answer nothing_read.whole)
  unfolding open_at
  decided-by line rest true behind = rw (lt-ltb 0 (suc (length rest)) (omega arith)) refl
  decided-by line rest false behind =
      let shift : suc (place_of kind name rest) + 1 ≡ suc (place_of kind name rest + 1) = omega arith in
      rw (← less_suc (place_of kind name rest) (length rest), shift) behind

  pub decided : (lines : List Line)
      → answer (dictionary_of lines)
      ≡ cond (place_of kind name lines <ᵇ length lines) (given (body_at lines (place_of kind name lines + 1))) (answer nothing_read.whole)
  unfolding dictionary_of blocks_of place_of
  decided [] = refl
  decided (line ∷ rest) = first line (blocks_of rest) ∙ decided-by line rest (is_of kind line && eqb (name_of line) name) (decided rest)

  pub decided-inside : (lines : List Line) → place_of kind name lines < length lines → answer (dictionary_of lines) ≡ given (body_at lines (place_of kind name lines + 1))
  decided-inside lines inside = decided lines ∙ rw (lt-ltb (place_of kind name lines) (length lines) inside) refl

  pub decided-outside : (lines : List Line) → length lines ≤ place_of kind name lines → answer (dictionary_of lines) ≡ answer nothing_read.whole
  decided-outside lines outside = decided lines ∙ rw (le-ltb (place_of kind name lines) (length lines) outside) refl

-- ---- components, messages, the header and the trailer

components-end : (name : ℕ) (number : Option ℕ) (letters : Option ℕ) (blocks : Blocks)
    → component_of (before (End number letters) blocks).whole name
    ≡ cond (is_of 5 (End number letters) && eqb (name_of (End number letters)) name) (Tree.Found (innermost blocks.opened)) (component_of blocks.whole name)
unfolding is_of record_of
components-end name read_number (Some letters) blocks = refl
components-end name (Some number) None blocks = refl
components-end name None None blocks = refl

components-first : (name : ℕ) (line : Line) (blocks : Blocks)
    → component_of (before line blocks).whole name
    ≡ cond (is_of 5 line && eqb (name_of line) name) (Tree.Found (innermost blocks.opened)) (component_of blocks.whole name)
unfolding is_of name_of record_of body_called
components-first name (Def tag place) blocks = refl
components-first name (Value admitted) blocks = refl
components-first name BeginHeader blocks = refl
components-first name BeginTrailer blocks = refl
components-first name EndHeader blocks = refl
components-first name EndTrailer blocks = refl
components-first name (Component other) blocks = refl
components-first name (Message letters app) blocks = refl
components-first name (Field tag required) blocks = refl
components-first name (Group count delimiter required) blocks = refl
components-first name (Use other required) blocks = refl
components-first name (Member tag) blocks = refl
components-first name (RequiredTag tag) blocks = refl
components-first name Unknown blocks = refl
components-first name (End number letters) blocks = components-end name number letters blocks

messages-end : (name : ℕ) (number : Option ℕ) (letters : Option ℕ) (blocks : Blocks)
    → message_of (before (End number letters) blocks).whole name
    ≡ cond (is_of 6 (End number letters) && eqb (name_of (End number letters)) name) (Tree.Found (innermost blocks.opened)) (message_of blocks.whole name)
unfolding is_of record_of
messages-end name read_number (Some letters) blocks = refl
messages-end name (Some number) None blocks = refl
messages-end name None None blocks = refl

messages-first : (name : ℕ) (line : Line) (blocks : Blocks)
    → message_of (before line blocks).whole name
    ≡ cond (is_of 6 line && eqb (name_of line) name) (Tree.Found (innermost blocks.opened)) (message_of blocks.whole name)
unfolding is_of name_of record_of body_called
messages-first name (Def tag place) blocks = refl
messages-first name (Value admitted) blocks = refl
messages-first name BeginHeader blocks = refl
messages-first name BeginTrailer blocks = refl
messages-first name EndHeader blocks = refl
messages-first name EndTrailer blocks = refl
messages-first name (Component other) blocks = refl
messages-first name (Message letters app) blocks = refl
messages-first name (Field tag required) blocks = refl
messages-first name (Group count delimiter required) blocks = refl
messages-first name (Use other required) blocks = refl
messages-first name (Member tag) blocks = refl
messages-first name (RequiredTag tag) blocks = refl
messages-first name Unknown blocks = refl
messages-first name (End number letters) blocks = messages-end name number letters blocks

header-end : (number : Option ℕ) (letters : Option ℕ) (blocks : Blocks)
    → (before (End number letters) blocks).whole.header
    ≡ cond (is_of 3 (End number letters) && eqb (name_of (End number letters)) 0) (innermost blocks.opened) blocks.whole.header
unfolding is_of record_of
header-end read_number (Some letters) blocks = refl
header-end (Some number) None blocks = refl
header-end None None blocks = refl

header-first : (line : Line) (blocks : Blocks)
    → (before line blocks).whole.header ≡ cond (is_of 3 line && eqb (name_of line) 0) (innermost blocks.opened) blocks.whole.header
unfolding is_of name_of record_of
header-first (Def tag place) blocks = refl
header-first (Value admitted) blocks = refl
header-first BeginHeader blocks = refl
header-first BeginTrailer blocks = refl
header-first EndHeader blocks = refl
header-first EndTrailer blocks = refl
header-first (Component other) blocks = refl
header-first (Message letters app) blocks = refl
header-first (Field tag required) blocks = refl
header-first (Group count delimiter required) blocks = refl
header-first (Use other required) blocks = refl
header-first (Member tag) blocks = refl
header-first (RequiredTag tag) blocks = refl
header-first Unknown blocks = refl
header-first (End number letters) blocks = header-end number letters blocks

trailer-end : (number : Option ℕ) (letters : Option ℕ) (blocks : Blocks)
    → (before (End number letters) blocks).whole.trailer
    ≡ cond (is_of 4 (End number letters) && eqb (name_of (End number letters)) 0) (innermost blocks.opened) blocks.whole.trailer
unfolding is_of record_of
trailer-end read_number (Some letters) blocks = refl
trailer-end (Some number) None blocks = refl
trailer-end None None blocks = refl

trailer-first : (line : Line) (blocks : Blocks)
    → (before line blocks).whole.trailer ≡ cond (is_of 4 line && eqb (name_of line) 0) (innermost blocks.opened) blocks.whole.trailer
unfolding is_of name_of record_of
trailer-first (Def tag place) blocks = refl
trailer-first (Value admitted) blocks = refl
trailer-first BeginHeader blocks = refl
trailer-first BeginTrailer blocks = refl
trailer-first EndHeader blocks = refl
trailer-first EndTrailer blocks = refl
trailer-first (Component other) blocks = refl
trailer-first (Message letters app) blocks = refl
trailer-first (Field tag required) blocks = refl
trailer-first (Group count delimiter required) blocks = refl
trailer-first (Use other required) blocks = refl
trailer-first (Member tag) blocks = refl
trailer-first (RequiredTag tag) blocks = refl
trailer-first Unknown blocks = refl
trailer-first (End number letters) blocks = trailer-end number letters blocks

-- ---- a body is open behind a line that opens a block

place-kind_by : (kind name : ℕ) (line : Line) (rest : List Line) (of' same : Bool)
    → is_of kind line ≡ of'
    → (place_of kind name rest < length rest → is_of kind (get_or rest (place_of kind name rest) Unknown) ≡ true)
    → cond (of' && same) 0 (suc (place_of kind name rest)) < suc (length rest)
    → is_of kind (get_or (line ∷ rest) (cond (of' && same) 0 (suc (place_of kind name rest))) Unknown) ≡ true
place-kind_by kind name line rest true true test behind inside = test
place-kind_by kind name line rest true false test behind inside = behind (omega arith)
place-kind_by kind name line rest false same test behind inside = behind (omega arith)

place-kind : (kind name : ℕ) (lines : List Line) → place_of kind name lines < length lines → is_of kind (get_or lines (place_of kind name lines) Unknown) ≡ true
unfolding place_of
place-kind kind name [] inside = absurd (omega arith)
place-kind kind name (line ∷ rest) inside = place-kind_by kind name line rest (is_of kind line) (eqb (name_of line) name) refl (place-kind kind name rest) inside

module _ (kind : ℕ) (opened : List Body) (from : 3 ≤ kind) (to : kind ≤ 6) where
  Opening : Type 0
  Opening = OneBody opened × (kind ≤ 4 → uses_of (innermost opened) ≡ [])

  other_kind : (number : ℕ) → (number < 3) ⊎ (6 < number) → eqb number kind ≡ true → Opening
  other_kind number (inl below) test = let same = eqb-true number kind test in absurd (omega arith)
  other_kind number (inr above) test = let same = eqb-true number kind test in absurd (omega arith)

  end-opens : (number : Option ℕ) (letters : Option ℕ) → is_of kind (End number letters) ≡ true → Opening
  unfolding is_of record_of
  end-opens read_number (Some letters) test = other_kind 12 (inr (omega arith)) test
  end-opens (Some number) None test = other_kind 13 (inr (omega arith)) test
  end-opens None None test = other_kind 0 (inl (omega arith)) test

  opening : (line : Line) → is_of kind line ≡ true → InPlace line opened → Opening
  unfolding Opening is_of record_of
  opening (Def tag place) test stands = other_kind 1 (inl (omega arith)) test
  opening (Value admitted) test stands = other_kind 2 (inl (omega arith)) test
  opening BeginHeader test stands = (stands.0, λ envelope. stands.1)
  opening BeginTrailer test stands = (stands.0, λ envelope. stands.1)
  opening (Component name) test stands = (stands, λ envelope. let same = eqb-true 5 kind test in absurd (omega arith))
  opening (Message letters app) test stands = (stands, λ envelope. let same = eqb-true 6 kind test in absurd (omega arith))
  opening (Field tag required) test stands = other_kind 7 (inr (omega arith)) test
  opening (Group count delimiter required) test stands = other_kind 8 (inr (omega arith)) test
  opening (Use name required) test stands = other_kind 9 (inr (omega arith)) test
  opening EndHeader test stands = other_kind 10 (inr (omega arith)) test
  opening EndTrailer test stands = other_kind 11 (inr (omega arith)) test
  opening (End number letters) test stands = end-opens number letters test
  opening (Member tag) test stands = other_kind 0 (inl (omega arith)) test
  opening (RequiredTag tag) test stands = other_kind 0 (inl (omega arith)) test
  opening Unknown test stands = other_kind 0 (inl (omega arith)) test

  opening-one : Opening → OneBody opened
  unfolding Opening
  opening-one opens = opens.0

  opening-uses : kind ≤ 4 → Opening → uses_of (innermost opened) ≡ []
  unfolding Opening
  opening-uses envelope opens = opens.1 envelope

pub body-there : (opened : List Body) (body : Body) (around : List Body) → opened ≡ body ∷ around → opened ≡ innermost opened ∷ around_it opened
body-there opened body around same = same ∙ sym (ap (λ (each : List Body). innermost each ∷ around_it each) same)

-- ---- words that pass the check

placed-at_by : (count place number : ℕ) (test : Bool) → ltb place count ≡ test → cond test (Some place) None ≡ Some number → (place < count) × (place ≡ number)
placed-at_by count place number true test there = (ltb-true place count test, cc)
placed-at_by count place number false test there = let never : ◌≡◌ {A = ℕ} 0 1 = cc in absurd (omega arith)

placed-nothing_by : (count place : ℕ) (test : Bool) → ltb place count ≡ test → cond test (Some place) None ≡ None → count ≤ place
placed-nothing_by count place true test missing = let never : ◌≡◌ {A = ℕ} 0 1 = cc in absurd (omega arith)
placed-nothing_by count place false test missing = ltb-false place count test

-- a body begins behind the line at this place
pub record Begins (words : List ℕ) (place : ℕ) : Type 0 where
  pub inside : place < get_or words 0 0
  pub there : BodyAt (word_lines words) (place + 1)

module _ (words : List ℕ) (small : Words32 words) (passes : is_dictionary words ≡ true) where
  abbrev lines : List Line
  lines = word_lines words

  abbrev known : Passed.Dictionary words
  known = is_dictionary-parts words passes

  pub lines-in_order : InOrder (word_lines words)
  lines-in_order = accepted-order lines known.accepted

  pub kind_at : (number : ℕ) → number < get_or words 0 0 → get_or words (4 + 10 * number) 0 ≡ get_or (record_of (get_or (word_lines words) number Unknown)) 0 0
  kind_at number inside =
      let same : 4 + 10 * number + 0 ≡ 4 + 10 * number = omega arith in
      ap (λ (at : ℕ). get_or words at 0) (sym same) ∙ word_at words small passes number 0 inside (omega arith)

  -- the record with a number is that of the line at this place
  pub stands-line : (kind name number : ℕ) → number < get_or words 0 0
      → stands_at kind name number words ≡ (is_of kind (get_or (word_lines words) number Unknown) && eqb (name_of (get_or (word_lines words) number Unknown)) name)
  unfolding stands_at is_of name_of
  stands-line kind name number inside =
      rw (lt-ltb number (get_or words 0 0) inside, kind_at number inside, word_at words small passes number 1 inside (omega arith)) refl

  begins : (kind name : ℕ) → 3 ≤ kind → kind ≤ 6 → place_of kind name lines < length lines → BodyAt lines (place_of kind name lines + 1)
  begins kind name from to inside =
      let place = place_of kind name lines in
      let opens =
      opening kind (open_at lines (place + 1)) from to (get_or lines place Unknown) (place-kind kind name lines inside) (in_place lines place lines-in_order inside) in
      let one = opening-one kind (open_at lines (place + 1)) from to opens in
      body-there (open_at lines (place + 1)) one.0 [] one.1

  no_uses : (kind name : ℕ) → 3 ≤ kind → kind ≤ 4 → place_of kind name lines < length lines → uses_of (body_at lines (place_of kind name lines + 1)) ≡ []
  no_uses kind name from to inside =
      let place = place_of kind name lines in
      let high : kind ≤ 6 = omega arith in
      opening-uses kind (open_at lines (place + 1)) from high to
      (opening kind (open_at lines (place + 1)) from high (get_or lines place Unknown) (place-kind kind name lines inside) (in_place lines place lines-in_order inside))

  found_at : (kind name number : ℕ) (found : Option ℕ)
      → 3 ≤ kind
      → kind ≤ 6
      → found ≡ placed_at lines (place_of kind name lines)
      → found ≡ Some number
      → Begins words number × (place_of kind name lines ≡ number)
  found_at kind name number found from to placed there =
      let place = placed-at_by (length lines) (place_of kind name lines) number (place_of kind name lines <ᵇ length lines) refl (sym placed ∙ there) in
      let same : place_of kind name lines ≡ number = place.1 in (
        record {
          inside = omega (arith, place.0, lines-counted words);
          there = rw same at (begins kind name from to place.0);
        },
        same,
      )

  missing_at : (kind name : ℕ) (found : Option ℕ) → found ≡ placed_at lines (place_of kind name lines) → found ≡ None → length lines ≤ place_of kind name lines
  missing_at kind name found placed missing =
      placed-nothing_by (length lines) (place_of kind name lines) (place_of kind name lines <ᵇ length lines) refl (sym placed ∙ missing)

  -- the component that the words have under a name is the tree's
  module _ (name : ℕ) where
    component-placed : Words.component_of words name ≡ placed_at lines (place_of 5 name lines)
    unfolding Words.component_of
    component-placed =
        record_in-line words small passes 5 (components_at words) (get_or words 2 0) (omega (arith, known.fits)) known.component_names name

    pub component-found : (number : ℕ)
        → Words.component_of words name ≡ Some number
        → Begins words number × (component_of (dictionary_in words) name ≡ Tree.Found (body_at (word_lines words) (number + 1)))
    component-found number there =
        let found = found_at 5 name number (Words.component_of words name) (omega arith) (omega arith) component-placed there in
        let inside : place_of 5 name lines < length lines = omega (arith, found.0.inside, found.1, lines-counted words) in (
          found.0,
          decided-inside 5 name (λ tree. component_of tree name) Tree.Found (components-first name) lines inside
              ∙ ap (λ (place : ℕ). Tree.Found (body_at lines (place + 1))) found.1,
        )

    pub component-missing : Words.component_of words name ≡ None → component_of (dictionary_in words) name ≡ Tree.NotFound
    unfolding body_called
    component-missing missing =
        decided-outside 5 name (λ tree. component_of tree name) Tree.Found (components-first name) lines
        (missing_at 5 name (Words.component_of words name) component-placed missing)

  -- .. and so is the message
  module _ (letters : ℕ) where
    abbrev message_in : Option ℕ
    message_in = Words.record_in (messages_at words) (get_or words 3 0) letters words

    message-placed : message_in ≡ placed_at lines (place_of 6 letters lines)
    message-placed =
        record_in-line words small passes 6 (messages_at words) (get_or words 3 0) (omega (arith, known.fits)) known.message_names letters

    pub message-found : (number : ℕ)
        → message_in ≡ Some number
        → Begins words number × (message_of (dictionary_in words) letters ≡ Tree.Found (body_at (word_lines words) (number + 1)))
    message-found number there =
        let found = found_at 6 letters number message_in (omega arith) (omega arith) message-placed there in
        let inside : place_of 6 letters lines < length lines = omega (arith, found.0.inside, found.1, lines-counted words) in (
          found.0,
          decided-inside 6 letters (λ tree. message_of tree letters) Tree.Found (messages-first letters) lines inside
              ∙ ap (λ (place : ℕ). Tree.Found (body_at lines (place + 1))) found.1,
        )

    pub message-missing : message_in ≡ None → message_of (dictionary_in words) letters ≡ Tree.NotFound
    unfolding body_called
    message-missing missing =
        decided-outside 6 letters (λ tree. message_of tree letters) Tree.Found (messages-first letters) lines
        (missing_at 6 letters message_in message-placed missing)

  -- the header and the trailer begin behind the first line of their kind, and have no use
  pub definitions-first : Parted (word_lines words) (place_of 3 0 (word_lines words))
  definitions-first = accepted-parted lines known.accepted

  pub header-comes : place_of 3 0 (word_lines words) < get_or words 0 0
  header-comes = omega (arith, accepted-header lines known.accepted, lines-counted words)

  pub trailer-comes : place_of 4 0 (word_lines words) < get_or words 0 0
  trailer-comes = omega (arith, accepted-trailer lines known.accepted, lines-counted words)

  pub header-begins : (place : ℕ)
      → place ≡ place_of 3 0 (word_lines words)
      → Begins words place
      × (((dictionary_in words).header ≡ body_at (word_lines words) (place + 1)) × (uses_of (body_at (word_lines words) (place + 1)) ≡ []))
  header-begins place same =
      let inside = accepted-header lines known.accepted in
      rw same (
        record { inside = omega (arith, inside, lines-counted words); there = begins 3 0 (omega arith) (omega arith) inside },
        (decided-inside 3 0 (λ tree. tree.header) (λ body. body) header-first lines inside, no_uses 3 0 (omega arith) (omega arith) inside),
      )

  pub trailer-begins : (place : ℕ)
      → place ≡ place_of 4 0 (word_lines words)
      → Begins words place
      × (((dictionary_in words).trailer ≡ body_at (word_lines words) (place + 1)) × (uses_of (body_at (word_lines words) (place + 1)) ≡ []))
  trailer-begins place same =
      let inside = accepted-trailer lines known.accepted in
      rw same (
        record { inside = omega (arith, inside, lines-counted words); there = begins 4 0 (omega arith) (omega arith) inside },
        (decided-inside 4 0 (λ tree. tree.trailer) (λ body. body) trailer-first lines inside, no_uses 4 0 (omega arith) (omega arith) inside),
      )
