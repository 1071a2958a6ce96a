-- A line of a body, read from its record (src/body_line.rt), and the laws of it: in words that pass the check the kind of a record says which line it is.
-- Assumes nothing.
--
--   read_from words            what the words of a record tell: a field, a group or a use, if they are one's
--   Tells read line           what was read is this line; where nothing was read, the line is no field, no group and no use
use Rattle.std.specs.Prelude.{◌≡◌, ℕ, ◌+◌, ◌*◌, ◌-◌, ◌<◌, true, false, List, get_or, take, drop, if◌then◌else◌, Option, Some, None}
use Rattle.std.proofs.Math.Path.{refl}
use Rattle.std.proofs.Common.{ap, ◌∙◌, arith, get_or-take, get_or-drop}
use Rattle.ascii.specs.Notation.{◌≡ᵇ◌}
use Rattle.line_forms.specs.declared.line.Line.{Line}
use Rattle.line_forms.specs.declared.line.Line.TheVariants.{Def, Value, BeginHeader, BeginTrailer, EndHeader, EndTrailer, Component, Message, Field, Group, Use, End, Member, RequiredTag, Unknown}
use Rattle.records.specs.Records.{record_of, Words32}
use Rattle.dictionary.specs.DictionaryCheck.{is_dictionary}
use Rattle.dictionary.specs.DictionaryRecords.{records_in, record_numbered}
use Rattle.definitions.specs.Definitions.{line_numbered}
use Rattle.bodies.specs.declared.body_line.BodyLine.{BodyLine}
use Rattle.bodies.specs.declared.body_line.BodyLine.TheVariants as read
use Rattle.bodies.specs.DictionaryPlaces.{IsOther}
use Rattle.dictionary.specs.DictionaryWords.{word_lines}
use Rattle.definitions.specs.WordLinesLaws.{line_at, word_at}

unfoldable pub read_from : List ℕ → Option BodyLine
read_from words =
    if get_or words 0 0 ≡ᵇ 7 then Some (read.Field (get_or words 1 0) (get_or words 2 0 ≡ᵇ 1))
    else if get_or words 0 0 ≡ᵇ 8 then Some (read.Group (get_or words 1 0) (get_or words 2 0) (get_or words 3 0 ≡ᵇ 1))
    else if get_or words 0 0 ≡ᵇ 9 then Some (read.Use (get_or words 1 0) (get_or words 2 0 ≡ᵇ 1))
    else None

abbrev pub Tells : Option BodyLine → Line → Type 0
Tells (Some (read.Field tag required)) line = line ≡ Field tag required
Tells (Some (read.Group count delimiter required)) line = line ≡ Group count delimiter required
Tells (Some (read.Use name required)) line = line ≡ Use name required
Tells None line = IsOther line

-- the record of an end is that of no other line of a body
tells-end : (number : Option ℕ) (letters : Option ℕ) → Tells (read_from (record_of (End number letters))) (End number letters)
unfolding read_from record_of
tells-end read_number (Some letters) = tt
tells-end (Some number) None = tt
tells-end None None = tt

tells-line : (line : Line) → Tells (read_from (record_of line)) line
unfolding read_from record_of
tells-line (Def tag place) = tt
tells-line (Value admitted) = tt
tells-line BeginHeader = tt
tells-line BeginTrailer = tt
tells-line EndHeader = tt
tells-line EndTrailer = tt
tells-line (Component name) = tt
tells-line (Message letters app) = tt
tells-line (Field tag true) = refl
tells-line (Field tag false) = refl
tells-line (Group count delimiter true) = refl
tells-line (Group count delimiter false) = refl
tells-line (Use name true) = refl
tells-line (Use name false) = refl
tells-line (End number letters) = tells-end number letters
tells-line (Member tag) = tt
tells-line (RequiredTag tag) = tt
tells-line Unknown = tt

-- ---- body_line

module _ (words : List ℕ) (small : Words32 words) (passed : is_dictionary words ≡ true) (number : ℕ) (inside : number < get_or words 0 0) where
  abbrev line : Line
  line = get_or (word_lines words) number Unknown

  abbrev lent : List ℕ
  lent = take 10 (drop (4 + 10 * number) words)

  lent-word : (place : ℕ) → place < 10 → get_or lent place 0 ≡ get_or (record_of line) place 0
  lent-word place few =
      get_or-take 10 (drop (4 + 10 * number) words) place 0 few
      ∙ get_or-drop (4 + 10 * number) words place 0
      ∙ word_at words small passed number place inside few

  same_read : read_from lent ≡ read_from (record_of line)
  unfolding read_from
  same_read = rw (lent-word 0 (omega arith), lent-word 1 (omega arith), lent-word 2 (omega arith), lent-word 3 (omega arith)) refl

  pub tells-lent : (told : Option BodyLine) (records : List (List ℕ)) (other : List ℕ) → records ≡ records_in words → told ≡ read_from (get_or records number other)
      → Tells told (line_numbered words number)
  tells-lent told records other are same =
      let here : get_or records number other ≡ lent = ap (λ (some : List (List ℕ)). get_or some number other) are ∙ record_numbered words number other inside in
      rw (same ∙ ap read_from here ∙ same_read, line_at words number inside) (tells-line line)
