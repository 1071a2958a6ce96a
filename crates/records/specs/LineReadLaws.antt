-- What a line is read as (line_forms, `line_of`), against what a record holds: a line of a form that a dictionary text knows can be held, and is at least as long
-- as `length_of` says (`line_of_fits`). Assumes nothing.
--
--   Usable line      a record can hold the line, if a dictionary text knows its form
--   Fits len line    .., and the line has at most so many bytes
use Rattle.std.specs.Prelude.{◌≡◌, refl, ℕ, zero, suc, ◌+◌, ◌^◌, ◌≤◌, ◌<◌, Bool, ◌&&◌, cond, List, [], ◌∷◌, leb, ltb, get_or, drop, Option, Some, None}
use Rattle.std.proofs.Common.{sym, ◌∙◌, arith, length-drop, leb-true, leb-false}
use Rattle.std.proofs.Math.Path.{ap}
use Rattle.std.proofs.Math.Bool.{true, false}
use Rattle.std.proofs.lemmas.Bool.{false≢true}
use Rattle.std.proofs.Math.ListN.{length}
use Rattle.ascii.specs.NotationLaws.{and_left, and_right}
use Rattle.ascii.specs.Bytes.{ascii, non_empty, every}
use Rattle.ascii.specs.Digits.{is_digit, is_digits, decimal}
use Rattle.line_forms.specs.declared.line.Line.{Line}
use Rattle.line_forms.specs.declared.line.Line.TheVariants.{Def, Value, BeginHeader, BeginTrailer, EndHeader, EndTrailer, Component, Message, Field, Group, Use, End, Member, RequiredTag, Unknown}
use Rattle.lines.specs.Lines.{before, behind, starts_with, is_same, comma}
use Rattle.lines.specs.LinesLaws.{starts_with_length}
use Rattle.lines.specs.LineParts.{no_leading_zero, number_of, flag_of, type_of, is_alphanumeric, message_type_of, value_of}
use Rattle.lines.specs.LinePartsLaws.{is_alphanumeric-digit, message_type_of-letters}
use Rattle.line_forms.specs.LineForms.{def_with, def_of, value_with, begin_of, component_with, message_with, message_of, field_with, field_of, group_with, group_rest, group_of, use_with, use_of, end_with, end_of, member_with, required_with, block_line_of, definition_line_of, line_of}
use Rattle.records.specs.RecordsLaws.{Held}
use Rattle.records.specs.LineLengths.{type_lengths, length_of}
use Rattle.records.specs.NumeralLaws.{every-weaker}
use Rattle.records.specs.WordTextLaws.{letters_text-length}
use Rattle.records.specs.LinePartReadLaws.{NumberFits, number_of_fits, number_of_large, FlagFits, flag_of-fits, parts-length, same_length, TypeFits, type_of_fits, LettersFit, message_type_of-fits, ValueFits, value_of_fits}
use Rattle.lines.specs.declared.line_parts.Admitted.{Admitted}

abbrev pub Usable : Line → Type 0
Usable (Def tag place) = Held (Def tag place)
Usable (Value value) = Held (Value value)
Usable BeginHeader = Unit
Usable BeginTrailer = Unit
Usable EndHeader = Unit
Usable EndTrailer = Unit
Usable (Component name) = Held (Component name)
Usable (Message letters app) = Held (Message letters app)
Usable (Field tag required) = Held (Field tag required)
Usable (Group count delimiter required) = Held (Group count delimiter required)
Usable (Use name required) = Held (Use name required)
Usable (End number letters) = Held (End number letters)
Usable (Member tag) = Unit
Usable (RequiredTag tag) = Unit
Usable Unknown = Unit

abbrev pub Fits : ℕ → Line → Type 0
Fits len line = Usable line × (length_of line ≤ len)

no_form : (len : ℕ) → Fits len Unknown
unfolding length_of
no_form len = (tt, omega arith)

-- ---- each form, from what its parts were read as

each_at : (test : ℕ → Bool) (words : List ℕ) (place : ℕ) → every test words ≡ true → place < length words → test (get_or words place 0) ≡ true
each_at test [] place all inside = absurd (omega arith)
each_at test (word ∷ rest) zero all inside = and_left (test word) (every test rest) all
each_at test (word ∷ rest) (suc place) all inside = each_at test rest place (and_right (test word) (every test rest) all) (omega arith)

lengths_some : every (λ len. leb 1 len) type_lengths ≡ true
lengths_some = refl

type-some : (place : ℕ) → place < 34 → 1 ≤ get_or type_lengths place 0
type-some place few = leb-true 1 (get_or type_lengths place 0) (each_at (λ len. leb 1 len) type_lengths place lengths_some few)

module _ (rest : List ℕ) where
  def_fits : (number : Option ℕ) (name : Option ℕ)
      → NumberFits (length (before comma rest)) number
      → TypeFits (length (behind comma rest)) name
      → Fits (4 + length rest) (def_with number name)
  unfolding length_of
  def_fits (Some n) (Some place) number name =
      let some = type-some place name.0 in
      ((number.0, name.0), omega (arith, parts-length rest (omega (arith, name.1)), number.1, name.1))
  def_fits (Some n) None number name = no_form (4 + length rest)
  def_fits None name number name' = no_form (4 + length rest)

  field_fits : (number : Option ℕ) (flag : Option Bool)
      → NumberFits (length (before comma rest)) number
      → FlagFits (length (behind comma rest)) flag
      → Fits (6 + length rest) (field_with number flag)
  unfolding length_of
  field_fits (Some n) (Some true) number flag = (number.0, omega (arith, parts-length rest (omega arith), number.1, flag))
  field_fits (Some n) (Some false) number flag = (number.0, omega (arith, parts-length rest (omega arith), number.1, flag))
  field_fits (Some n) None number flag = no_form (6 + length rest)
  field_fits None flag number flag' = no_form (6 + length rest)

  use_fits : (number : Option ℕ) (flag : Option Bool)
      → NumberFits (length (before comma rest)) number
      → FlagFits (length (behind comma rest)) flag
      → Fits (4 + length rest) (use_with number flag)
  unfolding length_of
  use_fits (Some n) (Some true) number flag = (number.0, omega (arith, parts-length rest (omega arith), number.1, flag))
  use_fits (Some n) (Some false) number flag = (number.0, omega (arith, parts-length rest (omega arith), number.1, flag))
  use_fits (Some n) None number flag = no_form (4 + length rest)
  use_fits None flag number flag' = no_form (4 + length rest)

  group-fits : (count delimiter : Option ℕ) (flag : Option Bool)
      → NumberFits (length (before comma rest)) count
      → NumberFits (length (before comma (behind comma rest))) delimiter
      → FlagFits (length (behind comma (behind comma rest))) flag
      → Fits (6 + length rest) (group_with count delimiter flag)
  unfolding length_of
  group-fits (Some n) (Some d) (Some true) count delimiter flag =
      let inner = parts-length (behind comma rest) (omega arith) in
      ((count.0, delimiter.0), omega (arith, parts-length rest (omega arith), count.1, delimiter.1))
  group-fits (Some n) (Some d) (Some false) count delimiter flag =
      let inner = parts-length (behind comma rest) (omega arith) in
      ((count.0, delimiter.0), omega (arith, parts-length rest (omega arith), count.1, delimiter.1))
  group-fits (Some n) (Some d) None count delimiter flag = no_form (6 + length rest)
  group-fits (Some n) None flag count delimiter flag' = no_form (6 + length rest)
  group-fits None delimiter flag count delimiter' flag' = no_form (6 + length rest)

  value-fits : (value : Option Admitted) → ValueFits (length rest) value → Fits (6 + length rest) (value_with value)
  unfolding length_of
  value-fits (Some value) fits = ((fits.0, fits.1.0), omega (arith, fits.1.1))
  value-fits None fits = no_form (6 + length rest)

  component-fits : (number : Option ℕ) → NumberFits (length rest) number → Fits (10 + length rest) (component_with number)
  unfolding length_of
  component-fits (Some n) number = (number.0, omega (arith, number.1))
  component-fits None number = no_form (10 + length rest)

  member-fits : (number : Option ℕ) → Fits (7 + length rest) (member_with number)
  unfolding length_of
  member-fits (Some n) = (tt, omega arith)
  member-fits None = no_form (7 + length rest)

  required-fits : (number : Option ℕ) → Fits (9 + length rest) (required_with number)
  unfolding length_of
  required-fits (Some n) = (tt, omega arith)
  required-fits None = no_form (9 + length rest)

  message-fits : (letters : Option ℕ) (app : Bool)
      → LettersFit (before comma rest) letters
      → cond app 3 5 ≡ length (behind comma rest)
      → Fits (8 + length rest) (message_with letters app)
  unfolding length_of
  message-fits (Some letters) true fits kind =
      let len = letters_text-length letters in
      let same = ap length fits.1 in
      (fits.0, omega (arith, parts-length rest (omega (arith, kind))))
  message-fits (Some letters) false fits kind =
      let len = letters_text-length letters in
      let same = ap length fits.1 in
      (fits.0, omega (arith, parts-length rest (omega (arith, kind))))
  message-fits None app fits kind = no_form (8 + length rest)

-- ---- an end line

digits-by : (n : ℕ) (digit-bytes : ℕ) (plain digits small : Bool) → cond (plain && (digits && small)) (Some digit-bytes) None ≡ Some n → digits ≡ true
digits-by n digit-bytes true true small same = refl
digits-by n digit-bytes true false small same = let never : ◌≡◌ {A = ℕ} 0 1 = cc in absurd (omega arith)
digits-by n digit-bytes false digits small same = let never : ◌≡◌ {A = ℕ} 0 1 = cc in absurd (omega arith)

number_digits : (rest : List ℕ) (n : ℕ) → number_of rest ≡ Some n → is_digits rest ≡ true
unfolding number_of
number_digits rest n same = digits-by n (decimal rest) (no_leading_zero rest) (is_digits rest) (ltb (decimal rest) (2 ^ 32)) same

some-length : (bytes : List ℕ) → non_empty bytes ≡ true → 1 ≤ length bytes
unfolding non_empty
some-length [] some = absurd (false≢true some)
some-length (byte ∷ rest) some = omega arith

long_by : (rest : List ℕ) (n : ℕ) (long : Bool) → leb 5 (length rest) ≡ long → is_digits rest ≡ true → message_type_of rest ≡ None → 5 ≤ length rest
long_by rest n true test digits none = leb-true 5 (length rest) test
long_by rest n false test digits none =
    let few = leb-false 5 (length rest) test in
    let all = every-weaker is_digit is_alphanumeric rest is_alphanumeric-digit (and_right (non_empty rest) _ digits) in
    let letters = message_type_of-letters rest (some-length rest (and_left (non_empty rest) _ digits)) (omega arith) all in
    let never : ◌≡◌ {A = ℕ} 0 1 = cc in
    absurd (omega arith)

end_fits : (rest : List ℕ) (number : Option ℕ) (letters : Option ℕ)
    → number_of rest ≡ number
    → message_type_of rest ≡ letters
    → NumberFits (length rest) number
    → LettersFit rest letters
    → Fits (4 + length rest) (end_with number letters)
unfolding length_of
end_fits rest (Some n) (Some letters) read named fits held =
    let len = letters_text-length letters in
    let same = ap length held.1 in
    ((held.0, sym read ∙ ap number_of (sym held.1)), omega arith)
end_fits rest (Some n) None read named fits held =
    let long = long_by rest n (leb 5 (length rest)) refl (number_digits rest n read) named in
    let large : 10000 ≤ n = rw read at (number_of_large rest long) in
    ((large, fits.0), omega (arith, fits.1))
end_fits rest None (Some letters) read named fits held =
    let len = letters_text-length letters in
    let same = ap length held.1 in
    ((held.0, sym read ∙ ap number_of (sym held.1)), omega arith)
end_fits rest None None read named fits held = no_form (4 + length rest)

-- ---- a line

pick_fits : (len : ℕ) (test : Bool) (this that : Line) → (test ≡ true → Fits len this) → Fits len that → Fits len (cond test this that)
pick_fits len true this that holds other = holds refl
pick_fits len false this that holds other = other

end_of_fits : (rest : List ℕ) → Fits (4 + length rest) (end_of rest)
unfolding end_of length_of
end_of_fits rest =
    pick_fits (4 + length rest) (is_same (ascii "header") rest) EndHeader _ (λ same. (tt, omega (arith, same_length (ascii "header") rest same)))
    (pick_fits (4 + length rest) (is_same (ascii "trailer") rest) EndTrailer _ (λ same. (tt, omega (arith, same_length (ascii "trailer") rest same)))
    (end_fits rest (number_of rest) (message_type_of rest) refl refl (number_of_fits rest) (message_type_of-fits rest)))

begin_of-fits : (rest : List ℕ) → Fits (6 + length rest) (begin_of rest)
unfolding begin_of length_of
begin_of-fits rest =
    pick_fits (6 + length rest) (is_same (ascii "header") rest) BeginHeader _ (λ same. (tt, omega (arith, same_length (ascii "header") rest same)))
    (pick_fits (6 + length rest) (is_same (ascii "trailer") rest) BeginTrailer _ (λ same. (tt, omega (arith, same_length (ascii "trailer") rest same)))
    (no_form (6 + length rest)))

message_of-fits : (rest : List ℕ) → Fits (8 + length rest) (message_of rest)
unfolding message_of
message_of-fits rest =
    let letters = message_type_of-fits (before comma rest) in
    pick_fits (8 + length rest) (is_same (ascii "app") (behind comma rest)) _ _
    (λ same. message-fits rest (message_type_of (before comma rest)) true letters (same_length (ascii "app") (behind comma rest) same))
    (pick_fits (8 + length rest) (is_same (ascii "admin") (behind comma rest)) _ _
    (λ same. message-fits rest (message_type_of (before comma rest)) false letters (same_length (ascii "admin") (behind comma rest) same))
    (no_form (8 + length rest)))

-- behind a key
keyed : (bytes key : List ℕ) (line : Line) → starts_with key bytes ≡ true → Fits (length key + length (drop (length key) bytes)) line → Fits (length bytes) line
keyed bytes key line starts fits =
    let long = starts_with_length key bytes starts in
    (fits.0, omega (arith, fits.1, length-drop (length key) bytes))

module _ (bytes : List ℕ) where
  block_fits : Fits (length bytes) (block_line_of bytes)
  unfolding block_line_of
  block_fits =
      pick_fits (length bytes) (starts_with (ascii "component=") bytes) _ _
      (λ starts. keyed bytes (ascii "component=") _ starts (component-fits (drop 10 bytes) (number_of (drop 10 bytes)) (number_of_fits (drop 10 bytes))))
      (pick_fits (length bytes) (starts_with (ascii "message=") bytes) _ _
      (λ starts. keyed bytes (ascii "message=") _ starts (message_of-fits (drop 8 bytes)))
      (pick_fits (length bytes) (starts_with (ascii "member=") bytes) _ _
      (λ starts. keyed bytes (ascii "member=") _ starts (member-fits (drop 7 bytes) (number_of (drop 7 bytes))))
      (pick_fits (length bytes) (starts_with (ascii "required=") bytes) _ _
      (λ starts. keyed bytes (ascii "required=") _ starts (required-fits (drop 9 bytes) (number_of (drop 9 bytes))))
      (no_form (length bytes)))))

  definition-fits : Fits (length bytes) (definition_line_of bytes)
  unfolding definition_line_of def_of
  definition-fits =
      pick_fits (length bytes) (starts_with (ascii "def=") bytes) _ _
      (λ starts. keyed bytes (ascii "def=") _ starts
      (def_fits (drop 4 bytes) (number_of (before comma (drop 4 bytes))) (type_of (behind comma (drop 4 bytes))) (number_of_fits (before comma (drop 4 bytes))) (type_of_fits (behind comma (drop 4 bytes)))))
      (pick_fits (length bytes) (starts_with (ascii "value=") bytes) _ _
      (λ starts. keyed bytes (ascii "value=") _ starts (value-fits (drop 6 bytes) (value_of (drop 6 bytes)) (value_of_fits (drop 6 bytes))))
      (pick_fits (length bytes) (starts_with (ascii "begin=") bytes) _ _
      (λ starts. keyed bytes (ascii "begin=") _ starts (begin_of-fits (drop 6 bytes)))
      block_fits))

  pub line_of_fits : Fits (length bytes) (line_of bytes)
  unfolding line_of field_of group_of group_rest use_of
  line_of_fits =
      pick_fits (length bytes) (starts_with (ascii "field=") bytes) _ _
      (λ starts. keyed bytes (ascii "field=") _ starts
      (field_fits (drop 6 bytes) (number_of (before comma (drop 6 bytes))) (flag_of (behind comma (drop 6 bytes))) (number_of_fits (before comma (drop 6 bytes))) (flag_of-fits (behind comma (drop 6 bytes)))))
      (pick_fits (length bytes) (starts_with (ascii "group=") bytes) _ _
      (λ starts. keyed bytes (ascii "group=") _ starts
      (group-fits (drop 6 bytes) (number_of (before comma (drop 6 bytes))) (number_of (before comma (behind comma (drop 6 bytes)))) (flag_of (behind comma (behind comma (drop 6 bytes))))
      (number_of_fits (before comma (drop 6 bytes))) (number_of_fits (before comma (behind comma (drop 6 bytes)))) (flag_of-fits (behind comma (behind comma (drop 6 bytes))))))
      (pick_fits (length bytes) (starts_with (ascii "use=") bytes) _ _
      (λ starts. keyed bytes (ascii "use=") _ starts
      (use_fits (drop 4 bytes) (number_of (before comma (drop 4 bytes))) (flag_of (behind comma (drop 4 bytes))) (number_of_fits (before comma (drop 4 bytes))) (flag_of-fits (behind comma (drop 4 bytes)))))
      (pick_fits (length bytes) (starts_with (ascii "end=") bytes) _ _
      (λ starts. keyed bytes (ascii "end=") _ starts (end_of_fits (drop 4 bytes)))
      definition-fits)))
