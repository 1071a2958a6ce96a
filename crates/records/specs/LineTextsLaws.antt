-- Laws of `LineTexts.antt`: a line that a record can hold is read from its text (`line_of_text_of`), and the length of that text is `length_of`
-- (`text_of_length`). First the parts of a line, each read from its own text. Assumes nothing.
use Rattle.std.specs.Prelude.{◌≡◌, ℕ, suc, ◌+◌, ◌^◌, ◌≤◌, ◌<◌, Bool, ◌&&◌, cond, List, [], ◌∷◌, ◌++◌, ltb, eqb, length, Option, Some, None}
use Rattle.std.proofs.Math.Path.{refl}
use Rattle.std.proofs.Common.{sym, ap, ◌∙◌, arith, length-append, le-ltb, eqb-true}
use Rattle.std.proofs.Math.Bool.{true, false}
use Rattle.std.proofs.lemmas.Bool.{false≢true}
use Rattle.ascii.specs.Notation.{is_between}
use Rattle.ascii.specs.NotationLaws.{and-false, and_left}
use Rattle.ascii.specs.Bytes.{ascii, every}
use Rattle.ascii.specs.Digits.{is_digit}
use Rattle.line_forms.specs.declared.line.Line.{Line}
use Rattle.line_forms.specs.declared.line.Line.TheVariants.{Def, Value, BeginHeader, BeginTrailer, EndHeader, EndTrailer, Component, Message, Field, Group, Use, End, Member, RequiredTag, Unknown}
use Rattle.lines.specs.declared.line_parts.Admitted.{Admitted}
use Rattle.lines.specs.Lines.{starts_with, is_same, comma}
use Rattle.lines.specs.LineParts.{number_of}
use Rattle.lines.specs.LinePartsLaws.{message_type_of-long}
use Rattle.lines.specs.LinesLaws.{is_same-other_length}
use Rattle.line_forms.specs.LineForms.{end_with, def_of, begin_of, message_of, field_of, group_rest, group_of, use_of, end_of, block_line_of, definition_line_of, line_of}
use Rattle.records.specs.Records.{letters_text, holds_letters, holds_value, value_words}
use Rattle.records.specs.RecordsLaws.{HeldEnd, Held}
use Rattle.records.specs.LineTexts.{numeral, flag_text, type_text, app_text, end_text, text_of}
use Rattle.records.specs.LineLengths.{digit_count_from, digit_count, app_length, end_length, length_of}
use Rattle.records.specs.NumeralLaws.{digits_of-digits, before-behind, behind-behind, number_of_numeral, numeral-above, numeral-length}
use Rattle.records.specs.TypeTextLaws.{type_of_type_text, type_text-length}
use Rattle.records.specs.WordTextLaws.{letters_length-range, flag_of-flag_text, letters_text-length, letters_text-above, message_type_of-letters_text, value_text-length, value_of_value_text}

-- ---- each form is read from its text

module _ (number : ℕ) (small : number < 2 ^ 32) where
  field_back : (required : Bool) → line_of (text_of (Field number required)) ≡ Field number required
  unfolding text_of line_of starts_with field_of
  field_back true =
      rw (before-behind comma (numeral number) (ascii "1") (numeral-above number), behind-behind comma (numeral number) (ascii "1") (numeral-above number), number_of_numeral number small, flag_of-flag_text true)
  field_back false =
      rw (before-behind comma (numeral number) (ascii "0") (numeral-above number), behind-behind comma (numeral number) (ascii "0") (numeral-above number), number_of_numeral number small, flag_of-flag_text false)

  use_back : (required : Bool) → line_of (text_of (Use number required)) ≡ Use number required
  unfolding text_of line_of starts_with use_of
  use_back true =
      rw (before-behind comma (numeral number) (ascii "1") (numeral-above number), behind-behind comma (numeral number) (ascii "1") (numeral-above number), number_of_numeral number small, flag_of-flag_text true)
  use_back false =
      rw (before-behind comma (numeral number) (ascii "0") (numeral-above number), behind-behind comma (numeral number) (ascii "0") (numeral-above number), number_of_numeral number small, flag_of-flag_text false)

  component-back : line_of (text_of (Component number)) ≡ Component number
  unfolding text_of line_of definition_line_of block_line_of starts_with
  component-back = rw (number_of_numeral number small)

  def_back : (place : ℕ) → place < 34 → line_of (text_of (Def number place)) ≡ Def number place
  unfolding text_of line_of definition_line_of starts_with def_of
  def_back place few =
      rw (
        before-behind comma (numeral number) (type_text place) (numeral-above number),
        behind-behind comma (numeral number) (type_text place) (numeral-above number),
        number_of_numeral number small,
        type_of_type_text place few,
      )

  module _ (delimiter : ℕ) (small-too : delimiter < 2 ^ 32) where
    group-rest_back : (count : Option ℕ) (required : Bool) → count ≡ Some number → group_rest count (numeral delimiter ++ (comma ∷ flag_text required)) ≡ Group number delimiter required
    unfolding group_rest
    group-rest_back count true same =
        rw (same, before-behind comma (numeral delimiter) (ascii "1") (numeral-above delimiter), behind-behind comma (numeral delimiter) (ascii "1") (numeral-above delimiter), number_of_numeral delimiter small-too, flag_of-flag_text true)
    group-rest_back count false same =
        rw (same, before-behind comma (numeral delimiter) (ascii "0") (numeral-above delimiter), behind-behind comma (numeral delimiter) (ascii "0") (numeral-above delimiter), number_of_numeral delimiter small-too, flag_of-flag_text false)

    group-back : (required : Bool) → line_of (text_of (Group number delimiter required)) ≡ Group number delimiter required
    unfolding text_of line_of starts_with group_of
    group-back required =
        let rest = numeral delimiter ++ (comma ∷ flag_text required) in
        rw (before-behind comma (numeral number) rest (numeral-above number), behind-behind comma (numeral number) rest (numeral-above number))
        (group-rest_back (number_of (numeral number)) required (number_of_numeral number small))

value-line_back : (value : Admitted) → 1 ≤ value.len → holds_value value.len (value_words value) ≡ true → line_of (text_of (Value value)) ≡ Value value
unfolding text_of line_of definition_line_of starts_with
value-line_back value some held = rw (value_of_value_text value some held)

module _ (letters : ℕ) (held : holds_letters letters ≡ true) where
  message-back : (app : Bool) → line_of (text_of (Message letters app)) ≡ Message letters app
  unfolding text_of line_of definition_line_of block_line_of starts_with message_of is_same
  message-back true =
      rw (before-behind comma (letters_text letters) (ascii "app") (letters_text-above letters held), behind-behind comma (letters_text letters) (ascii "app") (letters_text-above letters held), message_type_of-letters_text letters held)
  message-back false =
      rw (before-behind comma (letters_text letters) (ascii "admin") (letters_text-above letters held), behind-behind comma (letters_text letters) (ascii "admin") (letters_text-above letters held), message_type_of-letters_text letters held)

-- an end line of one to four letters or digits, or of five digits or more, is that of no header and no trailer
first-digit : (bytes : List ℕ) (byte : ℕ) (name : List ℕ) → every is_digit bytes ≡ true → is_digit byte ≡ false → is_same (byte ∷ name) bytes ≡ false
unfolding is_same starts_with
first-digit [] byte name digits other = and-false (eqb (suc (length name)) 0)
first-digit (first ∷ bytes) byte name digits other = first-digit_by (eqb byte first) refl
  where
    first-digit_by : (same : Bool) → eqb byte first ≡ same → eqb (suc (length name)) (suc (length bytes)) && (same && starts_with name bytes) ≡ false
    first-digit_by true test =
        absurd (false≢true (sym other ∙ ap is_digit (eqb-true byte first test) ∙ and_left (is_digit first) (every is_digit bytes) digits))
    first-digit_by false test = and-false (eqb (suc (length name)) (suc (length bytes)))

letter_h : is_digit 104 ≡ false
unfolding is_between
letter_h = refl

letter_t : is_digit 116 ≡ false
unfolding is_between
letter_t = refl

end-named : (number : Option ℕ) (letters : ℕ) → end_with number (Some letters) ≡ End number (Some letters)
end-named (Some number) letters = refl
end-named None letters = refl

pub some-digit_by : (test : Bool) (more : ℕ) → 1 ≤ cond test 1 (suc more)
some-digit_by true more = omega arith
some-digit_by false more = omega arith

digit-letters : (n : ℕ) → 10000 ≤ n → n < 2 ^ 32 → 5 ≤ length (numeral n)
unfolding digit_count
digit-letters n large small =
    rw (numeral-length n, le-ltb n 10 (omega arith), le-ltb n 100 (omega arith), le-ltb n 1000 (omega arith), le-ltb n 10000 (omega arith)) (omega (arith, some-digit_by (ltb n 100000) (digit_count_from 5 1000000 n)))

end-line_back : (number : Option ℕ) (letters : Option ℕ) → HeldEnd number letters → line_of (text_of (End number letters)) ≡ End number letters
unfolding text_of line_of starts_with end_of
end-line_back number (Some letters) held =
    let range = letters_length-range letters in
    let len = letters_text-length letters in
    rw (
      is_same-other_length (ascii "header") (letters_text letters) (λ same. omega arith),
      is_same-other_length (ascii "trailer") (letters_text letters) (λ same. omega arith),
      message_type_of-letters_text letters held.0,
      ← held.1,
    )
    (end-named number letters)
end-line_back (Some number) None held =
    rw (
      first-digit (numeral number) 104 (ascii "eader") (digits_of-digits 10 number) letter_h,
      first-digit (numeral number) 116 (ascii "railer") (digits_of-digits 10 number) letter_t,
      message_type_of-long (numeral number) (digit-letters number held.0 held.1),
      number_of_numeral number held.1,
    )
end-line_back None None held = absurd held

pub line_of_text_of : (line : Line) → Held line → line_of (text_of line) ≡ line
line_of_text_of (Def tag place) held = def_back tag held.0 place held.1
line_of_text_of (Value value) held = value-line_back value held.0 held.1
line_of_text_of BeginHeader held = unfold text_of line_of definition_line_of starts_with begin_of is_same in refl
line_of_text_of BeginTrailer held = unfold text_of line_of definition_line_of starts_with begin_of is_same in refl
line_of_text_of EndHeader held = unfold text_of line_of starts_with end_of is_same in refl
line_of_text_of EndTrailer held = unfold text_of line_of starts_with end_of is_same in refl
line_of_text_of (Component name) held = component-back name held
line_of_text_of (Message letters app) held = message-back letters held app
line_of_text_of (Field tag required) held = field_back tag held required
line_of_text_of (Group count delimiter required) held = group-back count held.0 delimiter held.1 required
line_of_text_of (Use name required) held = use_back name held required
line_of_text_of (End number letters) held = end-line_back number letters held
line_of_text_of (Member tag) held = absurd held
line_of_text_of (RequiredTag tag) held = absurd held
line_of_text_of Unknown held = absurd held

-- ---- the length of the text

behind-key : (bytes rest : List ℕ) (byte : ℕ) → length (bytes ++ (byte ∷ rest)) ≡ length bytes + suc (length rest)
behind-key bytes rest byte = length-append bytes (byte ∷ rest)

flag-length : (required : Bool) → length (flag_text required) ≡ 1
flag-length true = refl
flag-length false = refl

app_length_lem : (app : Bool) → length (app_text app) ≡ app_length app
app_length_lem true = refl
app_length_lem false = refl

end-text_length : (number : Option ℕ) (letters : Option ℕ) → HeldEnd number letters → length (end_text number letters) ≡ end_length number letters
end-text_length read_number (Some letters) held = omega (arith, letters_text-length letters)
end-text_length (Some number) None held = omega (arith, numeral-length number)
end-text_length None None held = absurd held

pub text_of_length : (line : Line) → Held line → length (text_of line) ≡ length_of line
unfolding text_of length_of
text_of_length (Def tag place) held = omega (arith, behind-key (numeral tag) (type_text place) comma, numeral-length tag, type_text-length place held.1)
text_of_length (Value value) held = omega (arith, value_text-length value held.0 held.1)
text_of_length BeginHeader held = refl
text_of_length BeginTrailer held = refl
text_of_length EndHeader held = refl
text_of_length EndTrailer held = refl
text_of_length (Component name) held = omega (arith, numeral-length name)
text_of_length (Message letters app) held = omega (arith, behind-key (letters_text letters) (app_text app) comma, letters_text-length letters, app_length_lem app)
text_of_length (Field tag required) held = omega (arith, behind-key (numeral tag) (flag_text required) comma, numeral-length tag, flag-length required)
text_of_length (Group count delimiter required) held =
    omega (
      arith,
      behind-key (numeral count) (numeral delimiter ++ (comma ∷ flag_text required)) comma,
      behind-key (numeral delimiter) (flag_text required) comma,
      numeral-length count,
      numeral-length delimiter,
      flag-length required,
    )
text_of_length (Use name required) held = omega (arith, behind-key (numeral name) (flag_text required) comma, numeral-length name, flag-length required)
text_of_length (End number letters) held = end-text_length number letters held
text_of_length (Member tag) held = absurd held
text_of_length (RequiredTag tag) held = absurd held
text_of_length Unknown held = absurd held
