-- `MessageText.antt` on small texts: document 01's example, values with `=` and without bytes, and lines of another form. Assumes nothing.
use Rattle.std.specs.Prelude.{◌≡◌, refl, ℕ, List, [], ◌∷◌, ◌++◌, Ok, Err}
use Rattle.ascii.specs.Notation.{is_between}
use Rattle.ascii.specs.Bytes.{ascii, non_empty}
use Rattle.refusals.specs.declared.refusal.Refusal.TheVariants.{UnknownForm}
use Rattle.lines.specs.Lines.{position_of, longer, cut}
use Rattle.lines.specs.LineParts.{no_leading_zero, number_of}
use Rattle.message_text.specs.MessageText.{field_line_of, rows_from, table_of, count_from, message_text_of}

-- a line with its line feed
abbrev ended : List ℕ → List ℕ
ended line = line ++ (10 ∷ [])

-- "msg.txt: 35=D, 453=2, 448=A, 447=D, 448=B."
abbrev pub worked : List ℕ
worked = ended (ascii "35=D") ++ ended (ascii "453=2") ++ ended (ascii "448=A") ++ ended (ascii "447=D") ++ ended (ascii "448=B")

pub worked-fields : message_text_of worked ≡ Ok 5
unfolding position_of longer cut is_between non_empty no_leading_zero number_of field_line_of count_from message_text_of
worked-fields = refl

pub worked-table : table_of worked ≡ 35 ∷ 3 ∷ 4 ∷ 453 ∷ 9 ∷ 10 ∷ 448 ∷ 15 ∷ 16 ∷ 447 ∷ 21 ∷ 22 ∷ 448 ∷ 27 ∷ 28 ∷ []
unfolding position_of longer cut is_between non_empty no_leading_zero number_of field_line_of rows_from
worked-table = refl

-- the value is all behind the first `=`, perhaps empty; the tag 0 is allowed
pub values : table_of (ended (ascii "58==a=") ++ ended (ascii "0=")) ≡ 58 ∷ 3 ∷ 6 ∷ 0 ∷ 9 ∷ 9 ∷ []
unfolding position_of longer cut is_between non_empty no_leading_zero number_of field_line_of rows_from
values = refl

pub no_fields : message_text_of [] ≡ Ok 0
unfolding position_of longer cut is_between non_empty no_leading_zero number_of field_line_of count_from message_text_of
no_fields = refl

pub no_line_feed : message_text_of (ended (ascii "35=D") ++ ascii "58=a") ≡ Err (UnknownForm 2)
unfolding position_of longer cut is_between non_empty no_leading_zero number_of field_line_of count_from message_text_of
no_line_feed = refl

pub leading_zero : message_text_of (ended (ascii "035=D") ++ ended (ascii "58")) ≡ Err (UnknownForm 1)
unfolding position_of longer cut is_between non_empty no_leading_zero number_of field_line_of count_from message_text_of
leading_zero = refl

pub no_equals_sign : message_text_of (ended (ascii "35=D") ++ ended (ascii "58")) ≡ Err (UnknownForm 2)
unfolding position_of longer cut is_between non_empty no_leading_zero number_of field_line_of count_from message_text_of
no_equals_sign = refl

pub no_tag : message_text_of (ended (ascii "=D")) ≡ Err (UnknownForm 1)
unfolding position_of longer cut is_between non_empty no_leading_zero number_of field_line_of count_from message_text_of
no_tag = refl

pub empty_line : message_text_of (ended []) ≡ Err (UnknownForm 1)
unfolding position_of longer cut is_between non_empty no_leading_zero number_of field_line_of count_from message_text_of
empty_line = refl

pub large_tag : message_text_of (ended (ascii "4294967295=") ++ ended (ascii "4294967296=")) ≡ Err (UnknownForm 2)
unfolding position_of longer cut is_between non_empty no_leading_zero number_of field_line_of count_from message_text_of
large_tag = refl
