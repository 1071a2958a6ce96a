-- `MessageType.antt` on small tables and lines. Assumes nothing.
use Rattle.std.specs.Prelude.{◌≡◌, refl, [], ◌∷◌, ◌++◌}
use Rattle.ascii.specs.Notation.{is_between}
use Rattle.ascii.specs.Bytes.{ascii, non_empty}
use Rattle.lines.specs.Lines.{position_of, longer, cut, lines_of}
use Rattle.lines.specs.LineParts.{no_leading_zero, number_of}
use Rattle.message_text.specs.MessageText.{field_line_of}
use Rattle.message_text.specs.MessageType.{stretch, type_place_of, type_in}

pub first_of_two : type_place_of (8 ∷ 2 ∷ 9 ∷ 35 ∷ 13 ∷ 14 ∷ 35 ∷ 18 ∷ 20 ∷ []) ≡ stretch 13 14
unfolding type_place_of
first_of_two = refl

pub no_type : type_place_of (8 ∷ 2 ∷ 9 ∷ []) ≡ stretch 0 0
unfolding type_place_of
no_type = refl

pub first-line : type_in (lines_of (ascii "8=FIX.4.4" ++ (10 ∷ ascii "35=AE") ++ (10 ∷ ascii "35=D") ++ (10 ∷ []))) ≡ ascii "AE"
unfolding position_of longer cut is_between non_empty no_leading_zero number_of field_line_of type_in
first-line = refl
