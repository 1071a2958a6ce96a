-- The type of a message (document 01, 'One list in full'): "type from the first 35, else empty". The first field whose tag is 35, wherever it stands.
-- `Stretch` is declared in src/message_type.rt. Assumes nothing.
--
--   is_type row            the row is that of a 35
--   type_place_of fields    where the value of the first 35 of a field table stands in the message; an empty stretch where there is none
--   part_of stretch text   the bytes of the stretch
--   type_in lines          the value of the first line whose tag is 35, else no bytes
use Rattle.std.specs.Prelude.{ℕ, ◌-◌, Bool, List, [], ◌∷◌, get_or, take, drop, if◌then◌else◌, Option, Some, None}
use Rattle.ascii.specs.Notation.{◌≡ᵇ◌}
use Rattle.lines.specs.Lines.{behind, Pieces, last, piece}
use Rattle.message_text.specs.declared.message_type.Stretch.{Stretch}
use Rattle.message_text.specs.MessageText.{equals_sign, field_line_of}

abbrev pub stretch : ℕ → ℕ → Stretch
stretch first past = record { first = first; past = past }

-- FIX's MsgType (35)
abbrev pub type_tag : ℕ
type_tag = 35

-- a row of the type
abbrev pub is_type : List ℕ → Bool
is_type row = get_or row 0 0 ≡ᵇ type_tag

unfoldable pub type_place_of : List ℕ → Stretch
type_place_of [] = stretch 0 0
type_place_of (tag ∷ []) = stretch 0 0
type_place_of (tag ∷ first ∷ []) = stretch 0 0
type_place_of (tag ∷ first ∷ past ∷ others) = if tag ≡ᵇ type_tag then stretch first past else type_place_of others

abbrev pub part_of : Stretch → List ℕ → List ℕ
part_of part text = take (part.past - part.first) (drop part.first text)

abbrev pub type_with : List ℕ → Option (ℕ × ℕ) → List ℕ → List ℕ
type_with line (Some (tag, value)) others = if tag ≡ᵇ type_tag then behind equals_sign line else others
type_with line None others = others

unfoldable pub type_in : Pieces → List ℕ
type_in (last bytes) = []
type_in (piece line others) = type_with line (field_line_of line) (type_in others)
