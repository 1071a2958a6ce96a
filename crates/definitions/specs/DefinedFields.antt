-- The fields that a dictionary text defines, over its lines. Document 01, 'The layout of a message type': "`def=TAG,TYPE`, TYPE spelled as a `FieldType`, each
-- followed by its `value=V` lines (none: every value admitted)". The Rust's `FieldDef` and `Dictionary::get_field` (schema.rs). Assumes nothing.
--
--   FieldDef                 what a `def` line and the `value` lines directly after it define: TAG, TYPE by its place among the names, each V by its bytes
--   field_line line           what a line says of a field
--   values_first lines        V of the `value` lines with which the lines begin
--   fields_in lines           what the lines define, in the text's order
--   field_in lines tag        the definition of the tag, if there is one
--   tags_in lines             TAG of each `def` line, in the text's order
--   is_admitted_by values value   "none: every value admitted": there are no values, or the value is one of them
use Rattle.std.specs.Prelude.{ℕ, Bool, true, false, ◌||◌, List, [], ◌∷◌, map, if◌then◌else◌}
use Rattle.ascii.specs.Notation.{◌≡ᵇ◌}
use Rattle.line_forms.specs.declared.line.Line.{Line}
use Rattle.line_forms.specs.declared.line.Line.TheVariants.{Def, Value, BeginHeader, BeginTrailer, EndHeader, EndTrailer, Component, Message, Field, Group, Use, End, Member, RequiredTag, Unknown}
use Rattle.lines.specs.Lines.{is_same}
use Rattle.records.specs.LineTexts.{value_text}

pub record FieldDef : Type 0 where
  pub tag : ℕ
  pub type : ℕ
  pub values : List (List ℕ)

-- ---- what a line says of a field

pub data FieldLine : Type 0 where
  defines : (tag type : ℕ) → FieldLine
  admits : (value : List ℕ) → FieldLine
  says_nothing : FieldLine

abbrev pub field_line : Line → FieldLine
field_line (Def tag type) = defines tag type
field_line (Value value) = admits (value_text value)
field_line BeginHeader = says_nothing
field_line BeginTrailer = says_nothing
field_line EndHeader = says_nothing
field_line EndTrailer = says_nothing
field_line (Component name) = says_nothing
field_line (Message letters app) = says_nothing
field_line (Field tag required) = says_nothing
field_line (Group count delimiter required) = says_nothing
field_line (Use name required) = says_nothing
field_line (End read_number read_letters) = says_nothing
field_line (Member tag) = says_nothing
field_line (RequiredTag tag) = says_nothing
field_line Unknown = says_nothing

-- ---- what the lines define

abbrev pub values_with : FieldLine → List (List ℕ) → List (List ℕ)
values_with (admits value) others = value ∷ others
values_with (defines tag type) others = []
values_with says_nothing others = []

unfoldable pub values_first : List Line → List (List ℕ)
values_first [] = []
values_first (line ∷ rest) = values_with (field_line line) (values_first rest)

abbrev pub fields_with : FieldLine → List (List ℕ) → List FieldDef → List FieldDef
fields_with (defines tag type) values others = record { tag = tag; type = type; values = values } ∷ others
fields_with (admits value) values others = others
fields_with says_nothing values others = others

unfoldable pub fields_in : List Line → List FieldDef
fields_in [] = []
fields_in (line ∷ rest) = fields_with (field_line line) (values_first rest) (fields_in rest)

-- ---- looking up

pub data FoundField : Type 0 where
  DefinedAs : FieldDef → FoundField
  NotDefined : FoundField

unfoldable pub field_called : ℕ → List FieldDef → FoundField
field_called tag [] = NotDefined
field_called tag (first ∷ others) = if first.tag ≡ᵇ tag then DefinedAs first else field_called tag others

abbrev pub field_in : List Line → ℕ → FoundField
field_in lines tag = field_called tag (fields_in lines)

abbrev pub tags_in : List Line → List ℕ
tags_in lines = map (λ (field : FieldDef). field.tag) (fields_in lines)

-- ---- admitted values

unfoldable pub is_one_of : List (List ℕ) → List ℕ → Bool
is_one_of [] value = false
is_one_of (first ∷ others) value = is_same first value || is_one_of others value

abbrev pub is_admitted_by : List (List ℕ) → List ℕ → Bool
is_admitted_by [] value = true
is_admitted_by (first ∷ others) value = is_one_of (first ∷ others) value
