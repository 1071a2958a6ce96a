-- The verdict on a value. Document 01, 'The verdict on a value': "0 good, 1 tag undefined, 2 wrong format, 3 not admitted. Reference: `check_value`." The Rust's
-- `check_value` (validator.rs): "Checks that a field is defined, well-formed for its type, and — when enumerated — carries a defined value." `Verdict` is declared
-- in src/verdict.rt. The dictionary is given by the lines of its text; what they define is said in DefinedFields.antt of definitions. Assumes nothing.
--
-- The Rust looks at the text that `from_utf8_lossy` makes of the value; here the raw bytes are judged. That is the same: of the format see docs/DIFFERENCES.md and
-- `cut-before_or_behind` (multi_values, MultiValueOrder.antt); of the admitted values `admitted-by_characters` (AdmittedCharacters.antt).
--
--   verdict_word verdict                        document 01's number of the verdict
--   has_format strict type value                the value has the form of its type, and in strict mode its ranges
--   admits_each admits value                    every token of the value, cut at its spaces, is admitted
--   is_admitted admits type value               the value of a field of this type is admitted, where `admits` says which single values are
--   typed_verdict admits strict value type      the verdict on a value of this type
--   defined_verdict strict value field          the verdict on a value whose tag has this definition, or none
--   check_value lines strict tag value          the verdict on the value of a field with this tag
use Rattle.std.specs.Prelude.{ℕ, Bool, List, if◌then◌else◌, Option, Some, None}
use Prim.Native.Char.{code}
use Rattle.ascii.specs.Split.{split, every_part}
use Rattle.field_types.specs.declared.field_type.FieldType.{FieldType}
use Rattle.field_types.specs.FieldType.{type_numbered, is_multi_value}
use Rattle.formats.specs.FieldValue.{is_valid_value, is_strict_value}
use Rattle.line_forms.specs.declared.line.Line.{Line}
use Rattle.definitions.specs.DefinedFields.{FoundField, DefinedAs, NotDefined, field_in, is_admitted_by}
use Rattle.verdict.specs.declared.verdict.Verdict.{Verdict}
use Rattle.verdict.specs.declared.verdict.Verdict.TheVariants.{Good, Undefined, WrongFormat, NotAdmitted}

abbrev pub verdict_word : Verdict → ℕ
verdict_word Good = 0
verdict_word Undefined = 1
verdict_word WrongFormat = 2
verdict_word NotAdmitted = 3

-- "Strict mode, added: after the Rust's format test, before admitted values and with verdict 2 on failure, MonthYear, UtcDateOnly, LocalMktDate, UtcTimeOnly and
-- UtcTimestamp also need month 01-12, day 01-31, hour 00-23, minute 00-59, second 00-60."
abbrev pub has_format : Bool → FieldType → List ℕ → Bool
has_format strict type value = if strict then is_strict_value type value else is_valid_value type value

module _ (admits : List ℕ → Bool) where
  -- "A multi-value field carries a space-separated list, and every token has to be in the enumeration." (validator.rs)
  unfoldable pub admits_each : List ℕ → Bool
  admits_each value = every_part admits (split (code " ") value)

  abbrev pub is_admitted : FieldType → List ℕ → Bool
  is_admitted type value = if is_multi_value type then admits_each value else admits value

  -- the second clause is never met: every TYPE that a line can have has its number (`definition-known`, DefinitionFacts.antt)
  abbrev pub typed_verdict : Bool → List ℕ → Option FieldType → Verdict
  typed_verdict strict value (Some type) =
      if has_format strict type value
      then if is_admitted type value then Good else NotAdmitted
      else WrongFormat
  typed_verdict strict value None = Undefined

abbrev pub defined_verdict : Bool → List ℕ → FoundField → Verdict
defined_verdict strict value (DefinedAs field) = typed_verdict (is_admitted_by field.values) strict value (type_numbered field.type)
defined_verdict strict value NotDefined = Undefined

unfoldable pub check_value : List Line → Bool → ℕ → List ℕ → Verdict
check_value lines strict tag value = defined_verdict strict value (field_in lines tag)
