-- The verdict on a value by the record of its tag, and the space for the verdicts while the fields are judged: first it holds the number of each field's
-- record, then the verdicts. Assumes nothing.
--
--   recorded_verdict dictionary strict value number   the verdict on a value whose tag has the record with this number
--   record_of dictionary tag          the number of the record that defines the tag, or the number of all records, which is none's
--   words_from word left position     the words that are given for so many positions from this one on
--   filled_in word count space        the space with its first words replaced by those given for the positions from 0 on
--   Holds word count space           so many words of the space are those given for their positions
--   field_record dictionary fields position   the number of the record that defines the tag of the field at the position
use Rattle.std.specs.Prelude.{◌≡◌, ℕ, zero, suc, ◌+◌, ◌*◌, ◌<◌, Bool, List, [], ◌∷◌, ◌++◌, get_or, drop, if◌then◌else◌, Option, Some, None}
use Rattle.ascii.specs.Notation.{◌<ᵇ◌}
use Rattle.field_types.specs.FieldType.{type_numbered}
use Rattle.definitions.specs.declared.definitions.Definition.{Definition}
use Rattle.definitions.specs.Definitions.{definition_of, admits_value}
use Rattle.field_table.specs.FieldTable.{tag_of}
use Rattle.verdict.specs.declared.verdict.Verdict.{Verdict}
use Rattle.verdict.specs.declared.verdict.Verdict.TheVariants as verdicts
use Rattle.verdict.specs.Verdict.{typed_verdict}

unfoldable pub recorded_verdict : List ℕ → Bool → List ℕ → ℕ → Verdict
recorded_verdict dictionary strict value number =
    if number <ᵇ get_or dictionary 0 0
    then typed_verdict (admits_value dictionary number) strict value (type_numbered (get_or dictionary (4 + 10 * number + 2) 0))
    else verdicts.Undefined

abbrev pub record_with : List ℕ → Option Definition → ℕ
record_with dictionary (Some definition) = definition.number
record_with dictionary None = get_or dictionary 0 0

unfoldable pub record_of : List ℕ → ℕ → ℕ
record_of dictionary tag = record_with dictionary (definition_of dictionary tag)

unfoldable pub words_from : (ℕ → ℕ) → ℕ → ℕ → List ℕ
words_from word zero position = []
words_from word (suc left) position = word position ∷ words_from word left (suc position)

abbrev pub filled_in : (ℕ → ℕ) → ℕ → List ℕ → List ℕ
filled_in word count space = words_from word count 0 ++ drop count space

abbrev pub Holds : (ℕ → ℕ) → ℕ → List ℕ → Type 0
Holds word count space = (position : ℕ) → position < count → get_or space position 0 ≡ word position

abbrev pub field_record : List ℕ → List ℕ → ℕ → ℕ
field_record dictionary fields position = record_of dictionary (tag_of fields position)
