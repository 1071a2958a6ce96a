-- What a dictionary defines, looked up in its words (`DictionaryWords.antt`) as the code does it. A name is searched in its index; what is found is the number of its
-- record. That this is what the lines of the text define is `DefinedFieldsLaws.antt`, of components and messages expansion's DictionaryLookups.antt.
-- Assumes nothing.
--
--   record_in at count name words    the number of the record that the index at this place, of so many names, gives the name, or Nothing
--   definition_of words tag          the definition of the tag: the place of its TYPE among the names of `FieldType`, and the number of its record
--   component_of words name          the number of the record of component N
--   message_of words value           the number of the record of the message whose T is this value of a field 35
--   line_numbered words number       the line of the record with this number: a body's lines are those behind its component's, message's or group's line
--   is_among value left at words     the value is that of one of the `left` records from this place on, as long as they are `value=V` lines
--   is_enumerated words number       the definition with this record has admitted values: a `value=V` line stands behind it
--   admits_value words number value  "`value=V` lines (none: every value admitted)": the definition with this record admits the value
use Rattle.std.specs.Prelude.{ℕ, zero, suc, ◌+◌, ◌*◌, ◌-◌, Bool, true, false, ◌&&◌, ◌||◌, List, get_or, take, drop, if◌then◌else◌, Option, Some, None}
use Rattle.ascii.specs.Notation.{◌≡ᵇ◌}
use Rattle.ascending.specs.Search.{rank_in}
use Rattle.line_forms.specs.declared.line.Line.{Line}
use Rattle.lines.specs.declared.line_parts.Admitted.{Admitted}
use Rattle.lines.specs.LineParts.{message_type_of, value_of}
use Rattle.definitions.specs.declared.definitions.Definition.{Definition}
use Rattle.records.specs.Records.{admitted_from, line_from}
use Rattle.dictionary.specs.DictionaryCheck.{tags_at, components_at, messages_at}

-- the number of the record stands as far behind the index's names as the name stands among them
abbrev pub number_at : ℕ → List ℕ → Option ℕ → Option ℕ
number_at past words (Some rank) = Some (get_or words (past + rank) 0)
number_at past words None = None

unfoldable pub record_in : ℕ → ℕ → ℕ → List ℕ → Option ℕ
record_in at count name words = number_at (at + count) words (rank_in (take count (drop at words)) name)

abbrev pub definition_at : List ℕ → Option ℕ → Option Definition
definition_at words (Some number) = Some (record { type_place = (get_or words (4 + 10 * number + 2) 0); number = number })
definition_at words None = None

unfoldable pub definition_of : List ℕ → ℕ → Option Definition
definition_of words tag = definition_at words (record_in (tags_at words) (get_or words 1 0) tag words)

unfoldable pub component_of : List ℕ → ℕ → Option ℕ
component_of words name = record_in (components_at words) (get_or words 2 0) name words

abbrev pub message_with : List ℕ → Option ℕ → Option ℕ
message_with words (Some letters) = record_in (messages_at words) (get_or words 3 0) letters words
message_with words None = None

unfoldable pub message_of : List ℕ → List ℕ → Option ℕ
message_of words value = message_with words (message_type_of value)

unfoldable pub line_numbered : List ℕ → ℕ → Line
line_numbered words number = line_from (take 10 (drop (4 + 10 * number) words))

-- ---- admitted values

unfoldable pub is_same_value : Admitted → Admitted → Bool
is_same_value one other =
    one.len ≡ᵇ other.len
    && (one.word0 ≡ᵇ other.word0
    && (one.word1 ≡ᵇ other.word1
    && (one.word2 ≡ᵇ other.word2
    && (one.word3 ≡ᵇ other.word3
    && (one.word4 ≡ᵇ other.word4
    && (one.word5 ≡ᵇ other.word5
    && (one.word6 ≡ᵇ other.word6 && one.word7 ≡ᵇ other.word7)))))))

unfoldable pub is_among : Admitted → ℕ → ℕ → List ℕ → Bool
is_among value zero at words = false
is_among value (suc left) at words =
    if get_or words at 0 ≡ᵇ 2
    then is_same_value (admitted_from (take 10 (drop at words))) value || is_among value left (at + 10) words
    else false

-- a value that no `value=V` line can have is none of them
abbrev pub among_with : Option Admitted → ℕ → ℕ → List ℕ → Bool
among_with (Some value) left at words = is_among value left at words
among_with None left at words = false

unfoldable pub is_enumerated : List ℕ → ℕ → Bool
is_enumerated words number = if get_or words 0 0 - number - 1 ≡ᵇ 0 then false else get_or words (4 + 10 * number + 10) 0 ≡ᵇ 2

unfoldable pub admits_value : List ℕ → ℕ → List ℕ → Bool
admits_value words number value =
    if get_or words 0 0 - number - 1 ≡ᵇ 0 then true
    else if get_or words (4 + 10 * number + 10) 0 ≡ᵇ 2 then among_with (value_of value) (get_or words 0 0 - number - 1) (4 + 10 * number + 10) words
    else true
