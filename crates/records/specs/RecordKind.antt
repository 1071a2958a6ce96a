-- The kinds of a dictionary's records and their numbers (`Records.antt` lists what follows each). Assumes nothing.
--
--   kind_number kind        the number of a kind: the first word of its records
--   record_kinds            the 13 kinds in the order of their numbers, from 1
--   kind_numbered number    the kind with this number, where there is one
use Rattle.std.specs.Prelude.{ℕ, zero, suc, List, [], ◌∷◌, slice_get, Option, Some, None, Result, Ok, Err}
use Rattle.records.specs.declared.record_kind.RecordKind.{RecordKind}
use Rattle.records.specs.declared.record_kind.RecordKind.TheVariants.{Def, Value, BeginHeader, BeginTrailer, Component, Message, Field, Group, Use, EndHeader, EndTrailer, EndLetters, EndNumber}
use Rattle.records.specs.declared.record_kind.UnknownKind.{UnknownKind}

abbrev pub kind_number : RecordKind → ℕ
kind_number Def = 1
kind_number Value = 2
kind_number BeginHeader = 3
kind_number BeginTrailer = 4
kind_number Component = 5
kind_number Message = 6
kind_number Field = 7
kind_number Group = 8
kind_number Use = 9
kind_number EndHeader = 10
kind_number EndTrailer = 11
kind_number EndLetters = 12
kind_number EndNumber = 13

abbrev pub record_kinds : List RecordKind
record_kinds =
    Def
    ∷ Value
    ∷ BeginHeader
    ∷ BeginTrailer
    ∷ Component
    ∷ Message
    ∷ Field
    ∷ Group
    ∷ Use
    ∷ EndHeader
    ∷ EndTrailer
    ∷ EndLetters
    ∷ EndNumber
    ∷ []

abbrev pub or_unknown : Option RecordKind → Result RecordKind UnknownKind
or_unknown (Some kind) = Ok kind
or_unknown None = Err (record {})

unfoldable pub kind_numbered : ℕ → Result RecordKind UnknownKind
kind_numbered zero = Err (record {})
kind_numbered (suc place) = or_unknown (slice_get record_kinds place)
