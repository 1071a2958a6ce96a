-- Records of known forms: what the code asks of records before it counts the bytes of their lines. Assumes nothing.
--
--   is_known line                 the line is of a known form
--   AreKnown lines words         so many records are of known forms
use Rattle.std.specs.Prelude.{◌≡◌, ℕ, ◌*◌, ◌<◌, Bool, true, false, List, take, drop}
use Rattle.line_forms.specs.declared.line.Line.{Line}
use Rattle.line_forms.specs.declared.line.Line.TheVariants.{Def, Value, BeginHeader, BeginTrailer, EndHeader, EndTrailer, Component, Message, Field, Group, Use, End, Member, RequiredTag, Unknown}
use Rattle.records.specs.Records.{line_from}

-- the line is of a known form
unfoldable pub is_known : Line → Bool
is_known (Def tag place) = true
is_known (Value value) = true
is_known BeginHeader = true
is_known BeginTrailer = true
is_known EndHeader = true
is_known EndTrailer = true
is_known (Component name) = true
is_known (Message letters app) = true
is_known (Field tag required) = true
is_known (Group count delimiter required) = true
is_known (Use name required) = true
is_known (End read_number read_letters) = true
is_known (Member tag) = true
is_known (RequiredTag tag) = true
is_known Unknown = false

-- so many records are of known forms
abbrev pub AreKnown : ℕ → List ℕ → Type 0
AreKnown lines words = (index : ℕ) → index < lines → is_known (line_from (take 10 (drop (10 * index) words))) ≡ true
