-- Runs of lines that leave the state as it is: `def` and `value` lines while definitions are read, `field` lines while a body has nothing else. Most lines of a
-- dictionary stand in one. Assumes nothing.
--
--   HoldsShort len word                          the word holds a value of so many bytes, at most four
--   FewDigits digits names                       no number up to the one in the upper half of `names` has more digits
--   run_length definitions record                 how long the line of the record is, where it belongs to a run of definitions, or else of fields; 0 where it does not
--   IsRun definitions lines bytes tags words     so many records at the head of these words are a run that has at most so many bytes and defines so many tags
--   FewIn run count                              the run has at most so many lines, and few bytes and tags
--   PassedOver standing lines bytes tags words   so many lines leave this standing as it is, have at most so many bytes and define so many tags
use Rattle.std.specs.Prelude.{◌≡◌, ℕ, ◌+◌, ◌*◌, ◌-◌, ◌/◌, ◌≤◌, ◌<◌, Bool, true, false, ◌&&◌, List, get_or, take, drop, if◌then◌else◌}
use Rattle.ascii.specs.Notation.{◌≡ᵇ◌}
use Rattle.dictionary_order.specs.declared.dictionary_order.Stage.TheVariants.{Definitions}
use Rattle.dictionary_order.specs.declared.dictionary_order.Part.TheVariants.{NoBody}
use Rattle.dictionary_order.specs.DictionaryOrder as order
use Rattle.lines.specs.LineParts.{is_visible}
use Rattle.records.specs.Records.{holds_part, def_from, value_from, field_from, lines_from}
use Rattle.records.specs.LineLengths.{digit_count, length_of, text_length}
use Rattle.dictionary.specs.LinesTaken.{takes, Counted}
use Rattle.dictionary.specs.LineOrder.{state_of}
use Rattle.dictionary.specs.declared.line_order.Standing.{Standing}
use Rattle.dictionary.specs.declared.line_runs.Run.{Run}

abbrev pub HoldsShort : ℕ → ℕ → Type 0
HoldsShort len word = (1 ≤ len) × ((len ≤ 4) × (holds_part is_visible len word ≡ true))

abbrev pub FewDigits : ℕ → ℕ → Type 0
FewDigits digits names = (tag : ℕ) → tag ≤ names / 4294967296 → digit_count tag ≤ digits

unfoldable pub run_length : Bool → List ℕ → ℕ
run_length true record' =
    if get_or record' 0 0 ≡ᵇ 2 then length_of (value_from record')
    else if get_or record' 0 0 ≡ᵇ 1 then length_of (def_from record')
    else 0
run_length false record' = if get_or record' 0 0 ≡ᵇ 7 then length_of (field_from record') else 0

pub record IsRun (definitions : Bool) (lines bytes tags : ℕ) (words : List ℕ) : Type 0 where
  pub each : (index : ℕ) → index < lines → run_length definitions (take 10 (drop (10 * index) words)) ≡ 0 → ⊥
  pub counted : Counted lines words tags 0 0
  pub short : text_length (lines_from lines words) ≤ bytes

-- the run is one of so many records, and its bytes and tags are few enough to be added up
abbrev pub FewIn : Run → ℕ → Type 0
FewIn run count = (run.lines ≤ count) × ((run.bytes ≤ 271 * run.lines) × (run.tags ≤ run.lines))

-- definitions are being read, and a further one leaves the standing as it is
unfoldable pub is_among_definitions : Standing → Bool
is_among_definitions standing =
    order.is_at Definitions standing.stage
    && (order.part_number standing.part ≡ᵇ order.part_number NoBody && (standing.name ≡ᵇ 0 && standing.depth ≡ᵇ 0))

pub record PassedOver (standing : Standing) (lines bytes tags : ℕ) (words : List ℕ) : Type 0 where
  pub stays : (counts : List ℕ) (number count : ℕ) → lines ≤ count
      → takes (state_of standing counts) number (lines_from count words)
      ≡ takes (state_of standing counts) (number + lines) (lines_from (count - lines) (drop (10 * lines) words))
  pub counted : Counted lines words tags 0 0
  pub short : text_length (lines_from lines words) ≤ bytes
