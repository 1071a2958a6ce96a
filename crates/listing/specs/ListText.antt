-- The whole list (document 01, 'One list in full'): a line with the type and the number of fields, a line for each event, a line with the verdicts; or "the first
-- refusal prints `refused=N place=P` as the only line". Over the words that the calls of the gate wrote. `Shape` is declared in src/list_text.rt.
-- Assumes nothing.
--
--   words_line events index                                the line of the event at this index, from 0, of event words
--   words_lines events left index                          the lines of so many events from the index on
--   line_count listed                                      how many lines the list has
--   line_at listed message events verdicts index           the line at this index, from 0; no bytes where there is none
--   lines_from listed message events verdicts left index   so many lines from the index on, one after the other
--   printed listed message events verdicts                the text of the list
--   Held listed message events verdicts                   what is asked of the words that a list is printed from: that they hold what its shape says
use Rattle.std.specs.Prelude.{ℕ, zero, suc, ◌+◌, ◌*◌, ◌-◌, ◌≤◌, List, [], ◌++◌, length, get_or, take, if◌then◌else◌, Result, Ok, Err}
use Rattle.ascii.specs.Notation.{◌≤ᵇ◌, ◌≡ᵇ◌}
use Rattle.listing.specs.declared.list_text.Shape.{Shape}
use Rattle.list_lines.specs.ListLines.{type_line, event_line, verdict_line, refused_line}
use Rattle.message_text.specs.MessageType.{part_of}
use Rattle.refusals.specs.declared.refusal.Refusal.{Refusal}

-- "An event is five 64-bit words: kind, group's count tag, depth, a, b."
abbrev pub words_line : List ℕ → ℕ → List ℕ
words_line events index =
    event_line (get_or events (5 * index) 0) (get_or events (5 * index + 1) 0) (get_or events (5 * index + 2) 0) (get_or events (5 * index + 3) 0) (get_or events (5 * index + 4) 0)

unfoldable pub words_lines : List ℕ → ℕ → ℕ → List ℕ
words_lines events zero index = []
words_lines events (suc left) index = words_line events index ++ words_lines events left (suc index)

abbrev pub type_of : Shape → List ℕ → List ℕ
type_of shape message = part_of shape.message_type message

-- ---- line by line

abbrev pub line_count : Result Shape Refusal → ℕ
line_count (Ok shape) = shape.events + 2
line_count (Err refusal) = 1

module _ (message events verdicts : List ℕ) where
  unfoldable pub full_line : Shape → ℕ → List ℕ
  full_line shape index =
      if index ≡ᵇ 0 then type_line (type_of shape message) shape.fields
      else if index ≤ᵇ shape.events then words_line events (index - 1)
      else if index ≡ᵇ shape.events + 1 then verdict_line (take shape.fields verdicts)
      else []

  unfoldable pub line_at : Result Shape Refusal → ℕ → List ℕ
  line_at (Ok shape) index = full_line shape index
  line_at (Err refusal) index = if index ≡ᵇ 0 then refused_line refusal else []

  unfoldable pub lines_from : Result Shape Refusal → ℕ → ℕ → List ℕ
  lines_from listed zero index = []
  lines_from listed (suc left) index = line_at listed index ++ lines_from listed left (suc index)

  -- ---- the whole

  unfoldable pub printed : Result Shape Refusal → List ℕ
  printed (Ok shape) =
      type_line (type_of shape message) shape.fields
      ++ (words_lines events shape.events 0
      ++ verdict_line (take shape.fields verdicts))
  printed (Err refusal) = refused_line refusal

-- ---- what a list is printed from

pub record HeldShape (shape : Shape) (message events verdicts : List ℕ) : Type 0 where
  pub type_ordered : shape.message_type.first ≤ shape.message_type.past
  pub type_inside : shape.message_type.past ≤ length message
  pub few_bytes : length message ≤ 65536
  pub event_words_lem : 5 * shape.events ≤ length events
  pub verdict_words : shape.fields ≤ length verdicts
  pub few_fields : shape.fields ≤ 4096

abbrev pub Held : Result Shape Refusal → List ℕ → List ℕ → List ℕ → Type 0
Held (Ok shape) message events verdicts = HeldShape shape message events verdicts
Held (Err refusal) message events verdicts = Unit {0}
