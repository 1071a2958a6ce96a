-- What a message walk reads, from lent words: the tags defined, as a list; the top of a layout's words, and the fields of a field table and a message
-- (`WalkWords.antt` of walk_steps). Assumes nothing.
--
--   required_from words number count    of so many groups from this number on, the count tags of those that are required
--   level_of defined words              the message level; the top's groups have the first numbers
--   events_with defined words fields message   the events of the message walk where these tags are defined
use Rattle.std.specs.Prelude.{ℕ, zero, suc, List, [], ◌∷◌, length, if◌then◌else◌}
use Rattle.ascii.specs.Notation.{◌≡ᵇ◌}
use Rattle.layouts.specs.LayoutWords.{level_required, level_count_tags, count_tag_at, flag_at}
use Rattle.events.specs.declared.event.Event.{Event}
use Rattle.walk_steps.specs.WalkWords.{among, group_of, input_of, top_members}
use Rattle.message_level.specs.MessageWalk.{MessageLevel, message_events}

unfoldable pub required_from : List ℕ → ℕ → ℕ → List ℕ
required_from words number zero = []
required_from words number (suc count) =
    if flag_at words number ≡ᵇ 1
    then count_tag_at words number ∷ required_from words (suc number) count
    else required_from words (suc number) count

abbrev pub level_of : List ℕ → List ℕ → MessageLevel ℕ
level_of defined words = record {
  is_defined = among defined;
  top_group = group_of words 0;
  allows = top_members words;
  required = level_required words 0;
  required_groups = required_from words 0 (length (level_count_tags words 0));
}

abbrev pub events_with : List ℕ → List ℕ → List ℕ → List ℕ → List Event
events_with defined words fields message = message_events (input_of words fields message) (level_of defined words)
