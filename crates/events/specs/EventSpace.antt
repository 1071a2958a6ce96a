-- Events written in lent words: five words an event, one event behind the other, each only where there is room. Assumes nothing.
--
--   put_in space at event       the words with the event's from `at` on, or as they were where it has no room
--   put_all_in space at events   the same for each of the events in turn
use Rattle.std.specs.Prelude.{ℕ, ◌+◌, List, [], ◌∷◌, length, if◌then◌else◌}
use Rattle.std.proofs.lemmas.List.Edits.{sets}
use Rattle.ascii.specs.Notation.{◌≤ᵇ◌}
use Rattle.events.specs.declared.event.Event.{Event}
use Rattle.events.specs.Events.{event_words}

unfoldable pub put_in : List ℕ → ℕ → Event → List ℕ
put_in space at event = if at + 5 ≤ᵇ length space then sets space at (event_words event) else space

unfoldable pub put_all_in : List ℕ → ℕ → List Event → List ℕ
put_all_in space at [] = space
put_all_in space at (event ∷ rest) = put_all_in (put_in space at event) (at + 5) rest
