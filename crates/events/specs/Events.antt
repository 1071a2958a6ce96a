-- The events of a walk (document 01, 'The events of a walk'): the five words of each, which of them are faults, which come from groups.
-- `Kind` and `Event` are declared in src/event.rt. Assumes nothing.
--
--   kind_number kind     the first column of document 01's table: kind
--   kind_first kind      its column a
--   kind_second kind     its column b; in both "an unused word is 0"
--   flag_word flag       "1 well-formed .., else 0"
--   event_words event    "five 64-bit words: kind, group's count tag, depth, a, b"
--   events_words events  the words of the events, one behind the other
--   is_fault kind        the kind is that of a fault event
--   NoFault events      no event of the list is a fault event
--   of_groups events     the events of kinds 1 to 8, in their order
use Rattle.std.specs.Prelude.{◌≡◌, ℕ, Bool, false, List, [], ◌∷◌, ◌++◌, if◌then◌else◌}
use Rattle.ascii.specs.Notation.{◌≤ᵇ◌}
use Rattle.events.specs.declared.event.Kind.{Kind}
use Rattle.events.specs.declared.event.Kind.TheVariants.{Enter, BadCount, Delim, Repeat, Close, Miscount, Deep, Leave, Twice, Foreign, Missing}
use Rattle.events.specs.declared.event.Event.{Event}
use Rattle.ascii.specs.Membership.{◌∈ᵇ◌}

abbrev pub kind_number : Kind → ℕ
kind_number Enter = 1
kind_number (BadCount position) = 2
kind_number (Delim tag) = 3
kind_number (Repeat tag) = 4
kind_number (Close entry seen) = 5
kind_number (Miscount declared entries) = 6
kind_number Deep = 7
kind_number (Leave well-formed entries) = 8
kind_number (Twice tag) = 9
kind_number (Foreign tag) = 10
kind_number (Missing tag) = 11

abbrev pub flag_word : Bool → ℕ
flag_word flag = if flag then 1 else 0

abbrev pub kind_first : Kind → ℕ
kind_first Enter = 0
kind_first (BadCount position) = position
kind_first (Delim tag) = tag
kind_first (Repeat tag) = tag
kind_first (Close entry seen) = entry
kind_first (Miscount declared entries) = declared
kind_first Deep = 0
kind_first (Leave well-formed entries) = flag_word well-formed
kind_first (Twice tag) = tag
kind_first (Foreign tag) = tag
kind_first (Missing tag) = tag

abbrev pub kind_second : Kind → ℕ
kind_second Enter = 0
kind_second (BadCount position) = 0
kind_second (Delim tag) = 0
kind_second (Repeat tag) = 0
kind_second (Close entry seen) = seen
kind_second (Miscount declared entries) = entries
kind_second Deep = 0
kind_second (Leave well-formed entries) = entries
kind_second (Twice tag) = 0
kind_second (Foreign tag) = 0
kind_second (Missing tag) = 0

unfoldable pub event_words : Event → List ℕ
event_words event = kind_number event.kind ∷ event.count_tag ∷ event.depth ∷ kind_first event.kind ∷ kind_second event.kind ∷ []

unfoldable pub events_words : List Event → List ℕ
events_words [] = []
events_words (event ∷ rest) = event_words event ++ events_words rest

-- "Kinds 2, 3, 4, 6, 7 are the fault events."
abbrev pub is_fault : Kind → Bool
is_fault kind = kind_number kind ∈ᵇ (2 ∷ 3 ∷ 4 ∷ 6 ∷ 7 ∷ [])

abbrev pub NoFault : List Event → Type 0
NoFault [] = Unit {0}
NoFault (event ∷ rest) = (is_fault event.kind ≡ false) × NoFault rest

abbrev pub of_groups : List Event → List Event
of_groups [] = []
of_groups (event ∷ rest) = if kind_number event.kind ≤ᵇ 8 then event ∷ of_groups rest else of_groups rest
