-- The trace of an expansion: a word for each step, in the order of the steps. The lowest two bits of a word say which step it is:
--
--   0   a member of the level in work: tag × 4
--   1   an entry of its required list: tag × 4 + 1
--   2   a group is entered: (count tag × 2 + R) × 4 + 2. The count tag is a member of the level in work, and the entry level is in work now
--   3   a group is left: delimiter × 4 + 3. Its entry level is finished, and the level around is in work again
--
-- A tag has 32 bits, so a word is read by them whatever stands above. Assumes nothing.
--
--   tag_in word, count_tag_in word   the tag of a word, and that of a word of step 2
--   Frame                     a level in work, with the count tag and R of the group whose entry it is
--   after frames word         the levels in work, innermost first, after one step
--   run frames words          .. after the steps of these words
--   work_of builder level      what is in work where no error was met
--   First refusal builder     the first error met is this one
--   Stops stop trace builder  the first error met is the one that stops; or the trace has no room, and then it has not a word for each step that the limits allow
--   Adds change builder before added after   what was added to the trace is this change of the level in work, or why it stopped
--   SpendsNode builder name depth_left added   the same for a node, which is nothing in the trace
--   Entering count required word   the word is that of a group that is entered
--   Enters count required delimiter builder before added after   the same for entering a group: an entry level, which its delimiter begins, is
--                             in work above the level around, which has the count tag
--   Leaves delimiter builder before next after   the same for leaving a group
--   Fits builder              what was added and spent is within the limits, and the trace has a word for each step so far
--   Grows builder added       the builder that is given fits as well, with as many nodes spent or more
use Rattle.std.specs.Prelude.{◌≡◌, ℕ, ◌+◌, ◌≤◌, ◌<◌, ◌/◌, ◌%◌, Bool, false, List, [], ◌∷◌, ◌++◌, length, take, if◌then◌else◌, Result, Ok, Err}
use Rattle.ascii.specs.Notation.{◌≡ᵇ◌}
use Rattle.refusals.specs.declared.refusal.Refusal.{Refusal}
use Rattle.layouts.specs.Limits.{gate_limits}
use Rattle.layouts.specs.Layout.{group_of_lem}
use Rattle.expansion.specs.declared.builder.Builder as Code
use Rattle.expansion.specs.declared.builder.Stop.{Stop}
use Rattle.expansion.specs.declared.builder.Stop.TheVariants.{Error, NoRoom}
use Rattle.expansion.specs.Expansion.{Builder, OpenLevel, Work, Granted, Denied, empty_level, noted, finish_entry, spend, add_member, open_entry}

pub record Frame : Type 0 where
  pub count_tag : ℕ
  pub needed : Bool
  pub level : OpenLevel

abbrev pub with_level : OpenLevel → Frame → Frame
with_level level frame = record { count_tag = frame.count_tag; needed = frame.needed; level = level }

abbrev pub with_member : ℕ → OpenLevel → OpenLevel
with_member tag level = record { members = level.members ++ (tag ∷ []); required = level.required; groups = level.groups }

abbrev pub with_required : ℕ → OpenLevel → OpenLevel
with_required tag level = record { members = level.members; required = level.required ++ (tag ∷ []); groups = level.groups }

-- the entry level of a group is finished and stands in the level around
abbrev pub left : ℕ → Frame → List Frame → List Frame
left delimiter entry [] = []
left delimiter entry (around ∷ outer) =
    with_level
    (record {
      members = around.level.members;
      required = around.level.required;
      groups = around.level.groups ++ (group_of_lem entry.count_tag delimiter entry.needed (finish_entry delimiter entry.level) ∷ []);
    })
    around
    ∷ outer

abbrev pub tag_in : ℕ → ℕ
tag_in word = word / 4 % 4294967296

abbrev pub count_tag_in : ℕ → ℕ
count_tag_in word = word / 8 % 4294967296

unfoldable pub after : List Frame → ℕ → List Frame
after [] word = []
after (frame ∷ outer) word =
    if word % 4 ≡ᵇ 0 then with_level (with_member (tag_in word) frame.level) frame ∷ outer
    else if word % 4 ≡ᵇ 1 then with_level (with_required (tag_in word) frame.level) frame ∷ outer
    else if word % 4 ≡ᵇ 2
    then record { count_tag = count_tag_in word; needed = word / 4 % 2 ≡ᵇ 1; level = empty_level } ∷ with_level (with_member (count_tag_in word) frame.level) frame ∷ outer
    else left (tag_in word) frame outer

unfoldable pub run : List Frame → List ℕ → List Frame
run frames [] = frames
run frames (word ∷ words) = run (after frames word) words

-- the top level, before anything is added
abbrev pub at_start : List Frame
at_start = record { count_tag = 0; needed = false; level = empty_level } ∷ []

-- ---- what the code has

abbrev pub builder_of : Code.Builder → Builder
builder_of builder = record { nodes = builder.nodes; members = builder.members; required = builder.required; errors = [] }

abbrev pub work_of : Code.Builder → OpenLevel → Work
work_of builder level = record { builder = builder_of builder; level = level }

abbrev pub First : Refusal → Builder → Type 0
First refusal builder = (others : List Refusal) × (builder.errors ≡ refusal ∷ others)

abbrev pub Stops : Stop → List ℕ → Builder → Type 0
Stops (Error refusal) trace builder = First refusal builder
Stops NoRoom trace builder = length trace < 14336

-- the levels in work that the first words of a trace tell
abbrev pub InWork : Code.Builder → List ℕ → Frame → List Frame → Type 0
InWork builder trace frame outer = run at_start (take builder.len trace) ≡ frame ∷ outer

unfoldable pub Adds : (Work → Work) → Code.Builder → List ℕ → Result Code.Builder Stop → List ℕ → Type 0
Adds change builder before (Ok next) trace =
    (frame : Frame) (outer : List Frame)
    → InWork builder before frame outer
    → InWork next trace (with_level (change (work_of builder frame.level)).level frame) outer
    × ((change (work_of builder frame.level)).builder ≡ builder_of next)
Adds change builder before (Err stop) trace =
    (frame : Frame) (outer : List Frame) → InWork builder before frame outer → Stops stop trace (change (work_of builder frame.level)).builder

-- a node more, and a word of the trace more
abbrev pub node_more : Code.Builder → Code.Builder
node_more builder = record { nodes = builder.nodes + 1; members = builder.members; required = builder.required; len = builder.len }

abbrev pub word_more : Code.Builder → Code.Builder
word_more builder = record { nodes = builder.nodes; members = builder.members; required = builder.required; len = builder.len + 1 }

unfoldable pub SpendsNode : Code.Builder → ℕ → ℕ → Result Code.Builder Stop → Type 0
SpendsNode builder name depth_left (Ok next) =
    (next ≡ node_more builder)
    × ((level : OpenLevel) → spend gate_limits name depth_left (work_of builder level) ≡ Granted (work_of next level))
SpendsNode builder name depth_left (Err (Error refusal)) =
    (level : OpenLevel) → spend gate_limits name depth_left (work_of builder level) ≡ Denied (noted refusal (work_of builder level))
SpendsNode builder name depth_left (Err NoRoom) = ⊥

pub record Fits (builder : Code.Builder) : Type 0 where
  pub nodes : builder.nodes ≤ 4096
  pub members : builder.members ≤ 8192
  pub required : builder.required ≤ 2048
  pub len : builder.len ≤ builder.members + builder.required + builder.nodes

-- the next builder fits too, no node was given back, and where more words than one for each step were left, they still are
pub record Grown (builder next : Code.Builder) : Type 0 where
  pub fits : Fits next
  pub spent : builder.nodes ≤ next.nodes
  pub slack : next.len + (builder.members + builder.required + builder.nodes) ≤ builder.len + (next.members + next.required + next.nodes)

unfoldable pub Grows : Code.Builder → Result Code.Builder Stop → Type 0
Grows builder (Ok next) = Grown builder next
Grows builder (Err stop) = Unit

pub record Entering (count : ℕ) (required : Bool) (word : ℕ) : Type 0 where
  pub step : word % 4 ≡ 2
  pub tag : count_tag_in word ≡ count
  pub flag : (word / 4 % 2 ≡ᵇ 1) ≡ required

-- the entry level of a group that is entered, seen from the level around
abbrev pub entered : ℕ → ℕ → Work → Work
entered count delimiter work = open_entry gate_limits delimiter (add_member gate_limits count work)

unfoldable pub Enters : ℕ → Bool → ℕ → Code.Builder → List ℕ → Result Code.Builder Stop → List ℕ → Type 0
Enters count required delimiter builder before (Ok next) trace =
    (frame : Frame) (outer : List Frame)
    → InWork builder before frame outer
    → InWork next trace
    (record { count_tag = count; needed = required; level = (entered count delimiter (work_of builder frame.level)).level })
    (with_level (add_member gate_limits count (work_of builder frame.level)).level frame ∷ outer)
    × ((entered count delimiter (work_of builder frame.level)).builder ≡ builder_of next)
Enters count required delimiter builder before (Err stop) trace =
    (frame : Frame) (outer : List Frame)
    → InWork builder before frame outer
    → Stops stop trace (entered count delimiter (work_of builder frame.level)).builder

-- leaving a group is a word more and no error
unfoldable pub Leaves : ℕ → Code.Builder → List ℕ → Result Code.Builder Stop → List ℕ → Type 0
Leaves delimiter builder before (Ok next) trace =
    ((entry around : Frame) (outer : List Frame)
    → InWork builder before entry (around ∷ outer)
    → (run at_start (take next.len trace) ≡ left delimiter entry (around ∷ outer)) × (builder_of next ≡ builder_of builder))
    × ((next ≡ word_more builder) × Fits next)
Leaves delimiter builder before (Err (Error refusal)) trace = ⊥
Leaves delimiter builder before (Err NoRoom) trace = length trace < 14336
