-- What the functions of src/add_body.rt ask and promise: a body, a group or a use is added as the definition adds it (`Expansion.antt`), told by the trace
-- (`Adds`, Trace.antt), and a body is walked from its first line to behind its end. Assumes nothing.
--
--   group_at words group       the group of the tree that a group's line begins
--   fill_at words depth path collect place work   what is left of the body that is open at the place, added to the level in work
--   outcome_of filled          what was added, without the place
--   calls_left depth builder   the depths left and the nodes left: both fall from a group or a use to the body that it adds
--   Asks depth path builder                 a path that leaves room for the depths left in 33 names, and a builder that fits the limits
--   Fills change words place builder before filled after   the change is told by the trace, and the place that is given is behind the body at `place`
--   Uses change builder before added after  the same for a use, which gives no place
use Rattle.std.specs.Prelude.{◌≡◌, ℕ, ◌+◌, ◌-◌, ◌≤◌, ◌<◌, Bool, true, List, length, get_or, Result, Ok, Err}
use Rattle.layouts.specs.Limits.{gate_limits}
use Rattle.expansion.specs.declared.builder.Builder.{Builder}
use Rattle.bodies.specs.declared.add_body.GroupLine.{GroupLine}
use Rattle.expansion.specs.Dictionary.{GroupDef, group_def}
use Rattle.bodies.specs.DictionaryPlaces.{open_at}
use Rattle.dictionary.specs.DictionaryWords.{word_lines}
use Rattle.bodies.specs.DictionaryInWords.{dictionary_in}
use Rattle.bodies.specs.DictionaryLookups.{body_at, around_at}
use Rattle.expansion.specs.Expansion.{Work, fill_body, add_group, add_component}
use Rattle.expansion.specs.Trace.{Adds, Fits, Grows}
use Rattle.expansion.specs.declared.builder.Stop.{Stop}

abbrev pub group_at : List ℕ → GroupLine → GroupDef
group_at words group = group_def group.count group.delimiter group.required (body_at (word_lines words) group.first)

abbrev pub fill_at : List ℕ → ℕ → List ℕ → Bool → ℕ → Work → Work
fill_at words depth path collect place =
    fill_body gate_limits
    (add_group gate_limits (dictionary_in words) depth path collect)
    (add_component gate_limits (dictionary_in words) depth path collect)
    collect
    (body_at (word_lines words) place)

abbrev pub outcome_of : Result (ℕ × Builder) Stop → Result Builder Stop
outcome_of (Ok (place, next)) = Ok next
outcome_of (Err stop) = Err stop

-- "one of 4,096 nodes"
abbrev pub nodes_left : Builder → ℕ
nodes_left builder = 4096 - builder.nodes

abbrev pub calls_left : ℕ → Builder → ℕ
calls_left depth builder = depth + nodes_left builder

pub record Asks (depth : ℕ) (path : List ℕ) (builder : Builder) : Type 0 where
  pub deep : depth + length path ≤ 33
  pub fits : Fits builder

-- the place is behind the end of the body that was open at `place`
abbrev pub Ends : List ℕ → ℕ → Result (ℕ × Builder) Stop → Type 0
Ends words place (Ok (behind, next)) =
    (place < behind)
    × ((behind ≤ get_or words 0 0) × (open_at (word_lines words) behind ≡ around_at (word_lines words) place))
Ends words place (Err stop) = Unit

pub record Fills (change : Work → Work) (words : List ℕ) (place : ℕ) (builder : Builder) (before : List ℕ) (filled : Result (ℕ × Builder) Stop) (after : List ℕ) : Type 0 where
  pub adds : Adds change builder before (outcome_of filled) after
  pub grows : Grows builder (outcome_of filled)
  pub ends : Ends words place filled

pub record Uses (change : Work → Work) (builder : Builder) (before : List ℕ) (added : Result Builder Stop) (after : List ℕ) : Type 0 where
  pub adds : Adds change builder before added after
  pub grows : Grows builder added
