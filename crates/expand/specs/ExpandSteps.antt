-- What the functions below `expand` promise (src/expand_call.rt): the answer and the lent words of `ExpandCall.antt`, for the layout
-- that a trace tells of. Assumes nothing.
--
--   told_answer trace nodes space, told_with trace nodes words   `layout_answer` and `layout_with` of that layout
--   ExpandedIn room dictionary type words answer after   the answer of `ExpandCall.antt` and what the lent words hold; or none, with the lent words as
--                                                        they were, where a trace of so many words has no room, which is fewer than 14,336
use Rattle.std.specs.Prelude.{◌≡◌, ℕ, ◌<◌, List, length, Option, Some, None, Result}
use Rattle.expansion.specs.Expansion as definition
use Rattle.arrange.specs.ArrangeGather.{layout_told}
use Rattle.expand.specs.declared.expand_call.Expanded.{Expanded}
use Rattle.expand.specs.ExpandCall.{layout_answer, layout_with, expanded_of, expanded_in}
use Rattle.refusals.specs.declared.refusal.Refusal.{Refusal}

abbrev pub told_answer : List ℕ → ℕ → ℕ → Result Expanded Refusal
told_answer trace nodes space = layout_answer (definition.Expanded (layout_told trace) nodes) space

abbrev pub told_with : List ℕ → ℕ → List ℕ → List ℕ
told_with trace nodes words = layout_with (definition.Expanded (layout_told trace) nodes) words

abbrev pub ExpandedIn : ℕ → List ℕ → List ℕ → List ℕ → Option (Result Expanded Refusal) → List ℕ → Type 0
ExpandedIn room dictionary type words (Some answer) after = (answer ≡ expanded_of dictionary type (length words)) × (after ≡ expanded_in dictionary type words)
ExpandedIn room dictionary type words None after = (room < 14336) × (after ≡ words)
