-- The call `expand` (document 01, 'The layout of a message type' and 'When the gate says no'): what it answers, and what the lent words hold afterwards.
-- "Expansion: 6, then 7 to 10 as met, then 13." Lent words that are no accepted dictionary's are refused before that: "it refuses dictionary words with 2
-- .., place 0". Row 13: "event, verdict, dictionary or layout space short", place "words needed". "A refusal writes nothing; an answer leaves the words
-- behind its last one as they were." `Expanded` is declared in src/expand_call.rt; number and place of a refusal are in `Refusal.antt` of refusals. Assumes nothing.
--
--   layout_answer expansion space         13, or how many nodes were spent and how many words are written; 6 to 10 before it
--   layout_with expansion words           what the lent words hold afterwards
--   expanded_of dictionary type space     what the call answers on these dictionary words, where so many words are lent
--   expanded_in dictionary type words     what the lent words hold afterwards
use Rattle.std.specs.Prelude.{ℕ, List, ◌++◌, length, drop, if◌then◌else◌, Result, Ok, Err}
use Rattle.ascii.specs.Notation.{◌≤ᵇ◌}
use Rattle.refusals.specs.declared.refusal.Refusal.TheVariants.{UnknownForm, SpaceShort}
use Rattle.dictionary.specs.DictionaryCheck.{is_dictionary}
use Rattle.layouts.specs.LayoutWords.{arranged}
use Rattle.expand.specs.declared.expand_call.Expanded.{Expanded}
use Rattle.expansion.specs.Expansion as definition
use Rattle.bodies.specs.DictionaryInWords.{expansion_in}
use Rattle.refusals.specs.declared.refusal.Refusal.{Refusal}

abbrev pub layout_answer : definition.Expansion → ℕ → Result Expanded Refusal
layout_answer (definition.Expanded layout nodes) space =
    if length (arranged layout) ≤ᵇ space then Ok (record { nodes = nodes; words = (length (arranged layout)) }) else Err (SpaceShort (length (arranged layout)))
layout_answer (definition.Refused refusal) space = Err refusal

abbrev pub layout_with : definition.Expansion → List ℕ → List ℕ
layout_with (definition.Expanded layout nodes) words =
    if length (arranged layout) ≤ᵇ length words then arranged layout ++ drop (length (arranged layout)) words else words
layout_with (definition.Refused refusal) words = words

unfoldable pub expanded_of : List ℕ → List ℕ → ℕ → Result Expanded Refusal
expanded_of dictionary type space = if is_dictionary dictionary then layout_answer (expansion_in dictionary type) space else Err (UnknownForm 0)

unfoldable pub expanded_in : List ℕ → List ℕ → List ℕ → List ℕ
expanded_in dictionary type words = if is_dictionary dictionary then layout_with (expansion_in dictionary type) words else words
