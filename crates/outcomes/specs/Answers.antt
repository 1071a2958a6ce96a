-- What each call answers, as an outcome (Outcome.antt): the answer of the call in its own crate. Assumes nothing.
--
--   words_outcome answer       an answer of `read_dictionary`, `read_layout`, `walk_message` or `check_values`: the words written
--   expand_outcome answer      an answer of `expand`: the words written, and the nodes spent
--   walk_outcome answer        an answer of `walk_group`: the words written, and the position after the group
use Rattle.std.specs.Prelude.{ℕ, Result, Ok, Err}
use Rattle.expand.specs.declared.expand_call.Expanded.{Expanded}
use Rattle.walk.specs.declared.walk_call.Walked.{Walked}
use Rattle.outcomes.specs.declared.outcome.Outcome.{Outcome}
use Rattle.outcomes.specs.Outcome.{refused_with, answered_with}
use Rattle.refusals.specs.declared.refusal.Refusal.{Refusal}

abbrev pub words_outcome : Result ℕ Refusal → Outcome
words_outcome (Ok words) = answered_with words 0
words_outcome (Err refusal) = refused_with refusal

abbrev pub expand_outcome : Result Expanded Refusal → Outcome
expand_outcome (Ok expanded) = answered_with expanded.words expanded.nodes
expand_outcome (Err refusal) = refused_with refusal

abbrev pub walk_outcome : Result Walked Refusal → Outcome
walk_outcome (Ok walked) = answered_with walked.words walked.position
walk_outcome (Err refusal) = refused_with refusal
