-- The dictionary that words tell, line by line, and the expansion of a message type in it: one dictionary serves as transport and
-- application (document 01, 'Files, leaves first'), under the limits of the gate. Assumes nothing.
--
--   dictionary_in words      the tree of the lines that the words tell
--   expansion_in words type  the layout of the message type and the nodes spent, or the refusal
use Rattle.std.specs.Prelude.{ℕ, List}
use Rattle.dictionary.specs.DictionaryWords.{word_lines}
use Rattle.layouts.specs.Limits.{gate_limits}
use Rattle.expansion.specs.Dictionary.{Dictionary, dictionary_of}
use Rattle.expansion.specs.Expansion.{Expansion, expand_of}

abbrev pub dictionary_in : List ℕ → Dictionary
dictionary_in words = dictionary_of (word_lines words)

abbrev pub expansion_in : List ℕ → List ℕ → Expansion
expansion_in words type = expand_of gate_limits (dictionary_in words) (dictionary_in words) type
