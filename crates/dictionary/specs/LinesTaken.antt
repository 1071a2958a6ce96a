-- Lines that are taken whatever their lengths, and the records of a kind counted: what the code keeps while it checks the lines (src/dictionary_check.rt).
-- Assumes nothing.
--
--   takes state number lines     lines from this number on, read in this state, are taken, each
--   count_one found kind          1 for a record of this kind
--   Counted lines words tags components messages   so many records are definitions, components and messages
use Rattle.std.specs.Prelude.{◌≡◌, ℕ, ◌+◌, Bool, ◌&&◌, List, [], ◌∷◌, if◌then◌else◌}
use Rattle.ascii.specs.Notation.{◌≡ᵇ◌}
use Rattle.line_forms.specs.declared.line.Line.{Line}
use Rattle.dictionary_order.specs.declared.dictionary_order.State.{State}
use Rattle.dictionary_order.specs.DictionaryOrder.{step_of, after, may_end}
use Rattle.dictionary.specs.DictionaryWords as kinds
use Rattle.dictionary.specs.DictionaryCheck.{is_taken, count_of}

-- every line is taken, and the text may end behind the last
unfoldable pub takes : State → ℕ → List Line → Bool
takes state number [] = may_end state
takes state number (line ∷ rest) = let step = step_of state number line in is_taken step && takes (after state step) (number + 1) rest

abbrev pub count_one : ℕ → ℕ → ℕ
count_one found kind = if found ≡ᵇ kind then 1 else 0

-- so many records are definitions, components and messages
pub record Counted (lines : ℕ) (words : List ℕ) (tags components messages : ℕ) : Type 0 where
  pub of_tags : tags ≡ count_of kinds.definitions lines words
  pub of_components : components ≡ count_of kinds.components lines words
  pub of_messages : messages ≡ count_of kinds.messages lines words
