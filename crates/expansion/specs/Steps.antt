-- The steps of an expansion, as the words of its trace tell of them (Trace.antt). `Step` is declared in src/step.rt. Assumes nothing.
--
--   word_of step    the word of a step
--   step_of word    the step that a word tells of
--   Told word step  what the lowest two bits of a word and its tag say of its step
use Rattle.std.specs.Prelude.{◌≡◌, ℕ, ◌+◌, ◌*◌, ◌/◌, ◌%◌, Bool, true, false, if◌then◌else◌}
use Rattle.ascii.specs.Notation.{◌≡ᵇ◌}
use Rattle.expansion.specs.declared.step.Step.{Step}
use Rattle.expansion.specs.declared.step.Step.TheVariants.{Member, Required, Enter, Leave}
use Rattle.expansion.specs.Trace.{tag_in, count_tag_in}

abbrev pub word_of : Step → ℕ
word_of (Member tag) = tag * 4
word_of (Required tag) = tag * 4 + 1
word_of (Enter count true) = count * 8 + 6
word_of (Enter count false) = count * 8 + 2
word_of (Leave delimiter) = delimiter * 4 + 3

unfoldable pub step_of : ℕ → Step
step_of word =
    if word % 4 ≡ᵇ 0 then Member (tag_in word)
    else if word % 4 ≡ᵇ 1 then Required (tag_in word)
    else if word % 4 ≡ᵇ 2 then Enter (count_tag_in word) (word / 4 % 2 ≡ᵇ 1)
    else Leave (tag_in word)

abbrev pub Told : ℕ → Step → Type 0
Told word (Member tag) = (word % 4 ≡ 0) × (tag ≡ tag_in word)
Told word (Required tag) = (word % 4 ≡ 1) × (tag ≡ tag_in word)
Told word (Enter count needed) = (word % 4 ≡ 2) × ((count ≡ count_tag_in word) × (needed ≡ (word / 4 % 2 ≡ᵇ 1)))
Told word (Leave delimiter) = (word % 4 ≡ 3) × (delimiter ≡ tag_in word)
