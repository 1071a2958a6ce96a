-- What `read_layout` gives and writes. Document 01, 'When the gate says no': "Layout text: then 10, 11, 13", behind refusals 1 to 4 of the
-- text (`layout_text_of`); "A refusal writes nothing; an answer leaves the words behind its last one as they were." Refusal 10: "members of all
-- levels may number 8,192 and the entries of all required lists 2,048"; nothing is dropped of a hand-made layout. Refusal 13: "words needed".
-- Assumes nothing.
--
--   read_outcome text room    how many words the layout takes, or the refusal, where there is room for so many words
--   read_words text words     the words afterwards
use Rattle.std.specs.Prelude.{ℕ, List, ◌++◌, length, drop, if◌then◌else◌, Result, Ok, Err, Option, Some, None}
use Rattle.ascii.specs.Notation.{◌≤ᵇ◌}
use Rattle.refusals.specs.declared.refusal.Refusal.{Refusal}
use Rattle.refusals.specs.declared.refusal.Refusal.TheVariants.{MembersOver, RuleBroken, SpaceShort}
use Rattle.layout_text.specs.LayoutText.{layout_text_of}
use Rattle.layouts.specs.Limits.{gate_limits}
use Rattle.layouts.specs.Layout.{Layout}
use Rattle.layouts.specs.LayoutRules.{meets_limits}
use Rattle.layouts.specs.LayoutWords.{arranged}
use Rattle.layout_text.specs.LayoutOfText.{layout_of}
use Rattle.layout_rules.specs.FirstBroken.{first_broken}

-- row 13
abbrev pub space_outcome : ℕ → ℕ → Result ℕ Refusal
space_outcome needed room = if needed ≤ᵇ room then Ok needed else Err (SpaceShort needed)

-- row 11, then 13
abbrev pub rules_outcome : Option (ℕ × ℕ) → ℕ → ℕ → Result ℕ Refusal
rules_outcome (Some (rule, tag)) needed room = Err (RuleBroken rule tag)
rules_outcome None needed room = space_outcome needed room

-- row 10, then 11 and 13
unfoldable pub layout_outcome : Layout → ℕ → Result ℕ Refusal
layout_outcome layout room =
    if meets_limits gate_limits layout
    then rules_outcome (first_broken layout) (length (arranged layout)) room
    else Err MembersOver

-- rows 1 to 4 first
abbrev pub order_outcome : Result ℕ Refusal → Layout → ℕ → Result ℕ Refusal
order_outcome (Ok lines) layout room = layout_outcome layout room
order_outcome (Err refusal) layout room = Err refusal

unfoldable pub read_outcome : List ℕ → ℕ → Result ℕ Refusal
read_outcome text room = order_outcome (layout_text_of text) (layout_of text) room

abbrev pub written_in : Result ℕ Refusal → Layout → List ℕ → List ℕ
written_in (Ok needed) layout words = arranged layout ++ drop needed words
written_in (Err refusal) layout words = words

unfoldable pub read_words : List ℕ → List ℕ → List ℕ
read_words text words = written_in (read_outcome text (length words)) (layout_of text) words
