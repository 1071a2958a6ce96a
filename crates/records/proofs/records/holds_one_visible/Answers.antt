-- `records::records::holds_one_visible` meets its contract: the bytes behind the first are 0 together (specs/WordTextLaws.antt).
use mathlib.Core.Path.{sym, ◌∙◌}
use Rattle.lines.specs.LineParts.{is_visible}
use Rattle.records.specs.WordTextLaws.{part-one, part-one_more}
use borrow.Author.Rules.{rules}
use Rattle.records.proofs.records.holds_one_visible.Goals as goal

-- return false;
pub returns-then-word-ne0 : goal.returns-then-word-ne0
returns-then-word-ne0 c = sym (part-one_more c.args.word is_visible c.if-word-ne0.true)

-- fn holds_one_visible(word: u32) -> bool
pub returns : goal.returns
returns c = c.is_visible.ensures ∙ sym (part-one c.args.word is_visible c.if-word-ne0.false)
