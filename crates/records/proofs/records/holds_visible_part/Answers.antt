-- `records::records::holds_visible_part` meets its contract: a word behind the value's bytes is 0, one byte stands alone, else a byte at a time
-- (specs/WordTextLaws.antt).
use mathlib.Core.Path.{sym, ◌∙◌}
use native.Mathlib.Omega.{arith}
use Rattle.lines.specs.LineParts.{is_visible}
use Rattle.records.specs.WordTextLaws.{part-empty, part-other_first, part-other_second, part-of_two, part-other_third, part-of_three, part-of_four}
use borrow.Author.Rules.{rules}
use Rattle.records.proofs.records.holds_visible_part.Goals as goal

-- return word == 0;
pub returns-then-left-eq0 : goal.returns-then-left-eq0
returns-then-left-eq0 c = rw c.if-left-eq0.true (sym (part-empty is_visible _))

pub returns-then-left-eq1 : goal.returns-then-left-eq1
returns-then-left-eq1 c = rw c.if-left-eq1.true c.holds_one_visible.ensures

-- return false;
pub returns-then-not-is_visible : goal.returns-then-not-is_visible
returns-then-not-is_visible c = sym (part-other_first is_visible _ c.args.word (omega (arith, c.if-left-eq0.false)) (sym c.is_visible.ensures ∙ c.if-not-is_visible.true))

-- return false;
pub returns-then-not-is_visible-2 : goal.returns-then-not-is_visible-2
returns-then-not-is_visible-2 c = sym (part-other_second is_visible _ c.args.word (sym c.is_visible.ensures ∙ c.if-not-is_visible.false) (omega (arith, c.if-left-eq0.false, c.if-left-eq1.false)) (sym c.is_visible-2.ensures ∙ c.if-not-is_visible-2.true))

-- return word % 0x1_0000 == 0;
pub returns-then-left-eq2 : goal.returns-then-left-eq2
returns-then-left-eq2 c = sym (part-of_two is_visible _ c.args.word (sym c.is_visible.ensures ∙ c.if-not-is_visible.false) (sym c.is_visible-2.ensures ∙ c.if-not-is_visible-2.false) c.if-left-eq2.true)

-- return false;
pub returns-then-not-is_visible-3 : goal.returns-then-not-is_visible-3
returns-then-not-is_visible-3 c = sym (part-other_third is_visible _ c.args.word (sym c.is_visible.ensures ∙ c.if-not-is_visible.false) (sym c.is_visible-2.ensures ∙ c.if-not-is_visible-2.false) (omega (arith, c.if-left-eq0.false, c.if-left-eq1.false, c.if-left-eq2.false)) (sym c.is_visible-3.ensures ∙ c.if-not-is_visible-3.true))

-- return word % 0x100 == 0;
pub returns-then-left-eq3 : goal.returns-then-left-eq3
returns-then-left-eq3 c = sym (part-of_three is_visible _ c.args.word (sym c.is_visible.ensures ∙ c.if-not-is_visible.false) (sym c.is_visible-2.ensures ∙ c.if-not-is_visible-2.false) (sym c.is_visible-3.ensures ∙ c.if-not-is_visible-3.false) c.if-left-eq3.true)

-- pub fn holds_visible_part(left: u32, word: u32) -> bool
pub returns : goal.returns
returns c = c.is_visible-4.ensures ∙ sym (part-of_four is_visible _ c.args.word (sym c.is_visible.ensures ∙ c.if-not-is_visible.false) (sym c.is_visible-2.ensures ∙ c.if-not-is_visible-2.false) (sym c.is_visible-3.ensures ∙ c.if-not-is_visible-3.false) (omega (arith, c.if-left-eq0.false, c.if-left-eq1.false, c.if-left-eq2.false, c.if-left-eq3.false)))
