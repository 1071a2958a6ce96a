-- `layout_text::level_line::level_line` meets its contract, a form at a time.
use Rattle.std.proofs.Common.{arith}
use Rattle.std.proofs.lemmas.Grind.{common_steps}
use Rattle.layout_text.specs.LevelLines.{level_line_of}
use Rattle.layout_text.proofs.level_line.level_line.Goals as goal

pub returns-in-Member : goal.returns-in-Member
unfolding level_line_of
returns-in-Member c = rw c.in-Member.is

pub returns-in-RequiredTag : goal.returns-in-RequiredTag
unfolding level_line_of
returns-in-RequiredTag c = rw c.in-RequiredTag.is

pub returns-in-Group : goal.returns-in-Group
unfolding level_line_of
returns-in-Group c = rw c.in-Group.is

pub returns-in_default : goal.returns-in_default
unfolding level_line_of
returns-in_default c = grind (arith, common_steps)

pub returns-then-is_some : goal.returns-then-is_some
unfolding level_line_of
returns-then-is_some c = rw c.in-End.is (grind (arith, common_steps))

pub returns-else-is_some : goal.returns-else-is_some
unfolding level_line_of
returns-else-is_some c = rw c.in-End.is (grind (arith, common_steps))
