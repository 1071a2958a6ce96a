-- `levels::members::level_of`: the count tags before this one lead to `level`.
use Rattle.levels.specs.MembersLaws.{AlongSoFar}
use Rattle.levels.proofs.members.level_of.Given as goal

abbrev pub invariant-loop-tag : goal.invariant-loop-tag
invariant-loop-tag l = AlongSoFar l.words l.path l.tag-index l.level
