-- `message_level::missing::put_missing_groups` meets its contract: the groups before this one are looked at.
use Rattle.message_level.specs.MissingLaws.{GroupsWritten}
use Rattle.message_level.proofs.missing.put_missing_groups.Given as goal

abbrev pub invariant-loop-number : goal.invariant-loop-number
invariant-loop-number l = GroupsWritten l.seen.defined.tags.words.now l.seen.words.now l.layout.words.now l.initial.events l.at l.events l.number l.to
