-- `message_level::missing::put_missing_tags` meets its contract: the tags before this one are looked at.
use Rattle.message_level.specs.MissingLaws.{TagsWritten}
use Rattle.message_level.proofs.missing.put_missing_tags.Given as goal

abbrev pub invariant-loop-tag : goal.invariant-loop-tag
invariant-loop-tag l = TagsWritten l.seen.defined.tags.words.now l.seen.words.now l.required l.initial.events l.at l.events l.tag-index l.to
