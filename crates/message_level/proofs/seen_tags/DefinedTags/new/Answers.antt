-- `message_level::seen_tags::DefinedTags::new` meets its contract: the tags ascend.
use Rattle.ascending.specs.SearchLaws.{strictly_is_strictly_ascending}
use Rattle.message_level.proofs.seen_tags.DefinedTags.new.Goals as goal

pub invariant_of-result : goal.invariant_of-result
invariant_of-result c = record { ascends = strictly_is_strictly_ascending _ c.requires.ascends }
