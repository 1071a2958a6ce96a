-- `message_level::missing::put_missing_tags` meets its contract, by specs/MissingLaws.antt.
use Rattle.message_level.specs.MissingLaws.{tags-start, tags_more}
use Rattle.message_level.proofs.missing.put_missing_tags.Goals as goal

pub loop-tag-init : goal.loop-tag-init
loop-tag-init c = tags-start c.args.seen.now.defined.tags.words.now c.args.seen.now.words.now c.args.required.now c.args.events.now c.args.at

pub loop-tag-preserved : goal.loop-tag-preserved
loop-tag-preserved c = tags_more _ _ _ _ _ c.loop-tag.invariant c.loop-tag-test.true c.put_absent_tag-to.ensures.near c.put_absent_tag-to.ensures.wrote
