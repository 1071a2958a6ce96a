-- `message_level::missing::put_missing_groups` meets its contract, by specs/MissingLaws.antt.
use Rattle.message_level.specs.MissingLaws.{groups-start, groups-more}
use Rattle.message_level.proofs.missing.put_missing_groups.Goals as goal

pub loop-number-init : goal.loop-number-init
loop-number-init c = groups-start c.args.seen.now.defined.tags.words.now c.args.seen.now.words.now c.args.layout.words.now c.args.events.now c.args.at

pub loop-number-preserved : goal.loop-number-preserved
loop-number-preserved c = groups-more _ _ _ _ _ c.loop-number.invariant c.put_absent_group-to.ensures.near c.put_absent_group-to.ensures.wrote
