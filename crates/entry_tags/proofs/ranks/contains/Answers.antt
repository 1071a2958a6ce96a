-- `entry_tags::ranks::contains` meets its contract, by the law of one bit.
use Rattle.entry_tags.specs.EntryTagsLaws.{holds-is}
use Rattle.entry_tags.proofs.ranks.contains.Goals as goal

pub returns : goal.returns
returns c = rw c.mask_of.ensures (holds-is c.args.words.now c.args.rank)
