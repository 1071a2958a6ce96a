-- `entry_tags::ranks::insert` meets its contract, by the law of one bit.
use Rattle.std.proofs.Common.{refl}
use Rattle.entry_tags.specs.EntryTags.{insert_rank}
use Rattle.entry_tags.specs.EntryTagsLaws.{fresh_is}
use Rattle.entry_tags.proofs.ranks.insert.Goals as goal

pub returns-clause-outcome : goal.returns-clause-outcome
returns-clause-outcome c = rw c.mask_of-mask.ensures (fresh_is c.args.words.now c.args.rank)

pub returns-clause-memory : goal.returns-clause-memory
unfolding insert_rank
returns-clause-memory c = rw c.mask_of-mask.ensures refl
