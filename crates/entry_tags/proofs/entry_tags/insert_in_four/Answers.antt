-- `entry_tags::insert_in_four` meets its contract: of the four words only the rank's has its bit in the mask (specs/EntryTagsLaws.antt).
use Rattle.std.proofs.Common.{arith}
use Rattle.entry_tags.specs.EntryTagsLaws.{inserted-masks, fresh_masks}
use Rattle.entry_tags.proofs.entry_tags.insert_in_four.Goals as goal

pub returns-clause-outcome : goal.returns-clause-outcome
returns-clause-outcome c = rw (c.mask_in-first.ensures, c.mask_in-second.ensures, c.mask_in-third.ensures, c.mask_in-fourth.ensures) (fresh_masks c.args.words.now c.args.rank 3 (omega (arith, c.requires)))

pub returns-clause-memory : goal.returns-clause-memory
returns-clause-memory c = rw (c.mask_in-first.ensures, c.mask_in-second.ensures, c.mask_in-third.ensures, c.mask_in-fourth.ensures) (inserted-masks c.args.words.now c.args.rank 3 (omega (arith, c.requires)))
