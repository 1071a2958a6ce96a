-- `entry_tags::entry_tags::mask_in` meets its contract, by specs/EntryTagsLaws.antt.
use Rattle.std.proofs.Common.{◌∙◌}
use Rattle.entry_tags.specs.EntryTagsLaws.{mask_here, mask_elsewhere}
use Rattle.entry_tags.proofs.entry_tags.mask_in.Goals as goal

pub returns-then-rank-word : goal.returns-then-rank-word
returns-then-rank-word c = c.mask_of.ensures ∙ mask_here c.args.word c.args.rank c.if-rank-word.true

pub returns-else-rank-word : goal.returns-else-rank-word
returns-else-rank-word c = mask_elsewhere c.args.word c.args.rank c.if-rank-word.false
