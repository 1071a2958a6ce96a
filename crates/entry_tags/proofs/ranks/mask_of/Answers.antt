-- `entry_tags::ranks::mask_of` meets its contract: the shift loses no bit.
use Prim.Native.Nat.{◌%◌}
use native.Mathlib.Omega.{arith}
use Rattle.entry_tags.specs.EntryTagsLaws.{mask_is}
use Rattle.entry_tags.proofs.ranks.mask_of.Goals as goal

-- pub fn mask_of(rank: usize) -> u64
pub returns : goal.returns
returns c = mask_is (c.args.rank % 64) (omega arith)
