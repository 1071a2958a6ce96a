-- `layout_parts::layout_parts::put_ends` meets its contract: three words of a row are put (specs/PartsLoops.antt).
use Rattle.std.proofs.Common.{arith}
use Rattle.layout_parts.specs.PartsLoops.{row-put}
use Rattle.layout_parts.proofs.layout_parts.put_ends.Goals as goal

pub returns : goal.returns
returns c = row-put _ _ _ _ _ _ c.copy_from_slice.ensures.after (omega arith)
