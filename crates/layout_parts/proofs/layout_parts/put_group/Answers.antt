-- `layout_parts::layout_parts::put_group` meets its contract: three words of a row are put (specs/PartsLoops.antt).
use Rattle.std.proofs.Common.{arith}
use Rattle.layout_parts.specs.PartsLoops.{row-put_flag}
use Rattle.layout_parts.proofs.layout_parts.put_group.Goals as goal

pub returns : goal.returns
returns c = row-put_flag _ _ _ _ _ _ _ c.from.ensures c.copy_from_slice.ensures.after (omega arith)
