-- `expand::expand_call::arrange_told` meets its contract: the memory that is chosen has room for the trace and its levels.
use Rattle.std.proofs.Common.{arith}
use Rattle.expand.specs.ExpandCallLaws.{short-levels}
use Rattle.expand.proofs.expand_call.arrange_told.Goals as goal

pub arrange_in-requires : goal.arrange_in-requires
arrange_in-requires c = (omega arith, omega arith, c.if-trace-le512.true, c.requires.1, omega (arith, short-levels 512 _ c.if-trace-le512.true))

pub arrange_in-requires-then-trace-le1024 : goal.arrange_in-requires-then-trace-le1024
arrange_in-requires-then-trace-le1024 c = (omega arith, omega arith, c.if-trace-le1024.true, c.requires.1, omega (arith, short-levels 1024 _ c.if-trace-le1024.true))
