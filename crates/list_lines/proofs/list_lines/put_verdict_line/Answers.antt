-- `list_lines::list_lines::put_verdict_line` meets its contract: its parts one behind the other, and each has its room (specs/ListLinesLaws.antt).
use native.Mathlib.Omega.{arith}
use Prim.Native.Nat.{◌+◌}
use lib.ListN.{length}
use Rattle.list_lines.specs.ListLinesLaws.{room-left, verdict_digits-length, put-verdicts_of}
use Rattle.list_lines.proofs.list_lines.put_verdict_line.Goals as goal

pub put_text-requires : goal.put_text-requires
put_text-requires c = room-left c.put_verdicts-end.ensures (length c.args.verdicts.now) 1 (omega (arith, verdict_digits-length c.args.verdicts.now)) (omega (arith, room-left c.put_text-digits.ensures 9 (length c.args.verdicts.now + 1) (omega arith) (omega (arith, c.requires))))

pub returns : goal.returns
returns c = put-verdicts_of _ c.put_text-digits.ensures c.put_verdicts-end.ensures c.put_text.ensures
