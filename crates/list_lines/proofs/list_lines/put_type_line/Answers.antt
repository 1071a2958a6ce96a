-- `list_lines::list_lines::put_type_line` meets its contract: its parts one behind the other, and each has its room (specs/ListLinesLaws.antt).
use native.Mathlib.Omega.{arith}
use Prim.Native.Nat.{◌+◌}
use lib.ListN.{length}
use Rattle.ascii.specs.Bytes.{ascii}
use Rattle.list_lines.specs.ListLinesLaws.{room-left, labelled-few, put-type_of}
use Rattle.list_lines.proofs.list_lines.put_type_line.Goals as goal

pub put_text-requires : goal.put_text-requires
put_text-requires c = room-left c.put_labelled-end.ensures 28 1 (labelled-few (ascii " fields=") c.args.fields) (omega (arith, room-left c.put_text-label.ensures (length c.args.message_type.now) 29 (omega arith) (omega (arith, room-left c.put_text-value.ensures 5 (length c.args.message_type.now + 29) (omega arith) (omega (arith, c.requires))))))

pub returns : goal.returns
returns c = put-type_of _ c.put_text-value.ensures c.put_text-label.ensures c.put_labelled-end.ensures c.put_text.ensures
