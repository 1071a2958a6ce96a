-- `list_lines::list_lines::put_refused_line` meets its contract: its parts one behind the other, and each has its room (specs/ListLinesLaws.antt).
use native.Mathlib.Omega.{arith}
use Rattle.ascii.specs.Bytes.{ascii}
use Rattle.list_lines.specs.ListLinesLaws.{room-left, labelled-few, put-refused_of}
use Rattle.list_lines.proofs.list_lines.put_refused_line.Goals as goal

pub put_labelled-end-requires : goal.put_labelled-end-requires
put_labelled-end-requires c = omega (arith, room-left c.put_labelled-place.ensures 28 28 (labelled-few (ascii "refused=") c.number.result) (omega (arith, c.requires)))

pub put_text-requires : goal.put_text-requires
put_text-requires c = room-left c.put_labelled-end.ensures 27 1 (labelled-few (ascii " place=") c.place.result) (omega (arith, room-left c.put_labelled-place.ensures 28 28 (labelled-few (ascii "refused=") c.number.result) (omega (arith, c.requires))))

pub returns : goal.returns
returns c = put-refused_of _ _ _ c.number.ensures.outcome c.place.ensures.outcome c.put_labelled-place.ensures c.put_labelled-end.ensures c.put_text.ensures
