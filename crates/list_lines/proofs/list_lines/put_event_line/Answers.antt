-- `list_lines::list_lines::put_event_line` meets its contract: its parts one behind the other, and each has its room (specs/ListLinesLaws.antt).
use native.Mathlib.Omega.{arith}
use Rattle.ascii.specs.Bytes.{ascii}
use Rattle.list_lines.specs.ListLinesLaws.{room-left, kind_name-few, labelled-few, put-event_of}
use Rattle.list_lines.proofs.list_lines.put_event_line.Goals as goal

pub put_labelled-depth_at-requires : goal.put_labelled-depth_at-requires
put_labelled-depth_at-requires c = omega (arith, room-left c.put_kind-group_at.ensures 8 101 (kind_name-few c.args.kind) (omega (arith, room-left c.put_text-name.ensures 6 109 (omega arith) (omega (arith, c.requires)))))

pub put_labelled-a_at-requires : goal.put_labelled-a_at-requires
put_labelled-a_at-requires c = omega (arith, room-left c.put_labelled-depth_at.ensures 27 74 (labelled-few (ascii " group=") c.args.group) (omega (arith, room-left c.put_kind-group_at.ensures 8 101 (kind_name-few c.args.kind) (omega (arith, room-left c.put_text-name.ensures 6 109 (omega arith) (omega (arith, c.requires)))))))

pub put_labelled-b_at-requires : goal.put_labelled-b_at-requires
put_labelled-b_at-requires c = omega (arith, room-left c.put_labelled-a_at.ensures 27 47 (labelled-few (ascii " depth=") c.args.depth) (omega (arith, room-left c.put_labelled-depth_at.ensures 27 74 (labelled-few (ascii " group=") c.args.group) (omega (arith, room-left c.put_kind-group_at.ensures 8 101 (kind_name-few c.args.kind) (omega (arith, room-left c.put_text-name.ensures 6 109 (omega arith) (omega (arith, c.requires)))))))))

pub put_labelled-end-requires : goal.put_labelled-end-requires
put_labelled-end-requires c = omega (arith, room-left c.put_labelled-b_at.ensures 23 24 (labelled-few (ascii " a=") c.args.a) (omega (arith, room-left c.put_labelled-a_at.ensures 27 47 (labelled-few (ascii " depth=") c.args.depth) (omega (arith, room-left c.put_labelled-depth_at.ensures 27 74 (labelled-few (ascii " group=") c.args.group) (omega (arith, room-left c.put_kind-group_at.ensures 8 101 (kind_name-few c.args.kind) (omega (arith, room-left c.put_text-name.ensures 6 109 (omega arith) (omega (arith, c.requires)))))))))))

pub put_text-requires : goal.put_text-requires
put_text-requires c = room-left c.put_labelled-end.ensures 23 1 (labelled-few (ascii " b=") c.args.b) (omega (arith, room-left c.put_labelled-b_at.ensures 23 24 (labelled-few (ascii " a=") c.args.a) (omega (arith, room-left c.put_labelled-a_at.ensures 27 47 (labelled-few (ascii " depth=") c.args.depth) (omega (arith, room-left c.put_labelled-depth_at.ensures 27 74 (labelled-few (ascii " group=") c.args.group) (omega (arith, room-left c.put_kind-group_at.ensures 8 101 (kind_name-few c.args.kind) (omega (arith, room-left c.put_text-name.ensures 6 109 (omega arith) (omega (arith, c.requires))))))))))))

pub returns : goal.returns
returns c = put-event_of _ _ _ _ _ c.put_text-name.ensures c.put_kind-group_at.ensures c.put_labelled-depth_at.ensures c.put_labelled-a_at.ensures c.put_labelled-b_at.ensures c.put_labelled-end.ensures c.put_text.ensures
