-- `list_lines::list_lines::put_kind` meets its contract, a kind at a time (specs/ListLinesLaws.antt).
use Rattle.std.proofs.Common.{arith}
use Rattle.list_lines.specs.ListLines.{kind_name}
use Rattle.list_lines.specs.ListLinesLaws.{put-kind_of, kind_name-other}
use Rattle.list_lines.proofs.list_lines.put_kind.Goals as goal
use Rattle.list_lines.proofs.list_lines.put_kind.Goals.{in-1, in-2, in-3, in-4, in-5, in-6, in-7, in-8, in-9, in-10, in-11, in_default}

pub returns : goal.returns
unfolding kind_name
returns c =
    elim c.match-kind.branch [
      | in-1 w ↦ put-kind_of _ 1 w.in-1.is (rw w.name-is at c.put_text.ensures)
      | in-2 w ↦ put-kind_of _ 2 w.in-2.is (rw w.name-is at c.put_text.ensures)
      | in-3 w ↦ put-kind_of _ 3 w.in-3.is (rw w.name-is at c.put_text.ensures)
      | in-4 w ↦ put-kind_of _ 4 w.in-4.is (rw w.name-is at c.put_text.ensures)
      | in-5 w ↦ put-kind_of _ 5 w.in-5.is (rw w.name-is at c.put_text.ensures)
      | in-6 w ↦ put-kind_of _ 6 w.in-6.is (rw w.name-is at c.put_text.ensures)
      | in-7 w ↦ put-kind_of _ 7 w.in-7.is (rw w.name-is at c.put_text.ensures)
      | in-8 w ↦ put-kind_of _ 8 w.in-8.is (rw w.name-is at c.put_text.ensures)
      | in-9 w ↦ put-kind_of _ 9 w.in-9.is (rw w.name-is at c.put_text.ensures)
      | in-10 w ↦ put-kind_of _ 10 w.in-10.is (rw w.name-is at c.put_text.ensures)
      | in-11 w ↦ put-kind_of _ 11 w.in-11.is (rw w.name-is at c.put_text.ensures)
      | in_default w ↦ rw (kind_name-other c.args.kind (λ some. omega arith)) (rw w.name-is at c.put_text.ensures)
    ]
