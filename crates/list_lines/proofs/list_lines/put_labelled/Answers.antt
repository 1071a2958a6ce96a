-- `list_lines::list_lines::put_labelled` meets its contract: the number behind the label (specs/ListLinesLaws.antt).
use Rattle.list_lines.specs.ListLinesLaws.{put-labelled_of}
use Rattle.list_lines.proofs.list_lines.put_labelled.Goals as goal

pub returns : goal.returns
returns c = put-labelled_of _ c.put_text-digits.ensures c.put_number.ensures
