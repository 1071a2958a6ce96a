-- `list_lines::list_lines::put_text` meets its contract: the part of `out` is the text (specs/ListLinesLaws.antt).
use Rattle.list_lines.specs.ListLinesLaws.{put-text_of}
use Rattle.list_lines.proofs.list_lines.put_text.Goals as goal

pub returns : goal.returns
returns c = put-text_of _ _ _ _ c.copy_from_slice.ensures.after c.requires
