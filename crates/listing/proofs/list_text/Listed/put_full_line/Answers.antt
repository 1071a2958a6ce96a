-- `listing::list_text::Listed::put_full_line` meets its contract: the line that `full_line` chooses (specs/ListTextLaws.antt).
use Rattle.list_lines.specs.ListLinesLaws.{put-nothing}
use Rattle.listing.specs.ListTextLaws.{full_line-type, full_line-event, full_line-verdicts, full_line-none}
use Rattle.listing.proofs.list_text.Listed.put_full_line.Goals as goal

pub returns-then-index-eq0 : goal.returns-then-index-eq0
returns-then-index-eq0 c = rw (full_line-type c.args.self.message.now c.args.self.events.now c.args.self.verdicts.now c.args.shape c.args.index c.if-index-eq0.true) c.put_type_line.ensures

pub returns-then-index-shape : goal.returns-then-index-shape
returns-then-index-shape c = rw (full_line-event c.args.self.message.now c.args.self.events.now c.args.self.verdicts.now c.args.shape c.args.index c.if-index-eq0.false c.if-index-shape.true) c.put_words_line.ensures

pub returns-then-index-shape-2 : goal.returns-then-index-shape-2
returns-then-index-shape-2 c = rw (full_line-verdicts c.args.self.message.now c.args.self.events.now c.args.self.verdicts.now c.args.shape c.args.index c.if-index-eq0.false c.if-index-shape.false c.if-index-shape-2.true) c.put_verdict_line.ensures

-- fn put_full_line(
pub returns : goal.returns
returns c = rw (full_line-none c.args.self.message.now c.args.self.events.now c.args.self.verdicts.now c.args.shape c.args.index c.if-index-eq0.false c.if-index-shape.false c.if-index-shape-2.false) (put-nothing _ _)
