-- `layout_parts::layout_parts::put_groups` meets its contract. The loop's invariant is `BlocksSoFar` (specs/PartsLoops.antt).
use Rattle.std.proofs.Common.{refl, ◌∙◌}
use Rattle.layout_parts.specs.PartsLoops.{blocks-begin, blocks_end, blocks-at_tag, blocks-at_end, blocks-at_close, blocks-at_deeper, block_inside, blocks-at_group}
use Rattle.layout_parts.proofs.layout_parts.put_groups.Goals as goal

pub loop-line-init : goal.loop-line-init
loop-line-init c = (c.new-lines.ensures.text, rw c.new-lines.ensures.first (blocks-begin _ _ _ _ _ c.requires.0))

-- put_group(rows, count, tag, delimiter, required);
pub put_group-requires : goal.put_group-requires
put_group-requires c =
    let next = rw c.loop-line.invariant.0 at c.in-Some.ensures.steps.1 in
    (block_inside _ _ _ _ _ _ _ _ _ _ c.loop-line.invariant.1 c.in-Some.line c.next.new.self.first next.reads next.bounds.0 next.bounds.1 _ _ _ c.in-GroupLine.is c.if-depth-eq0.true c.requires.1 c.requires.2).1

pub bounds-starts-count : goal.bounds-starts-count
bounds-starts-count c =
    let next = rw c.loop-line.invariant.0 at c.in-Some.ensures.steps.1 in
    (block_inside _ _ _ _ _ _ _ _ _ _ c.loop-line.invariant.1 c.in-Some.line c.next.new.self.first next.reads next.bounds.0 next.bounds.1 _ _ _ c.in-GroupLine.is c.if-depth-eq0.true c.requires.1 c.requires.2).0

pub loop-line-preserved-then-depth-eq0 : goal.loop-line-preserved-then-depth-eq0
loop-line-preserved-then-depth-eq0 c =
    let next = rw c.loop-line.invariant.0 at c.in-Some.ensures.steps.1 in
    let inside = block_inside _ _ _ _ _ _ _ _ _ _ c.loop-line.invariant.1 c.in-Some.line c.next.new.self.first next.reads next.bounds.0 next.bounds.1 _ _ _ c.in-GroupLine.is c.if-depth-eq0.true c.requires.1 c.requires.2 in
    (c.in-Some.ensures.steps.0 ∙ c.loop-line.invariant.0, rw c.place.ensures (blocks-at_group _ _ _ _ _ _ _ _ _ _ c.loop-line.invariant.1 c.in-Some.line c.next.new.self.first next.reads next.bounds.0 next.bounds.1 _ _ _ c.in-GroupLine.is c.if-depth-eq0.true inside.0 inside.1 _ c.put_group.ensures _ refl))

pub loop-line-preserved-else-depth-eq0 : goal.loop-line-preserved-else-depth-eq0
loop-line-preserved-else-depth-eq0 c =
    let next = rw c.loop-line.invariant.0 at c.in-Some.ensures.steps.1 in
    (c.in-Some.ensures.steps.0 ∙ c.loop-line.invariant.0, blocks-at_deeper _ _ _ _ _ _ _ _ _ _ c.loop-line.invariant.1 c.in-Some.line c.next.new.self.first next.reads next.bounds.0 next.bounds.1 _ _ _ c.in-GroupLine.is c.if-depth-eq0.false)

pub returns-then-depth-eq0-2 : goal.returns-then-depth-eq0-2
returns-then-depth-eq0-2 c =
    let next = rw c.loop-line.invariant.0 at c.in-Some.ensures.steps.1 in
    blocks-at_end _ _ _ _ _ _ _ _ _ _ c.loop-line.invariant.1 c.in-Some.line c.next.new.self.first next.reads next.bounds.0 next.bounds.1 c.in-EndLine.is c.if-depth-eq0-2.true

pub loop-line-preserved-in-EndLine : goal.loop-line-preserved-in-EndLine
loop-line-preserved-in-EndLine c =
    let next = rw c.loop-line.invariant.0 at c.in-Some.ensures.steps.1 in
    (c.in-Some.ensures.steps.0 ∙ c.loop-line.invariant.0, blocks-at_close _ _ _ _ _ _ _ _ _ _ c.loop-line.invariant.1 c.in-Some.line c.next.new.self.first next.reads next.bounds.0 next.bounds.1 c.in-EndLine.is c.if-depth-eq0-2.false)

pub loop-line-preserved : goal.loop-line-preserved
loop-line-preserved c =
    let next = rw c.loop-line.invariant.0 at c.in-Some.ensures.steps.1 in
    (c.in-Some.ensures.steps.0 ∙ c.loop-line.invariant.0, blocks-at_tag _ _ _ _ _ _ _ _ _ _ c.loop-line.invariant.1 c.in-Some.line c.next.new.self.first next.reads next.bounds.0 next.bounds.1 _ refl c.in_default-line.not-GroupLine c.in_default-line.not-EndLine)

pub returns : goal.returns
returns c = blocks_end _ _ _ _ _ _ _ _ _ _ c.loop-line.invariant.1 (rw c.loop-line.invariant.0 at c.in_default.ensures.steps.1.0)
