-- `layout_parts::layout_parts::count_parts` meets its contract. The loop's invariant is `CountsSoFar` (specs/PartsLoops.antt).
use Rattle.std.proofs.Common.{refl, ◌∙◌}
use Rattle.layout_text.specs.AcceptedText.{passed-order}
use Rattle.layout_parts.specs.PartsLoops.{counts-begin, counts_end, counts-member, counts-required, counts-group, counts-uncounted}
use Rattle.layout_parts.proofs.layout_parts.count_parts.Goals as goal

pub loop-line-init : goal.loop-line-init
loop-line-init c =
    rw c.into_iter-line-iterator.ensures.into_iter_gives
    (c.new-line-items.ensures.text, rw c.new-line-items.ensures.first (counts-begin _ (passed-order _ _ _ c.args.layout.ordered)))

pub loop-line-preserved-in-MemberLine : goal.loop-line-preserved-in-MemberLine
loop-line-preserved-in-MemberLine c =
    let next = rw c.loop-line.invariant.0 at c.in-Some.ensures.steps.1 in
    (c.in-Some.ensures.steps.0 ∙ c.loop-line.invariant.0, counts-member _ _ _ _ _ c.loop-line.invariant.1 _ _ next.reads next.bounds _ c.in-MemberLine.is)

pub loop-line-preserved-in-RequiredLine : goal.loop-line-preserved-in-RequiredLine
loop-line-preserved-in-RequiredLine c =
    let next = rw c.loop-line.invariant.0 at c.in-Some.ensures.steps.1 in
    (c.in-Some.ensures.steps.0 ∙ c.loop-line.invariant.0, counts-required _ _ _ _ _ c.loop-line.invariant.1 _ _ next.reads next.bounds _ c.in-RequiredLine.is)

pub loop-line-preserved-in-GroupLine : goal.loop-line-preserved-in-GroupLine
loop-line-preserved-in-GroupLine c =
    let next = rw c.loop-line.invariant.0 at c.in-Some.ensures.steps.1 in
    (c.in-Some.ensures.steps.0 ∙ c.loop-line.invariant.0, counts-group _ _ _ _ _ c.loop-line.invariant.1 _ _ next.reads next.bounds _ _ _ c.in-GroupLine.is)

pub loop-line-preserved : goal.loop-line-preserved
loop-line-preserved c =
    let next = rw c.loop-line.invariant.0 at c.in-Some.ensures.steps.1 in
    (c.in-Some.ensures.steps.0 ∙ c.loop-line.invariant.0, counts-uncounted _ _ _ _ _ c.loop-line.invariant.1 _ _ next.reads next.bounds _ refl c.in_default.not-MemberLine c.in_default.not-RequiredLine c.in_default.not-GroupLine)

-- pub fn count_parts(text: &[u8]) -> Parts
pub returns : goal.returns
returns c =
    let ended = counts_end _ _ _ _ _ c.loop-line.invariant.1 (rw c.loop-line.invariant.0 at c.in-None.ensures.steps.1.0) in
    record { members = ended.0; required = ended.1; groups = (ended.2, ended.3) }
