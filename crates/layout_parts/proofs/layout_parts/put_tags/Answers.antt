-- `layout_parts::layout_parts::put_tags` meets its contract. The loop's invariant is `TagsTaken` (specs/PartsLoops.antt).
use Rattle.std.proofs.Common.{◌∙◌, sym}
use Rattle.layout_parts.specs.PartsLoops.{taken-end, taken-stops, tag-inside, taken-goes_on}
use Rattle.layout_parts.proofs.layout_parts.put_tags.Goals as goal
use Rattle.layout_parts.proofs.layout_parts.put_tags.Goals.{in-Some+in_default-tag_of, in_default}

pub bounds-tags-count : goal.bounds-tags-count
bounds-tags-count c =
    let next = rw (c.loop-next.invariant.0, c.loop-next.invariant.1) at c.in-Some.ensures.steps.1 in
    tag-inside _ _ _ _ _ _ _ _ c.loop-next.invariant.2 c.in-Some.line c.next.new.self.first next.reads next.bounds.1 _ c.tag_of.ensures _ c.in-Some-tag_of.is c.requires.1

pub loop-next-preserved : goal.loop-next-preserved
loop-next-preserved c =
    let next = rw (c.loop-next.invariant.0, c.loop-next.invariant.1) at c.in-Some.ensures.steps.1 in
    (c.in-Some.ensures.steps.0 ∙ c.loop-next.invariant.0, sym c.place-next.ensures, rw c.place-next.ensures (taken-goes_on _ _ _ _ _ _ _ _ c.loop-next.invariant.2 c.in-Some.line c.next.new.self.first next.reads next.bounds.1 _ c.tag_of.ensures _ c.in-Some-tag_of.is))

pub returns : goal.returns
returns c =
    elim c.match-next.branch [
      | in-Some+in_default-tag_of w ↦
          let next = rw (c.loop-next.invariant.0, c.loop-next.invariant.1) at w.in-Some.ensures.steps.1 in
          let ends = taken-stops _ _ _ _ _ _ _ _ c.loop-next.invariant.2 w.in-Some.line c.next.new.self.first next.reads next.bounds.1 _ w.tag_of.ensures w.in_default-tag_of.is in
          record { tags = ends.0; count = ends.1; next = (ends.2, ends.3) }
      | in_default w ↦
          let ends = taken-end _ _ _ _ _ _ _ _ c.loop-next.invariant.2 (rw (c.loop-next.invariant.0, c.loop-next.invariant.1) at w.in_default.ensures.steps.1.0) in
          record { tags = ends.0; count = ends.1; next = (ends.2, ends.3) }
    ]
