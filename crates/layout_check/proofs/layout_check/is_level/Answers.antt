-- `layout_check::layout_check::is_level` meets its contract, by layouts, specs/LayoutCheckLaws.antt.
use mathlib.Core.Path.{sym, refl}
use Rattle.layouts.specs.LayoutCheckLaws.{level-begins, level-falls, level-over, level-meets, level-passes, level-ends}
use Rattle.layout_check.proofs.layout_check.is_level.Goals as goal
use Rattle.layout_check.proofs.layout_check.is_level.Goals.{then-met-tags+then-tags-met, else-met-tags, else-met-tags-via-then-met-tags+else-tags-met, else-met-tags-via-else-met-tags}

pub loop-word-init : goal.loop-word-init
loop-word-init c = level-begins _ _

pub returns-then-member-least : goal.returns-then-member-least
returns-then-member-least c = sym (level-falls _ _ _ _ _ c.loop-word.invariant c.loop-word-test.true _ refl c.if-member-least.true)

pub loop-word-preserved : goal.loop-word-preserved
loop-word-preserved c =
    let over = level-over _ _ _ _ _ c.loop-word.invariant c.loop-word-test.true _ refl c.if-member-least.false in
    let meets = level-meets _ _ _ _ _ c.loop-word.invariant c.loop-word-test.true _ refl c.if-member-least.false in
    let passes = level-passes _ _ _ _ _ c.loop-word.invariant c.loop-word-test.true _ refl c.if-member-least.false in
    elim c.if-met-tags.branch [
      | then-met-tags+then-tags-met w ↦ rw w.met-is (meets w.if-met-tags.true _ refl w.if-tags-met.true)
      | else-met-tags w ↦ rw w.met-is
          (elim w.else-met-tags.branch [
            | else-met-tags-via-then-met-tags+else-tags-met w' ↦ passes w'.if-met-tags.true _ refl w'.if-tags-met.false
            | else-met-tags-via-else-met-tags w' ↦ over w'.if-met-tags.false
          ])
    ]

pub returns : goal.returns
returns c = level-ends _ _ _ _ _ c.loop-word.invariant c.loop-word-test.false
