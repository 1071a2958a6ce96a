-- `layout_rules::layout_rules::first_broken` meets its contract. The loop's invariant is `RulesSoFar`; every answer cites a law of
-- specs/RulesLoop.antt.
use Rattle.std.proofs.Common.{refl, sym, ◌∙◌, arith}
use Rattle.layout_text.specs.AcceptedText.{passed-order}
use Rattle.layout_rules.specs.RulesLoop.{rules-begin, rules-end, rules-member, member-inside, rules-group, room_of_block, end-open, block_parts, rules-break, rules-close, rules-passed}
use Rattle.layout_rules.proofs.layout_rules.first_broken.Goals as goal

pub loop-line-init : goal.loop-line-init
loop-line-init c =
    rw (c.into_iter-line-iterator.ensures.into_iter_gives, c.new-members.ensures, c.new-tags.ensures, c.new-blocks.ensures)
    (c.new-line-items.ensures.text, rw c.new-line-items.ensures.first (rules-begin _ c.args.layout.text.short (passed-order _ _ _ c.args.layout.ordered)))

pub push-requires : goal.push-requires
push-requires c =
    let next = rw c.loop-line.invariant.0 at c.in-Some.ensures.steps.1 in
    (omega arith, member-inside _ _ _ _ _ c.loop-line.invariant.1 c.in-Some.line c.next.new.self.first next _ c.in-MemberLine.is)

pub loop-line-preserved-in-MemberLine : goal.loop-line-preserved-in-MemberLine
loop-line-preserved-in-MemberLine c =
    let next = rw c.loop-line.invariant.0 at c.in-Some.ensures.steps.1 in
    (c.in-Some.ensures.steps.0 ∙ c.loop-line.invariant.0, rw c.push.ensures (rules-member _ _ _ _ _ c.loop-line.invariant.1 c.in-Some.line c.next.new.self.first next _ c.in-MemberLine.is))

pub push-requires-in-GroupLine : goal.push-requires-in-GroupLine
push-requires-in-GroupLine c =
    let next = rw c.loop-line.invariant.0 at c.in-Some.ensures.steps.1 in
    (omega arith, room_of_block _ _ _ _ _ c.loop-line.invariant.1 c.in-Some.line c.next.new.self.first next _ _ _ c.in-GroupLine.is)

pub loop-line-preserved-in-GroupLine : goal.loop-line-preserved-in-GroupLine
loop-line-preserved-in-GroupLine c =
    let next = rw c.loop-line.invariant.0 at c.in-Some.ensures.steps.1 in
    (c.in-Some.ensures.steps.0 ∙ c.loop-line.invariant.0, rw (c.push-in-GroupLine.ensures, c.len.ensures, c.len-in-GroupLine.ensures) (rules-group _ _ _ _ _ c.loop-line.invariant.1 c.in-Some.line c.next.new.self.first next _ _ _ c.in-GroupLine.is))

-- a block is open
pub loop-line-preserved-in_default-pop : goal.loop-line-preserved-in_default-pop
loop-line-preserved-in_default-pop c =
    let next = rw c.loop-line.invariant.0 at c.in-Some.ensures.steps.1 in
    absurd (end-open _ _ _ _ _ c.loop-line.invariant.1 c.in-Some.line c.next.new.self.first next c.in-EndLine.is c.in_default-pop.ensures.0)

pub loop-line-preserved : goal.loop-line-preserved
loop-line-preserved c =
    let next = rw c.loop-line.invariant.0 at c.in-Some.ensures.steps.1 in
    (c.in-Some.ensures.steps.0 ∙ c.loop-line.invariant.0, rules-passed _ _ _ _ _ c.loop-line.invariant.1 c.in-Some.line c.next.new.self.first next _ refl c.in_default.not-MemberLine c.in_default.not-GroupLine c.in_default.not-EndLine)

pub after-own_members-requires : goal.after-own_members-requires
after-own_members-requires c =
    let next = rw c.loop-line.invariant.0 at c.in-Some.ensures.steps.1 in
    (omega arith, (block_parts _ _ _ _ _ c.loop-line.invariant.1 c.in-Some.line c.next.new.self.first next c.in-EndLine.is c.pop.new.self c.in-Some-pop.block c.in-Some-pop.ensures).0)

pub after-own_tags-requires : goal.after-own_tags-requires
after-own_tags-requires c =
    let next = rw c.loop-line.invariant.0 at c.in-Some.ensures.steps.1 in
    (omega arith, (block_parts _ _ _ _ _ c.loop-line.invariant.1 c.in-Some.line c.next.new.self.first next c.in-EndLine.is c.pop.new.self c.in-Some-pop.block c.in-Some-pop.ensures).1)

pub returns-then-is_some : goal.returns-then-is_some
returns-then-is_some c =
    let next = rw c.loop-line.invariant.0 at c.in-Some.ensures.steps.1 in
    sym (rules-break _ _ _ _ _ c.loop-line.invariant.1 c.in-Some.line c.next.new.self.first next c.in-EndLine.is c.pop.new.self c.in-Some-pop.block c.in-Some-pop.ensures _ (rw (c.after-own_members.ensures, c.after-own_tags.ensures) at c.group_broken-broken.ensures) (sym c.is_some.ensures ∙ c.if-is_some.true))

pub truncate-requires : goal.truncate-requires
truncate-requires c =
    let next = rw c.loop-line.invariant.0 at c.in-Some.ensures.steps.1 in
    (omega arith, (block_parts _ _ _ _ _ c.loop-line.invariant.1 c.in-Some.line c.next.new.self.first next c.in-EndLine.is c.pop.new.self c.in-Some-pop.block c.in-Some-pop.ensures).0)

pub truncate-requires-in-EndLine : goal.truncate-requires-in-EndLine
truncate-requires-in-EndLine c =
    let next = rw c.loop-line.invariant.0 at c.in-Some.ensures.steps.1 in
    (omega arith, (block_parts _ _ _ _ _ c.loop-line.invariant.1 c.in-Some.line c.next.new.self.first next c.in-EndLine.is c.pop.new.self c.in-Some-pop.block c.in-Some-pop.ensures).1)

pub loop-line-preserved-in-EndLine : goal.loop-line-preserved-in-EndLine
loop-line-preserved-in-EndLine c =
    let next = rw c.loop-line.invariant.0 at c.in-Some.ensures.steps.1 in (
      c.in-Some.ensures.steps.0 ∙ c.loop-line.invariant.0,
      rw (c.push-in-EndLine.ensures, c.truncate-in-EndLine.ensures, c.truncate.ensures)
          (rules-close _ _ _ _ _ c.loop-line.invariant.1 c.in-Some.line c.next.new.self.first next c.in-EndLine.is c.pop.new.self c.in-Some-pop.block c.in-Some-pop.ensures _ (rw (c.after-own_members.ensures, c.after-own_tags.ensures) at c.group_broken-broken.ensures) (sym c.is_some.ensures ∙ c.if-is_some.false)),
    )

pub returns : goal.returns
returns c = c.top_broken.ensures ∙ rw (c.as_slice.ensures, c.as_slice-2.ensures) (sym (rules-end _ _ _ _ _ c.loop-line.invariant.1 (rw c.loop-line.invariant.0 at c.in-None.ensures.steps.1.0)))
