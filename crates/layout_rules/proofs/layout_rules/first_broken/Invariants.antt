-- `layout_rules::layout_rules::first_broken` meets its contract. The loop's invariant is `RulesSoFar`; every answer cites a law of
-- specs/RulesLoop.antt.
use Rattle.std.proofs.Common.{◌≡◌}
use Rattle.layout_rules.specs.RulesLoop.{RulesSoFar}
use Rattle.layout_rules.proofs.layout_rules.first_broken.Given as goal

abbrev pub invariant-loop-line : goal.invariant-loop-line
invariant-loop-line l = (l.line-iterator.text.now ≡ l.layout.text.bytes.now) × RulesSoFar l.layout.text.bytes.now l.members l.tags l.blocks l.line-iterator.first
