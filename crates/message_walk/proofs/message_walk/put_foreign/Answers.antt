-- `message_walk::message_walk::put_foreign` meets its contract. The laws are those of specs/MessageTurnLaws.antt.
use Rattle.layouts.specs.Limits.{gate_limits}
use Rattle.layouts.specs.LayoutCheckFacts.{is_layout-passed}
use Rattle.message_walk.specs.MessageTurnLaws.{foreign_member, foreign_outside}
use borrow.Author.Rules.{rules}
use Rattle.message_walk.proofs.message_walk.put_foreign.Goals as goal

pub returns-in_default : goal.returns-in_default
returns-in_default c = foreign_outside c.args.layout.words.now (is_layout-passed gate_limits _ c.args.layout.passed) _ c.members_at-top.ensures c.args.tag _ (λ ascends. c.binary_search.ensures) c.in_default.is c.put_event.ensures

-- fn put_foreign(layout: &[u32], events: &mut [u64], at: usize, tag: u32) -> usize
pub returns : goal.returns
returns c = foreign_member c.args.layout.words.now (is_layout-passed gate_limits _ c.args.layout.passed) _ c.members_at-top.ensures c.args.tag _ (λ ascends. c.binary_search.ensures) _ c.in-Some.is _ _
