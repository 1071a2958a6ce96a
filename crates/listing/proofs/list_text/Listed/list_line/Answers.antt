-- `listing::list_text::Listed::list_line` meets its contract, a case at a time (specs/ListTextLaws.antt).
use Rattle.listing.specs.ListTextLaws.{hand_full, hand_refusal, hand_nothing}
use Rattle.listing.proofs.list_text.Listed.list_line.Goals as goal

pub returns-in-Ok : goal.returns-in-Ok
returns-in-Ok c = record {
  outcome = (hand_full _ _ _ _ _ c.args.self.held _ _ _ _ c.requires.in_bounds c.in-Ok.is c.put_full_line.ensures).0;
  memory = (hand_full _ _ _ _ _ c.args.self.held _ _ _ _ c.requires.in_bounds c.in-Ok.is c.put_full_line.ensures).1.0;
  within = (hand_full _ _ _ _ _ c.args.self.held _ _ _ _ c.requires.in_bounds c.in-Ok.is c.put_full_line.ensures).1.1;
}

pub returns-in-Err : goal.returns-in-Err
returns-in-Err c = record {
  outcome = (hand_refusal _ _ _ _ _ c.args.self.held _ c.in-Err.is _ c.requires.in_bounds _ _ c.if-index-eq0.true c.put_refused_line.ensures).0;
  memory = (hand_refusal _ _ _ _ _ c.args.self.held _ c.in-Err.is _ c.requires.in_bounds _ _ c.if-index-eq0.true c.put_refused_line.ensures).1.0;
  within = (hand_refusal _ _ _ _ _ c.args.self.held _ c.in-Err.is _ c.requires.in_bounds _ _ c.if-index-eq0.true c.put_refused_line.ensures).1.1;
}

pub returns-in-Err-2 : goal.returns-in-Err-2
returns-in-Err-2 c = record {
  outcome = (hand_nothing _ _ _ _ _ c.args.self.held _ c.in-Err-2.is _ c.requires.in_bounds c.if-index-eq0.false).0;
  memory = (hand_nothing _ _ _ _ _ c.args.self.held _ c.in-Err-2.is _ c.requires.in_bounds c.if-index-eq0.false).1.0;
  within = (hand_nothing _ _ _ _ _ c.args.self.held _ c.in-Err-2.is _ c.requires.in_bounds c.if-index-eq0.false).1.1;
}
