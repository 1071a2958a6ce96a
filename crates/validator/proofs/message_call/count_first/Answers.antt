-- `validator::message_call::count_first` meets its contract. The laws are those of specs/MessageCallLaws.antt.
use Rattle.validator.specs.MessageCall.{walk_of}
use Rattle.validator.specs.MessageCallLaws.{space_short, space-holds}
use borrow.Author.Rules.{rules}
use Rattle.validator.proofs.message_call.count_first.Goals as goal

pub returns-then-events-needed : goal.returns-then-events-needed
returns-then-events-needed c = record {
  outcome = (space_short (walk_of c.args.dictionary.words.now c.args.layout.words.now c.args.table.fields.now c.args.table.message.now) c.args.events.now _ _ c.walk_level-needed.ensures c.if-events-needed.true).0;
  memory = (space_short (walk_of c.args.dictionary.words.now c.args.layout.words.now c.args.table.fields.now c.args.table.message.now) c.args.events.now _ _ c.walk_level-needed.ensures c.if-events-needed.true).1;
}

pub returns : goal.returns
returns c = record {
  outcome = (space-holds (walk_of c.args.dictionary.words.now c.args.layout.words.now c.args.table.fields.now c.args.table.message.now) c.args.events.now _ _ c.walk_level-needed.ensures c.if-events-needed.false _ _ c.walk_level-words.ensures).0;
  memory = (space-holds (walk_of c.args.dictionary.words.now c.args.layout.words.now c.args.table.fields.now c.args.table.message.now) c.args.events.now _ _ c.walk_level-needed.ensures c.if-events-needed.false _ _ c.walk_level-words.ensures).1;
}
