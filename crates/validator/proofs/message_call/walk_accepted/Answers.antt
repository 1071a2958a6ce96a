-- `validator::message_call::walk_accepted` meets its contract. The laws are those of specs/MessageCallLaws.antt.
use native.Mathlib.Omega.{arith}
use Rattle.validator.specs.MessageCall.{walk_of}
use Rattle.validator.specs.MessageCallLaws.{accepted_of, needs_few, walk_answers}
use borrow.Author.Rules.{rules}
use Rattle.validator.proofs.message_call.walk_accepted.Goals as goal

pub returns : goal.returns
returns c = record {
  outcome = (walk_answers (walk_of c.args.dictionary.words.now c.args.layout.words.now c.args.table.fields.now c.args.table.message.now) c.args.events.now _ _ c.walk_level-words.ensures
      (omega (arith, needs_few c.args.dictionary.words.now c.args.layout.words.now c.args.table.fields.now c.args.table.message.now (accepted_of c.args.dictionary.accepted c.args.layout.passed c.args.layout.few_groups c.args.table.accepted), c.most_words-most.ensures, c.if-events-most.false))).0;
  memory = (walk_answers (walk_of c.args.dictionary.words.now c.args.layout.words.now c.args.table.fields.now c.args.table.message.now) c.args.events.now _ _ c.walk_level-words.ensures
      (omega (arith, needs_few c.args.dictionary.words.now c.args.layout.words.now c.args.table.fields.now c.args.table.message.now (accepted_of c.args.dictionary.accepted c.args.layout.passed c.args.layout.few_groups c.args.table.accepted), c.most_words-most.ensures, c.if-events-most.false))).1;
}
