-- `validator::message_call::walk_level` meets its contract. The laws are those of specs/MessageCallLaws.antt.
use Rattle.std.proofs.Common.{◌∙◌}
use Rattle.validator.specs.MessageCallLaws.{accepted_of, walked-few, walk_whole}
use Rattle.validator.proofs.message_call.walk_level.Goals as goal

pub put_missing-requires : goal.put_missing-requires
put_missing-requires c = record { at_bound = walked-few c.args.dictionary.words.now c.args.layout.words.now c.args.table.fields.now c.args.table.message.now (accepted_of c.args.dictionary.accepted c.args.layout.passed c.args.layout.few_groups c.args.table.accepted) _ _ _ _ (c.new-defined.ensures ∙ c.defined_tags.ensures.tags) _ c.walk_fields-at.ensures }

pub returns : goal.returns
returns c = walk_whole c.args.dictionary.words.now c.args.layout.words.now c.args.table.fields.now c.args.table.message.now (accepted_of c.args.dictionary.accepted c.args.layout.passed c.args.layout.few_groups c.args.table.accepted) _ _ _ _ (c.new-defined.ensures ∙ c.defined_tags.ensures.tags) _ c.walk_fields-at.ensures _ _ c.put_missing.ensures
