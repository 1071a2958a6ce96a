-- `multi_values::multi_value::is_multi_value_list` meets its contract: the parts that `split` gives are those of the definition.
use Rattle.std.proofs.Common.{rules, eqb, ◌∙◌}
use borrow.Author.Tests.{tests}
use Rattle.std.proofs.lemmas.Iterator.Splits.{YieldsList-from_slice_split}
use Rattle.std.proofs.lemmas.Iterator.Search.{all_from_yields_List}
use Rattle.ascii.specs.SplitParts.{every_part-split}
use Rattle.multi_values.specs.MultiValue.{is_token, is_multi_value_list}
use Rattle.multi_values.proofs.multi_value.is_multi_value_list.Goals as goal

pub returns : goal.returns
unfolding is_multi_value_list
returns c = record {
  outcome =
      all_from_yields_List (is_token c.args.token_len) _ _ _ c.all.ensures.ran
      (YieldsList-from_slice_split _ (λ byte. eqb byte 32) c.args.value.now c.split.ensures.rest c.split.ensures.done c.split.ensures.closure (λ x b q k. search (rules, tests)))
      (λ x b q k. search (rules, tests))
      ∙ every_part-split (is_token c.args.token_len) 32 c.args.value.now;
}
