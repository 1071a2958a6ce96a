-- `verdict::verdict::admits_each` meets its contract: the parts that `split` gives are those of the definition.
use Rattle.std.proofs.Common.{rules, eqb, ◌∙◌}
use borrow.Author.Tests.{tests}
use Rattle.std.proofs.lemmas.Iterator.Splits.{YieldsList-from_slice_split}
use Rattle.std.proofs.lemmas.Iterator.Search.{all_from_yields_List}
use Rattle.ascii.specs.SplitParts.{every_part-split}
use Rattle.definitions.specs.Definitions.{admits_value}
use Rattle.verdict.specs.Verdict.{admits_each}
use Rattle.verdict.proofs.verdict.admits_each.Goals as goal

pub returns : goal.returns
unfolding admits_each
returns c =
    all_from_yields_List (admits_value c.args.dictionary.words.now c.args.number) _ _ _ c.all.ensures.ran
    (YieldsList-from_slice_split _ (λ byte. eqb byte 32) c.args.value.now c.split.ensures.rest c.split.ensures.done c.split.ensures.closure (λ x b q k. search (rules, tests)))
    (λ x b q k. search (rules, tests))
    ∙ every_part-split (admits_value c.args.dictionary.words.now c.args.number) 32 c.args.value.now
