-- `ascii::split::place_of` meets its contract: what `position` answers, as specs/SplitLaws.antt reads it.
use Rattle.std.proofs.Common.{rules, ◌≡◌, eqb, ◌∙◌, ap, length}
use borrow.Author.Tests.{tests}
use Rattle.std.specs.List.{position}
use Rattle.std.specs.Option.{unwrap_or}
use Rattle.std.proofs.lemmas.Iterator.{YieldsList-from_slice}
use Rattle.std.proofs.lemmas.Iterator.Search.{position_from_yields_List}
use Rattle.ascii.specs.SplitLaws.{index_of_position}
use Rattle.ascii.proofs.split.place_of.Goals as goal

pub returns-clause-place : goal.returns-clause-place
returns-clause-place c =
    let place : c.position.result ≡ position (λ byte. eqb byte c.args.separator) c.args.value.now =
    position_from_yields_List (λ byte. eqb byte c.args.separator) _ _ _ c.position.ensures.ran
    (YieldsList-from_slice c.args.value.now c.iter.ensures.rest) (λ x b q k. search (rules, tests)) in
    c.unwrap_or.ensures ∙ ap (λ r. unwrap_or r (length c.args.value.now)) place ∙ index_of_position c.args.separator c.args.value.now
