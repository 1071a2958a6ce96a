-- `ascending::search::Ascending::binary_search` meets its contract: the words ascend.
use Rattle.ascending.specs.SearchLaws.{is_strictly_ascending-true}
use Rattle.ascending.proofs.search.Ascending.binary_search.Goals as goal

pub returns : goal.returns
returns c = c.binary_search.ensures.outcome (is_strictly_ascending-true _ c.args.self.ascends)
