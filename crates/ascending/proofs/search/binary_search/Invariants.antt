-- `ascending::search::binary_search` meets its contract. The loop's invariant is `SearchSoFar`; the laws are those of specs/SearchLaws.antt.
use Rattle.ascending.specs.SearchLaws.{SearchSoFar}
use Rattle.ascending.proofs.search.binary_search.Given as goal

abbrev pub invariant-loop-size : goal.invariant-loop-size
invariant-loop-size l = SearchSoFar l.words l.tag l.base l.last l.size

abbrev pub decreases-loop-size : goal.decreases-loop-size
decreases-loop-size l = l.size
