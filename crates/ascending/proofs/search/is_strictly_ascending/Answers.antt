-- `ascending::search::is_strictly_ascending` meets its contract, by the law of `is_sorted_by`'s answer (specs/SearchLaws.antt).
use Rattle.std.proofs.Common.{rules}
use Rattle.std.proofs.Math.Dec.{ltb}
use Rattle.std.proofs.lemmas.List.Sorted.{answers_always}
use Rattle.ascending.specs.SearchLaws.{ascending-answer}
use Rattle.ascending.proofs.search.is_strictly_ascending.Goals as goal

pub returns : goal.returns
returns c = record { outcome = ascending-answer c.args.words.now c.is_sorted_by.result (c.is_sorted_by.ensures.cases ltb (answers_always _ _ _ (λ compare pair answer after called. search rules))) }
