-- `build::build::header_of` meets its contract: the records of definitions stand first (specs/BuildPromisesLaws.antt).
use Rattle.std.proofs.Common.{rules}
use borrow.Author.Tests.{tests}
use Rattle.std.proofs.lemmas.List.Sorted.{IsPartitionPoint-from_clause}
use Rattle.build.specs.BuildPromisesLaws.{defines, header-lent}
use Rattle.build.proofs.build.header_of.Goals as goal

pub returns : goal.returns
returns c =
    header-lent _ c.args.dictionary.words32 c.args.dictionary.accepted _ _ c.records.ensures.records c.partition_point.ensures.bound
    (λ parted. IsPartitionPoint-from_clause defines _ _ c.partition_point.ensures.partitioned parted (λ a r q k. search (rules, tests)))
