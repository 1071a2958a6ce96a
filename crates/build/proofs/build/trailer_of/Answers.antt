-- `build::build::trailer_of` meets its contract: the first record behind the header's that opens the trailer (specs/BuildPromisesLaws.antt).
use Rattle.std.proofs.Common.{rules, arith, ap, sym, ◌∙◌}
use borrow.Author.Tests.{tests}
use Rattle.std.proofs.lemmas.Iterator.{YieldsList-from_slice}
use Rattle.std.proofs.lemmas.Iterator.Search.{position_from_yields_List}
use Rattle.build.specs.BuildPromisesLaws.{opens, header-within, trailer-lent, trailer-found}
use Rattle.build.proofs.build.trailer_of.Goals as goal
use Rattle.build.proofs.build.trailer_of.Goals.{After-records}

-- dictionary.records()[header..]
pub offset_bounds-records-header : goal.offset_bounds-records-header
offset_bounds-records-header c = omega (arith, header-within _ c.args.dictionary.words32 c.args.dictionary.accepted c.args.header c.requires, c.records.ensures.count, c.records.type_inv)

pub slice_bounds-iter-count : goal.slice_bounds-iter-count
slice_bounds-iter-count c = omega (arith, header-within _ c.args.dictionary.words32 c.args.dictionary.accepted c.args.header c.requires, c.records.ensures.count)

pub slice_bounds-iter-start : goal.slice_bounds-iter-start
slice_bounds-iter-start c = omega (arith, header-within _ c.args.dictionary.words32 c.args.dictionary.accepted c.args.header c.requires, c.records.ensures.count, c.records.type_inv)

-- behind.unwrap()
pub unwrap-requires : goal.unwrap-requires
unwrap-requires c =
    rw
    (position_from_yields_List opens _ _ _ c.position-behind.ensures.ran (YieldsList-from_slice _ c.iter.ensures.rest) (λ x b q k. search (rules, tests))
    ∙ (trailer-lent _ c.args.dictionary.words32 c.args.dictionary.accepted c.args.header c.requires _ c.records.ensures.records).0)

-- header + behind.unwrap()
pub returns : goal.returns
returns c =
    trailer-found _ c.args.dictionary.words32 c.args.dictionary.accepted c.args.header c.requires _ c.records.ensures.records _
    (sym (position_from_yields_List opens _ _ _ c.position-behind.ensures.ran (YieldsList-from_slice _ c.iter.ensures.rest) (λ x b q k. search (rules, tests)))
    ∙ c.unwrap.ensures)
