-- `definitions::definitions::record_in` meets its contract: the names of an index ascend, and its numbers are those of records (specs/DefinitionsLaws.antt).
use mathlib.Core.Path.{◌∙◌}
use native.Mathlib.Omega.{arith}
use Prim.Native.Nat.{◌<◌}
use Rattle.records.specs.RecordKind.{kind_number}
use Rattle.definitions.specs.DefinitionsLaws.{index_number, record_in-found, record_in-missing, rank_inside}
use borrow.Author.Rules.{rules}
use Rattle.definitions.proofs.definitions.record_in.Goals as goal

pub overflow_add-result : goal.overflow_add-result
overflow_add-result c = let rank_here : c.in_ok-rank.rank < c.args.count = rank_inside (kind_number c.args.kind) c.args.at c.args.count c.args.name c.args.words.now c.requires.0 c.requires.1 _ c.binary_search.ensures.outcome _ c.in_ok-rank.was c.binary_search.ensures.there in
    omega (arith, rank_here, c.requires.0)

pub offset_bounds-words-past : goal.offset_bounds-words-past
offset_bounds-words-past c = let rank_here : c.in_ok-rank.rank < c.args.count = rank_inside (kind_number c.args.kind) c.args.at c.args.count c.args.name c.args.words.now c.requires.0 c.requires.1 _ c.binary_search.ensures.outcome _ c.in_ok-rank.was c.binary_search.ensures.there in
    omega (arith, rank_here, c.requires.0)

pub bounds-words-past : goal.bounds-words-past
bounds-words-past c = let rank_here : c.in_ok-rank.rank < c.args.count = rank_inside (kind_number c.args.kind) c.args.at c.args.count c.args.name c.args.words.now c.requires.0 c.requires.1 _ c.binary_search.ensures.outcome _ c.in_ok-rank.was c.binary_search.ensures.there in
    omega (arith, rank_here, c.requires.0)

pub overflow_cast-result : goal.overflow_cast-result
overflow_cast-result c = let rank_here : c.in_ok-rank.rank < c.args.count = rank_inside (kind_number c.args.kind) c.args.at c.args.count c.args.name c.args.words.now c.requires.0 c.requires.1 _ c.binary_search.ensures.outcome _ c.in_ok-rank.was c.binary_search.ensures.there in
    omega (arith, index_number _ _ _ _ c.requires.1 _ (rank_here), c.shared_slice_known-2-1.given 0)

-- fn record_in(words: &[u32], kind: u32, at: usize, count: usize, name: u32) -> Option<usize>
pub returns : goal.returns
returns c = let rank_here : c.in_ok-rank.rank < c.args.count = rank_inside (kind_number c.args.kind) c.args.at c.args.count c.args.name c.args.words.now c.requires.0 c.requires.1 _ c.binary_search.ensures.outcome _ c.in_ok-rank.was c.binary_search.ensures.there in
    record {
      found = record_in-found (kind_number c.args.kind) c.args.at c.args.count c.args.name c.args.words.now c.requires.0 c.requires.1 _ c.binary_search.ensures.outcome _ c.in_ok-rank.was;
      inside = index_number (kind_number c.args.kind) c.args.at c.args.count c.args.words.now c.requires.1 _ (rank_here);
    }

pub returns-in_err-rank : goal.returns-in_err-rank
returns-in_err-rank c = record {
  found = c.from_residual.ensures ∙ record_in-missing (kind_number c.args.kind) c.args.at c.args.count c.args.name c.args.words.now c.requires.0 c.requires.1 _ c.binary_search.ensures.outcome c.in_err-rank.was;
  inside = rw c.from_residual.ensures tt;
}
