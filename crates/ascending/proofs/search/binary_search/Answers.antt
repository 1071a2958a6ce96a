-- `ascending::search::binary_search` meets its contract. The loop's invariant is `SearchSoFar`; the laws are those of specs/SearchLaws.antt.
use native.Mathlib.Omega.{arith}
use Rattle.ascending.specs.SearchLaws.{search_empty, search_begins, search_finds, search_holds, search_misses, search_goes_up, search_goes_down}
use Rattle.ascending.proofs.search.binary_search.Goals as goal

-- return None;
pub returns-then-words-eq0 : goal.returns-then-words-eq0
returns-then-words-eq0 c = record {
  outcome = search_empty _ _ c.if-words-eq0.true;
  there = tt;
}

-- while 1 < size {
pub loop-size-init : goal.loop-size-init
loop-size-init c = search_begins _ _ c.if-words-eq0.false

-- let middle = base + half;
pub overflow_add-middle : goal.overflow_add-middle
overflow_add-middle c = omega (arith, c.loop-size.invariant.within)

pub loop-size-preserved-then-word-tag : goal.loop-size-preserved-then-word-tag
loop-size-preserved-then-word-tag c = search_goes_up _ _ _ _ _ c.loop-size.invariant _ (omega arith) (omega arith) c.if-word-tag.true

pub loop-size-preserved : goal.loop-size-preserved
loop-size-preserved c = search_goes_down _ _ _ _ _ c.loop-size.invariant _ (omega arith) (omega arith) c.if-word-tag.false

-- return Some(base);
pub returns-then-last-tag : goal.returns-then-last-tag
returns-then-last-tag c = record {
  outcome = search_finds _ _ _ _ _ c.loop-size.invariant c.loop-size-test.false c.if-last-tag.true;
  there = search_holds _ _ _ _ _ c.loop-size.invariant c.loop-size-test.false c.if-last-tag.true;
}

-- pub fn binary_search(words: &[u32], tag: u32) -> Option<usize>
pub returns : goal.returns
returns c = record {
  outcome = search_misses _ _ _ _ _ c.loop-size.invariant c.loop-size-test.false c.if-last-tag.false;
  there = tt;
}
