-- `ascending::dedup::dedup` meets its contract. The loop's invariant is `DedupSoFar`; the laws are those of specs/DedupLaws.antt.
use Rattle.std.proofs.Common.{sym, ◌∙◌, arith, eqb-true}
use Rattle.std.proofs.lemmas.Bool.{eqb-false}
use Rattle.ascending.specs.DedupLaws.{dedup_empty, dedup_begins, dedup_keeps, dedup_drops, dedup_ends}
use Rattle.ascending.proofs.dedup.dedup.Goals as goal
use Rattle.ascending.proofs.dedup.dedup.Goals.{then-word-words, else-word-words}

-- return 0;
pub returns-then-is_empty : goal.returns-then-is_empty
returns-then-is_empty c =
    let none = dedup_empty c.args.words.now (eqb-true _ 0 (sym c.is_empty.ensures ∙ c.if-is_empty.true)) in
    record { outcome = none.0; memory = none.1 }

-- for index in 1..words.len() {
pub loop-index-init : goal.loop-index-init
loop-index-init c = dedup_begins _ (eqb-false _ 0 (sym c.is_empty.ensures ∙ c.if-is_empty.false))

pub loop-index-preserved : goal.loop-index-preserved
loop-index-preserved c =
    elim c.if-word-words.branch [
      | then-word-words w ↦ rw (w.words-is, w.kept-is) (dedup_keeps _ _ _ _ c.loop-index.invariant (omega (arith, c.loop-index.invariant.size)) w.if-word-words.true)
      | else-word-words w ↦ rw (w.words-is, w.kept-is) (dedup_drops _ _ _ _ c.loop-index.invariant (omega (arith, c.loop-index.invariant.size)) w.if-word-words.false)
    ]

-- pub fn dedup(words: &mut [u32]) -> usize
pub returns : goal.returns
returns c =
    let ends = dedup_ends _ _ _ _ c.loop-index.invariant (omega (arith, c.loop-index.invariant.size)) in
    record { outcome = ends.0; memory = ends.1 }
