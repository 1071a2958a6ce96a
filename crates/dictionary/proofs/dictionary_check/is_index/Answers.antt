-- `dictionary::dictionary_check::is_index` meets its contract: its tests are those of `is_index` (specs/DictionaryCheckLaws.antt).
use Rattle.std.proofs.Common.{rules, ◌≡◌, ◌∙◌, ◌+◌, ◌-◌, ◌*◌, ℕ, List, take, drop, sym, arith, eqb-true}
use Rattle.std.proofs.lemmas.Iterator.{YieldsList-from_slice, YieldsList-from_zip}
use Rattle.std.proofs.lemmas.Iterator.Search.{all_from_yields_List}
use Rattle.dictionary.specs.DictionaryCheck.{stands_at}
use Rattle.dictionary.specs.DictionaryCheckLaws.{index-miscounted, index-falls, index-stands}
use Rattle.dictionary.proofs.dictionary_check.is_index.Goals as goal
use Rattle.dictionary.proofs.dictionary_check.is_index.Goals.{then-counted-count, else-counted-count}

-- the names and the numbers are `count` words each
index-parts : (at count : ℕ) (words : List ℕ) → (take (at + count - at) (drop at words) ≡ take count (drop at words))
    × (take (at + 2 * count - (at + count)) (drop (at + count) words) ≡ take count (drop (at + count) words))
index-parts at count words =
    let names : at + count - at ≡ count = omega arith in
    let numbers : at + 2 * count - (at + count) ≡ count = omega arith in
    (rw names, rw numbers)

pub returns-then-is_strictly_ascending : goal.returns-then-is_strictly_ascending
returns-then-is_strictly_ascending c =
    let parts = index-parts c.args.at c.args.count c.args.words.now in
    let all =
    all_from_yields_List (λ (pair : ℕ × ℕ). stands_at c.args.kind pair.0 pair.1 c.args.words.now) c.all.new.self _ _ c.all.ensures.ran
    (YieldsList-from_zip
    (YieldsList-from_slice (take (c.args.at + c.args.count - c.args.at) (drop c.args.at c.args.words.now)) (search rules))
    (YieldsList-from_slice (take (c.args.at + 2 * c.args.count - (c.args.at + c.args.count)) (drop (c.args.at + c.args.count) c.args.words.now)) (search rules)))
    (λ x b q k. search rules) in
    elim c.if-counted-count.branch [
      | then-counted-count w ↦
          let ascends = rw parts.0 at (sym w.is_strictly_ascending.ensures.outcome ∙ sym w.value-is ∙ c.if-is_strictly_ascending.true) in
          rw (parts.0, parts.1) at all
          ∙ sym (index-stands c.args.kind c.args.at c.args.count c.args.words.now _ c.requires.counted w.if-counted-count.true ascends c.requires.in_bounds.1.1)
      | else-counted-count w ↦ absurd (w.if-counted-count.false (eqb-true _ _ (sym w.value-is ∙ c.if-is_strictly_ascending.true)))
    ]

pub returns-else-is_strictly_ascending : goal.returns-else-is_strictly_ascending
returns-else-is_strictly_ascending c =
    let parts = index-parts c.args.at c.args.count c.args.words.now in
    elim c.if-counted-count.branch [
      | then-counted-count w ↦
          let falls = rw parts.0 at (sym w.is_strictly_ascending.ensures.outcome ∙ sym w.value-is ∙ c.if-is_strictly_ascending.false) in
          c.if-is_strictly_ascending.false
          ∙ sym (index-falls c.args.kind c.args.at c.args.count c.args.words.now _ c.requires.counted w.if-counted-count.true falls)
      | else-counted-count w ↦
          c.if-is_strictly_ascending.false
          ∙ sym (index-miscounted c.args.kind c.args.at c.args.count c.args.words.now _ c.requires.counted w.if-counted-count.false)
    ]
