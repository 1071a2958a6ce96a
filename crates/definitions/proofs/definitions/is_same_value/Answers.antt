-- `definitions::definitions::is_same_value` meets its contract, a word at a time.
use borrow.Author.Tests.{eq-eqb, ne_eqb}
use Rattle.definitions.specs.Definitions.{is_same_value}
use Rattle.definitions.proofs.definitions.is_same_value.Goals as goal

-- return false;
pub returns-then-words-value : goal.returns-then-words-value
unfolding is_same_value
returns-then-words-value c = rw (ne_eqb _ _ c.if-words-value.true)

-- return false;
pub returns-then-words-value-2 : goal.returns-then-words-value-2
unfolding is_same_value
returns-then-words-value-2 c = rw (eq-eqb _ _ c.if-words-value.false, ne_eqb _ _ c.if-words-value-2.true)

-- return false;
pub returns-then-words-value-3 : goal.returns-then-words-value-3
unfolding is_same_value
returns-then-words-value-3 c = rw (eq-eqb _ _ c.if-words-value.false, eq-eqb _ _ c.if-words-value-2.false, ne_eqb _ _ c.if-words-value-3.true)

-- return false;
pub returns-then-words-value-4 : goal.returns-then-words-value-4
unfolding is_same_value
returns-then-words-value-4 c = rw (eq-eqb _ _ c.if-words-value.false, eq-eqb _ _ c.if-words-value-2.false, eq-eqb _ _ c.if-words-value-3.false, ne_eqb _ _ c.if-words-value-4.true)

-- return false;
pub returns-then-words-value-5 : goal.returns-then-words-value-5
unfolding is_same_value
returns-then-words-value-5 c = rw (eq-eqb _ _ c.if-words-value.false, eq-eqb _ _ c.if-words-value-2.false, eq-eqb _ _ c.if-words-value-3.false, eq-eqb _ _ c.if-words-value-4.false, ne_eqb _ _ c.if-words-value-5.true)

-- return false;
pub returns-then-words-value-6 : goal.returns-then-words-value-6
unfolding is_same_value
returns-then-words-value-6 c = rw (eq-eqb _ _ c.if-words-value.false, eq-eqb _ _ c.if-words-value-2.false, eq-eqb _ _ c.if-words-value-3.false, eq-eqb _ _ c.if-words-value-4.false, eq-eqb _ _ c.if-words-value-5.false, ne_eqb _ _ c.if-words-value-6.true)

-- return false;
pub returns-then-words-value-7 : goal.returns-then-words-value-7
unfolding is_same_value
returns-then-words-value-7 c = rw (eq-eqb _ _ c.if-words-value.false, eq-eqb _ _ c.if-words-value-2.false, eq-eqb _ _ c.if-words-value-3.false, eq-eqb _ _ c.if-words-value-4.false, eq-eqb _ _ c.if-words-value-5.false, eq-eqb _ _ c.if-words-value-6.false, ne_eqb _ _ c.if-words-value-7.true)

-- return false;
pub returns-then-words-value-8 : goal.returns-then-words-value-8
unfolding is_same_value
returns-then-words-value-8 c = rw (eq-eqb _ _ c.if-words-value.false, eq-eqb _ _ c.if-words-value-2.false, eq-eqb _ _ c.if-words-value-3.false, eq-eqb _ _ c.if-words-value-4.false, eq-eqb _ _ c.if-words-value-5.false, eq-eqb _ _ c.if-words-value-6.false, eq-eqb _ _ c.if-words-value-7.false, ne_eqb _ _ c.if-words-value-8.true)

-- words[9] == value.word7
pub returns : goal.returns
unfolding is_same_value
returns c = rw (eq-eqb _ _ c.if-words-value.false, eq-eqb _ _ c.if-words-value-2.false, eq-eqb _ _ c.if-words-value-3.false, eq-eqb _ _ c.if-words-value-4.false, eq-eqb _ _ c.if-words-value-5.false, eq-eqb _ _ c.if-words-value-6.false, eq-eqb _ _ c.if-words-value-7.false, eq-eqb _ _ c.if-words-value-8.false)
