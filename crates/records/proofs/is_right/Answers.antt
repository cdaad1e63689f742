-- `is_right` meets its contract, test by test. Assumes nothing.
use Rattle.records.specs.Heads.{is_right}
use borrow.Author.Tests.{eq-eqb, ne_eqb}
use Rattle.records.proofs.is_right.Goals as goal

pub returns-then-pair-ne2 : goal.returns-then-pair-ne2
unfolding is_right
returns-then-pair-ne2 c = rw (← c.pair.ensures) (simp (ne_eqb _ 2 c.if-pair-ne2.true))

pub returns-then-pair-ne4 : goal.returns-then-pair-ne4
unfolding is_right
returns-then-pair-ne4 c = rw (← c.pair.ensures, ← c.pair-2.ensures) (simp (eq-eqb _ 2 c.if-pair-ne2.false, ne_eqb _ 4 c.if-pair-ne4.true))

pub returns : goal.returns
unfolding is_right
returns c = rw (← c.pair.ensures, ← c.pair-2.ensures, ← c.number.ensures) (simp (eq-eqb _ 2 c.if-pair-ne2.false, eq-eqb _ 4 c.if-pair-ne4.false))
