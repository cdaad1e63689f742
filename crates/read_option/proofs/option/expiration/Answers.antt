-- `option::expiration` meets its contract, way by way. Assumes nothing.
use borrow.Author.Tests.{eq-eqb, ne_eqb}
use Rattle.meaning.specs.Kinds.{length_listed, value_listed}
use Rattle.read_option.specs.Items.{item_of, stated_of}
use Rattle.read_option.proofs.option.expiration.Goals as goal

pub returns-then-content-ne4 : goal.returns-then-content-ne4
unfolding stated_of length_listed
returns-then-content-ne4 c = simp (ne_eqb _ 4 c.if-content-ne4.true)

pub returns-then-time-eq0 : goal.returns-then-time-eq0
unfolding stated_of length_listed value_listed
returns-then-time-eq0 c = simp (eq-eqb _ 4 c.if-content-ne4.false, ← c.read-time.ensures.value, eq-eqb _ 0 c.if-time-eq0.true)

pub overflow_cast-result : goal.overflow_cast-result
overflow_cast-result c = record { fits = rw c.if-content-ne4.false at c.read-time.ensures.below }

pub returns : goal.returns
unfolding stated_of length_listed value_listed item_of
returns c = simp (eq-eqb _ 4 c.if-content-ne4.false, ← c.read-time.ensures.value, ne_eqb _ 0 c.if-time-eq0.false)
