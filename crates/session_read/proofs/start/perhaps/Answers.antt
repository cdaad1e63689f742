-- `start::perhaps` meets its contract. Assumes nothing.
use borrow.Author.Tests.{eq-eqb, ne_eqb}
use Rattle.session_read.specs.Start.{perhaps}
use Rattle.session_read.proofs.start.perhaps.Goals as goal

pub returns-then-n-keyword-eq1 : goal.returns-then-n-keyword-eq1
unfolding perhaps
returns-then-n-keyword-eq1 c = rw (eq-eqb _ 1 c.if-n-keyword-eq1.true)

pub returns : goal.returns
unfolding perhaps
returns c = rw (ne_eqb _ 1 c.if-n-keyword-eq1.false)
