-- `asked::end_of` meets its contract. Assumes nothing.
use borrow.Author.Tests.{eq-eqb, ne_eqb}
use Rattle.session_read.specs.Lines.{end_of}
use Rattle.session_read.proofs.asked.end_of.Goals as goal

pub returns-then-n-eq0 : goal.returns-then-n-eq0
unfolding end_of
returns-then-n-eq0 c = rw (eq-eqb _ 0 c.if-n-eq0.true)

pub returns : goal.returns
unfolding end_of
returns c = rw (ne_eqb _ 0 c.if-n-eq0.false)
