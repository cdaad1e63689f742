-- `configuration::behind` meets its contract. Assumes nothing.
use borrow.Author.Tests.{eq-eqb, ne_eqb}
use Rattle.session_read.specs.Start.{behind_keyword}
use Rattle.session_read.proofs.configuration.behind.Goals as goal

pub returns-then-n-keyword-eq1 : goal.returns-then-n-keyword-eq1
unfolding behind_keyword
returns-then-n-keyword-eq1 c = rw (eq-eqb _ 1 c.if-n-keyword-eq1.true)

pub returns : goal.returns
unfolding behind_keyword
returns c = rw (ne_eqb _ 1 c.if-n-keyword-eq1.false)
