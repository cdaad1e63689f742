-- `context::context_said` meets its contract. Assumes nothing.
use borrow.Author.Tests.{eq-eqb, ne_eqb}
use Rattle.station_read.specs.Lines.{context_said}
use Rattle.station_read.proofs.context.context_said.Goals as goal

pub returns-then-bytes-eq0 : goal.returns-then-bytes-eq0
unfolding context_said
returns-then-bytes-eq0 c = rw (eq-eqb _ 0 c.if-bytes-eq0.true)

pub returns : goal.returns
unfolding context_said
returns c = rw (ne_eqb _ 0 c.if-bytes-eq0.false, c.spelt.ensures)
