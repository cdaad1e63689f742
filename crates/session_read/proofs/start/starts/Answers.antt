-- `start::starts` meets its contract. Assumes nothing.
use borrow.Author.Tests.{eq-eqb, ne_eqb}
use Rattle.session_read.specs.Lines.{START, start_by}
use Rattle.session_read.proofs.Bounds.{start_fits}
use Rattle.session_read.proofs.start.starts.Goals as goal

pub started-requires : goal.started-requires
started-requires c = start_fits (rw c.if-key-eq-START.true at c.requires)

pub returns-then-key-eq-START : goal.returns-then-key-eq-START
unfolding start_by
returns-then-key-eq-START c = rw (eq-eqb _ START c.if-key-eq-START.true) c.started.ensures

pub returns : goal.returns
unfolding start_by
returns c = rw (ne_eqb _ START c.if-key-eq-START.false) c.not_started.ensures
