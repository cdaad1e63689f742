-- `fault` meets its contract, test by test. Assumes nothing.
use mathlib.Core.Path.{sym, ◌∙◌}
use borrow.Author.Tests.{eq-eqb, ne_eqb}
use Rattle.read_control.proofs.fault.Goals as goal

pub returns-then-lacks_status : goal.returns-then-lacks_status
returns-then-lacks_status c = rw (c.in-Some.is, sym c.lacks_status.ensures ∙ c.if-lacks_status.true)

pub returns-then-stated-id : goal.returns-then-stated-id
returns-then-stated-id c = rw (c.in-Some.is, sym c.lacks_status.ensures ∙ c.if-lacks_status.false, ne_eqb _ _ c.if-stated-id.true)

pub returns : goal.returns
returns c = rw (c.in-Some.is, sym c.lacks_status.ensures ∙ c.if-lacks_status.false, eq-eqb _ _ c.if-stated-id.false)
