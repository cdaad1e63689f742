-- `heard` meets its contract, case by case of the sequence stated. Assumes nothing.
use Rattle.radio_flow.specs.Granting.{hearing}
use Rattle.radio_flow.proofs.heard.Goals as goal

pub returns-then-not-controlled : goal.returns-then-not-controlled
unfolding hearing
returns-then-not-controlled c = rw c.if-not-controlled.true

pub returns-in-None : goal.returns-in-None
unfolding hearing
returns-in-None c = rw (c.if-not-controlled.false, c.in-None.is)

pub returns-in-Some : goal.returns-in-Some
unfolding hearing
returns-in-Some c = rw (c.if-not-controlled.false, c.in-Some.is) c.hear.ensures
