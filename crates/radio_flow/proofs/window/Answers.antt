-- `window` meets its contract. Assumes nothing.
use Rattle.radio_flow.specs.Granting.{window_of}
use Rattle.radio_flow.proofs.window.Goals as goal

pub returns-then-not-controlled : goal.returns-then-not-controlled
unfolding window_of
returns-then-not-controlled c = rw c.if-not-controlled.true

pub returns : goal.returns
unfolding window_of
returns c = rw c.if-not-controlled.false c.grant.ensures
