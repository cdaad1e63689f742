-- `refused` meets its contract, from the message that states nothing. Assumes nothing.
use Rattle.read_control.specs.Message.{control_refused}
use Rattle.read_control.proofs.refused.Goals as goal

pub returns : goal.returns
unfolding control_refused
returns c = rw c.blank.ensures
