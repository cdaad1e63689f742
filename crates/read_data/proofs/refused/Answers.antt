-- `refused` gives the number and the place, and a message that states nothing. Assumes nothing.
use Rattle.read_data.specs.Message.{data_refused}
use Rattle.read_data.proofs.refused.Goals as goal

pub returns : goal.returns
unfolding data_refused
returns c = rw c.blank.ensures
