-- `uncarried` refuses, with nothing carried. Assumes nothing.
use Rattle.read_data.specs.Packet.{uncarried_of}
use Rattle.read_data.proofs.uncarried.Goals as goal

pub returns : goal.returns
unfolding uncarried_of
returns c = rw c.refused.ensures
