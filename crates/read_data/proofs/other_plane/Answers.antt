-- `other_plane` states nothing, and carries nothing. Assumes nothing.
use Rattle.read_data.specs.Message.{data_other}
use Rattle.read_data.specs.Packet.{uncarried_of}
use Rattle.read_data.proofs.other_plane.Goals as goal

pub returns : goal.returns
unfolding data_other uncarried_of
returns c = rw c.blank.ensures
