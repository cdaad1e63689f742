-- `start::started` meets its contract. Assumes nothing.
use Rattle.session_read.specs.Start.{start_from}
use Rattle.session_read.proofs.start.started.Goals as goal

pub returns : goal.returns
unfolding start_from
returns c = rw c.memory.ensures
