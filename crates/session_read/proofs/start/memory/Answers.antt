-- `start::memory` meets its contract. Assumes nothing.
use Rattle.session_read.specs.Start.{memory_of}
use Rattle.session_read.proofs.start.memory.Goals as goal

pub returns : goal.returns
unfolding memory_of
returns c = rw (← c.memory_place.ensures, ← c.stores.ensures) c.perhaps.ensures
