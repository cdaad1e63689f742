-- `configuration::pace_place` meets its contract. Assumes nothing.
use Rattle.session_read.specs.Start.{pace_place}
use Rattle.session_read.proofs.configuration.pace_place.Goals as goal

pub returns : goal.returns
unfolding pace_place
returns c = rw (← c.memory_place.ensures) c.behind.ensures
