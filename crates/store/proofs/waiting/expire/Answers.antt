-- `waiting::expire` meets its contract. Assumes nothing.
use Rattle.store.specs.Waiting.{packets_of}
use Rattle.store.specs.Parts.{packets_from, displaced_between}
use Rattle.store.proofs.waiting.expire.Goals as goal

pub returns : goal.returns
unfolding packets_of packets_from displaced_between
returns c = record { holds = c.retain.ensures.holds; moved_value = c.retain.ensures.moved_value }
