-- `channel::queue` meets its contract. Assumes nothing.
use Rattle.radio_end_state.specs.Channel.{queueing}
use Rattle.radio_end_state.proofs.channel.queue.Goals as goal

pub returns : goal.returns
unfolding queueing
returns c = rw (c.with_queued.ensures, c.queue.ensures)
