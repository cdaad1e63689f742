-- `channel::hear` meets its contract. Assumes nothing.
use Rattle.radio_end_state.specs.Channel.{hearing_on}
use Rattle.radio_end_state.proofs.channel.hear.Goals as goal

pub returns : goal.returns
unfolding hearing_on
returns c = rw c.heard-highest.ensures
