-- `channel::window` meets its contract. Assumes nothing.
use Rattle.radio_end_state.specs.Channel.{window_now}
use Rattle.radio_end_state.proofs.channel.window.Goals as goal

pub returns : goal.returns
unfolding window_now
returns c = rw (c.window.ensures, c.allowance-allowance.ensures)
