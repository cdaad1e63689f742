-- `channel::with_status` meets its contract. Assumes nothing.
use mathlib.Core.Path.{refl}
use Rattle.radio_end_state.specs.Channel.{with_status}
use Rattle.radio_end_state.proofs.channel.with_status.Goals as goal

pub returns : goal.returns
unfolding with_status
returns c = refl
