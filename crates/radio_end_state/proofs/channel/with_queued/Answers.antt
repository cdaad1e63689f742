-- `channel::with_queued` meets its contract. Assumes nothing.
use mathlib.Core.Path.{refl}
use Rattle.radio_end_state.specs.Channel.{with_queued}
use Rattle.radio_end_state.proofs.channel.with_queued.Goals as goal

pub returns : goal.returns
unfolding with_queued
returns c = refl
