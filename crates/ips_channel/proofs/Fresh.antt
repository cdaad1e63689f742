-- Promise: a fresh channel of the code, written out by its kind. Assumes nothing.
use mathlib.Core.Bool.{true, false}
use mathlib.Core.Path.{◌≡◌}
use Rattle.quantity.specs.declared.count.FlowSequence.{FlowSequence}
use Rattle.store.specs.Waiting.{listed, queue_of}
use Rattle.flow.specs.declared.Flow.{Flow}
use Rattle.ips_channel.specs.declared.state.Setting.{Setting}
use Rattle.ips_channel.specs.Channel.{fresh_channel}
use Rattle.ips_channel.specs.Fresh.{fresh_with}

module _ (setting : Setting) (first : FlowSequence) where
  -- "Fresh flow-controlled channels have no window."
  pub fresh_controlled : setting.controlled ≡ true → fresh_channel setting first ≡ fresh_with Flow.NoWindow setting first
  unfolding fresh_channel queue_of listed
  fresh_controlled controlled = rw controlled

  -- "Plain channels are always free."
  pub fresh_plain : setting.controlled ≡ false → fresh_channel setting first ≡ fresh_with Flow.Free setting first
  unfolding fresh_channel queue_of listed
  fresh_plain plain = rw plain
