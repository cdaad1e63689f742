-- The state of the radio's end, its configuration, and the fresh start that it makes.
use Rattle.quantity.specs.declared.count.LinkInstanceId.{LinkInstanceId}
use Rattle.meaning.specs.declared.message.ContextBytes.{ContextBytes}
use Rattle.std.specs.Prelude.{ℕ, false, List, [], map, set, get_or, Option, None}
use Rattle.quantity.specs.declared.count.DatalinkId.{DatalinkId}
use Rattle.radio_end_state.specs.declared.channel.Setting.{Setting}
use Rattle.radio_end_state.specs.declared.channel.Channel.{Channel}
use Rattle.radio_end_state.specs.Channel.{fresh_channel}

-- Datalink ID, and each channel's ID, kind, watermark and throughput per period, in configuration order
pub record Configuration : Type 0 where
  pub datalink : DatalinkId
  pub settings : List Setting

-- the channels in configuration order; Link Instance and Context, or none
pub record State : Type 0 where
  pub datalink : DatalinkId
  pub channels : List Channel
  pub instance : Option (LinkInstanceId × ℕ)
  pub context : Option (ContextBytes × ℕ)

-- what an index past the end gives
abbrev pub no_setting : Setting
no_setting = record { id = 0; controlled = false; watermark = record { 0 = 0 }; throughput = record { 0 = 0 } }

abbrev pub no_channel : Channel
no_channel = record { setting = no_setting; status = 0; queued = record { 0 = 0 }; highest = None }

unfoldable pub channel_at : State → ℕ → Channel
channel_at s index = get_or s.channels index no_channel

-- ---- a state with one thing replaced
unfoldable pub with_channels : State → List Channel → State
with_channels s channels = record { datalink = s.datalink; channels = channels; instance = s.instance; context = s.context }

unfoldable pub with_channel : State → ℕ → Channel → State
with_channel s index c = with_channels s (set s.channels index c)

unfoldable pub with_context : State → Option (ContextBytes × ℕ) → State
with_context s context = record { datalink = s.datalink; channels = s.channels; instance = s.instance; context = context }

unfoldable pub with_instance : State → Option (LinkInstanceId × ℕ) → State
with_instance s instance = record { datalink = s.datalink; channels = s.channels; instance = instance; context = s.context }

-- ---- a fresh start
unfoldable pub fresh_state : Configuration → State
fresh_state k = record { datalink = k.datalink; channels = map fresh_channel k.settings; instance = None; context = None }

-- ---- no channel at all, which every call refuses
unfoldable pub blank_state : State
blank_state = record { datalink = record { 0 = 0 }; channels = []; instance = None; context = None }
