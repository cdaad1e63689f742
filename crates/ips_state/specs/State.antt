-- The endpoint's state: its channels in configuration order; the configuration, and the fresh start that it makes.
use Rattle.quantity.specs.declared.count.LinkInstanceId.{LinkInstanceId}
use Rattle.meaning.specs.declared.message.ContextBytes.{ContextBytes}
use Rattle.std.specs.Prelude.{ℕ, false, List, [], map, set, get_or, Option, None}
use Rattle.quantity.specs.declared.count.FlowSequence.{FlowSequence}
use Rattle.flow.specs.declared.Flow.{Flow}
use Rattle.ips_channel.specs.declared.state.DatalinkSetting.{DatalinkSetting}
use Rattle.ips_channel.specs.declared.state.Setting.{Setting}
use Rattle.ips_channel.specs.declared.state.Channel.{Channel}
use Rattle.ips_channel.specs.Channel.{no_datalink, fresh_channel}
use Rattle.pacer.specs.declared.Pacer.{Pacer}
use Rattle.pacer.specs.Pacing.{fresh_pacer}

-- how one channel starts: its setting and its first sequence
pub record ChannelStart : Type 0 where
  pub setting : Setting
  pub first : FlowSequence

-- what a fresh start is given: the datalink's ID with its setting of the statuses 8 to 15, HelloTime and silence limit, its channels in configuration order
pub record Configuration : Type 0 where
  pub datalink : DatalinkSetting
  pub hello : ℕ
  pub limit : ℕ
  pub starts : List ChannelStart

-- the datalink as it is configured; the channels in configuration order, as their stores stand in the lent memory; the Link Instance as last given, the Context of the control message accepted just before;
-- the pacer with its clock
pub record State : Type 0 where
  pub datalink : DatalinkSetting
  pub channels : List Channel
  pub instance : Option (LinkInstanceId × ℕ)
  pub context : Option (ContextBytes × ℕ)
  pub pacer : Pacer

-- what an index past the end gives
abbrev pub no_setting : Setting
no_setting = record { id = 0; controlled = false; size = record { 0 = 0 } }

abbrev pub no_start : ChannelStart
no_start = record { setting = no_setting; first = record { 0 = 0 } }

abbrev pub no_channel : Channel
no_channel = record { setting = no_setting; status = None; flow = Flow.Free; sequence = record { 0 = 0 }; latest = 0; queue = record { entries = []; count = 0 } }

unfoldable pub channel_at : State → ℕ → Channel
channel_at s index = get_or s.channels index no_channel

unfoldable pub with_channel : State → ℕ → Channel → State
with_channel s index c = record { datalink = s.datalink; channels = set s.channels index c; instance = s.instance; context = s.context; pacer = s.pacer }

unfoldable pub with_pacer : State → Pacer → State
with_pacer s pacer = record { datalink = s.datalink; channels = s.channels; instance = s.instance; context = s.context; pacer = pacer }

-- ---- a fresh start
abbrev pub start_at : Configuration → ℕ → ChannelStart
start_at k index = get_or k.starts index no_start

abbrev pub fresh_of : ChannelStart → Channel
fresh_of start = fresh_channel start.setting start.first

unfoldable pub fresh_state : Configuration → State
fresh_state k = record { datalink = k.datalink; channels = map fresh_of k.starts; instance = None; context = None; pacer = fresh_pacer k.hello k.limit }

-- ---- no channel at all, which every call refuses
unfoldable pub blank_state : State
blank_state = record { datalink = no_datalink; channels = []; instance = None; context = None; pacer = fresh_pacer 0 0 }

unfoldable pub blank_configuration : Configuration
blank_configuration = record { datalink = no_datalink; hello = 0; limit = 0; starts = [] }
