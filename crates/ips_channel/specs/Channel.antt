-- The code's channel: from a channel and its store to a condition of the rules, and back; how it starts, and what it hears.
use Rattle.std.specs.Prelude.{ℕ, cond, List, [], Option, None}
use Rattle.quantity.specs.declared.count.FlowSequence.{FlowSequence}
use Rattle.quantity.specs.Limits.{LONGEST-PACKET}
use Rattle.meaning.specs.declared.message.Window.{Window}
use Rattle.meaning.specs.Statuses.{DEFAULT-CODES}
use Rattle.store.specs.declared.queue.Queue.{Queue}
use Rattle.store.specs.Waiting.{packets_of, queue_of}
use Rattle.flow.specs.Counting.{flow_after, first_flow}
use Rattle.ips_channel_rules.specs.Rules.{Terms, Condition}
use Rattle.ips_channel_rules.specs.Machine.{machine}
use Rattle.ips_channel.specs.declared.state.DatalinkSetting.{DatalinkSetting}
use Rattle.ips_channel.specs.declared.state.Setting.{Setting}
use Rattle.ips_channel.specs.declared.state.Channel.{Channel}

-- ---- a datalink with ID 0 and the default, where it doesn't matter
abbrev pub no_datalink : DatalinkSetting
no_datalink = record { id = record { 0 = 0 }; codes = DEFAULT-CODES }

-- ---- how a channel is configured, as the rules take it, by the longest packet
abbrev pub terms_under : (longest : ℕ) → DatalinkSetting → Setting → Terms
terms_under longest datalink setting =
    record { datalink = datalink.id; codes = datalink.codes; id = setting.id; controlled = setting.controlled; size = setting.size.0; longest = longest }

abbrev pub terms_of : DatalinkSetting → Setting → Terms
terms_of datalink setting = terms_under LONGEST-PACKET datalink setting

-- ---- a channel and its store as a condition, however untidy they are behind what waits
unfoldable pub condition_of : Channel → List ℕ → Condition machine
condition_of c store = record { counting = record { flow = c.flow; sequence = c.sequence }; keeping = packets_of c.queue store; status = c.status; latest = c.latest }

-- ---- and back: the one channel of this setting that is in a condition
unfoldable pub with_condition : Channel → Condition machine → Channel
with_condition c st =
    record { setting = c.setting; status = st.status; flow = st.counting.flow; sequence = st.counting.sequence; latest = st.latest; queue = queue_of st.keeping }

-- the channel with what waits on it now, and a time that was accepted
unfoldable pub with_queue : Channel → Queue → ℕ → Channel
with_queue c queue time = record { setting = c.setting; status = c.status; flow = c.flow; sequence = c.sequence; latest = time; queue = queue }

-- a radio message touches neither queue nor store
unfoldable pub heard_of : Channel → Option ℕ → Option Window → Channel
heard_of c status window =
    record { setting = c.setting; status = status; flow = cond c.setting.controlled (flow_after window) c.flow; sequence = c.sequence; latest = c.latest; queue = c.queue }

-- "A channel has a status (fresh: not reported)"; "Latest time is .. 0 when fresh"
unfoldable pub fresh_channel : Setting → FlowSequence → Channel
fresh_channel setting first =
    record { setting = setting; status = None; flow = first_flow setting.controlled; sequence = first; latest = 0; queue = queue_of [] }
