-- Number 19 in plain facts: what a state within the limits is.
use Rattle.std.specs.Prelude.{ℕ, ◌≤◌, ◌<◌, ◌≡◌, length, Some}
use Rattle.quantity.specs.declared.count.FlowSequence.{FlowSequence}
use Rattle.radio_end_state.specs.declared.channel.Channel.{Channel}
use Rattle.radio_end_state.specs.State.{State, channel_at}
use Rattle.radio_end_laws.specs.Plain.{Has, ContextWritable, InstanceWritable}

-- "ID 255", "a status above 15", "watermark or throughput above 2^31 - 1"; a sequence is a number of 32 bits
pub record ChannelWithin (c : Channel) : Type 0 where
  pub unreserved : c.setting.id < 255
  pub watermark : c.setting.watermark.0 ≤ 2147483647
  pub throughput : c.setting.throughput.0 ≤ 2147483647
  pub status : c.status ≤ 15
  pub highest : (h : FlowSequence) → c.highest ≡ Some h → h.0 < 4294967296

-- "channel count", "an ID twice", "no channel 0", "a kept Link Instance or Context outside its lengths"
pub record WithinLimits (s : State) : Type 0 where
  pub datalink : s.datalink.0 < 256
  pub some : 1 ≤ length s.channels
  pub few : length s.channels ≤ 64
  pub instance : InstanceWritable s.instance
  pub context : ContextWritable s.context
  pub each : (index : ℕ) → index < length s.channels → ChannelWithin (channel_at s index)
  pub apart : (first second : ℕ) → first < length s.channels → second < length s.channels
      → (channel_at s first).setting.id ≡ (channel_at s second).setting.id → first ≡ second
  pub primary : Has s 0
