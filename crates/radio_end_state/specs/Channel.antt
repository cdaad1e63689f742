-- One channel of the radio's end: a status, the bytes queued, the highest sequence or none heard.
use Rattle.quantity.specs.declared.count.FlowSequence.{FlowSequence}
use Rattle.std.specs.Prelude.{ℕ, Bool, ◌||◌, not, eqb, Option, None}
use Rattle.quantity.specs.declared.count.ByteCount.{ByteCount}
use Rattle.meaning.specs.declared.message.Window.{Window}
use Rattle.radio_flow.specs.Granting.{hearing, allowance_of, window_of, queued_on, same_window}
use Rattle.radio_end_state.specs.declared.channel.Setting.{Setting}
use Rattle.radio_end_state.specs.declared.channel.Channel.{Channel}

-- fresh: status 0, nothing queued, none heard
abbrev pub fresh_channel : Setting → Channel
fresh_channel setting = record { setting = setting; status = 0; queued = record { 0 = 0 }; highest = None }

-- the Flow Window as it stands
unfoldable pub window_now : Channel → Option Window
window_now c = window_of c.setting.controlled c.highest (allowance_of c.setting.watermark c.setting.throughput c.queued)

-- what a message states of the channel is heard
unfoldable pub hearing_on : Channel → Option FlowSequence → Channel
hearing_on c stated = record { setting = c.setting; status = c.status; queued = c.queued; highest = hearing c.setting.controlled c.highest stated }

unfoldable pub with_queued : Channel → ByteCount → Channel
with_queued c queued = record { setting = c.setting; status = c.status; queued = queued; highest = c.highest }

-- a data message's packet is queued: its length is added
unfoldable pub queueing : Channel → ByteCount → Channel
queueing c bytes = with_queued c (queued_on c.queued bytes)

unfoldable pub with_status : Channel → ℕ → Channel
with_status c status = record { setting = c.setting; status = status; queued = c.queued; highest = c.highest }

-- a status or a window differs from before
unfoldable pub channel_differs : Channel → Channel → Bool
channel_differs before after = not (eqb before.status after.status) || not (same_window (window_now before) (window_now after))
