-- What is promised of any sequence of calls, for any channel of the state.
use Rattle.quantity.specs.declared.count.LinkInstanceId.{LinkInstanceId}
use Rattle.meaning.specs.declared.message.ContextBytes.{ContextBytes}
use Rattle.std.specs.Prelude.{ℕ, ◌+◌, ◌≤◌, true, false, ◌⊎◌, ◌≡◌, ℤ, pos, length, ◌≤ℤ◌, Option, Some}
use mathlib.Core.List.{List, Memᴰ}
use Rattle.quantity.specs.declared.count.ByteCount.{ByteCount}
use Rattle.quantity.specs.declared.count.FlowSequence.{FlowSequence}
use Rattle.quantity.specs.declared.count.FlowWindow.{FlowWindow}
use Rattle.quantity.specs.Distance.{distance_of}
use Rattle.quantity.specs.Window.{sequence_at, Stands}
use Rattle.meaning.specs.declared.message.Window.{Window}
use Rattle.radio_flow.specs.Numbers.{heard_all, numbers_heard, AllowanceIs}
use Rattle.radio_end_state.specs.declared.channel.Channel.{Channel}
use Rattle.radio_end_state.specs.Channel.{window_now}
use Rattle.radio_end_state.specs.State.{State, channel_at}
use Rattle.radio_end_run.specs.Run.{Call, states_after, through, heard_through, queued_through, status_through, context_by, instance_by}

-- ---- one channel before and after: its configuration stands; a flow-controlled one keeps the highest of what it heard, a plain one passes it over
pub record ChannelLeft (before after : Channel) (heard : List FlowSequence) (bytes : ByteCount) (value : ℕ) : Type 0 where
  pub setting : after.setting ≡ before.setting
  pub highest : before.setting.controlled ≡ true → after.highest ≡ heard_all before.highest heard
  pub plain : before.setting.controlled ≡ false → after.highest ≡ before.highest
  pub queued_is : after.queued ≡ bytes
  pub status_is : after.status ≡ value

-- the rest of the state before and after: Datalink ID, number and order of the channels stand
pub record StateLeft (before after : State) (k : Option (ContextBytes × ℕ)) (n : Option (LinkInstanceId × ℕ)) : Type 0 where
  pub datalink : after.datalink ≡ before.datalink
  pub many : length after.channels ≡ length before.channels
  pub context_is : after.context ≡ k
  pub instance_is : after.instance ≡ n

-- after some calls
abbrev pub StateRun : List Call → State → Type 0
StateRun cs s = StateLeft s (states_after cs s) (through context_by cs s s.context) (through instance_by cs s s.instance)

abbrev pub ChannelRun : List Call → State → (index : ℕ) → Type 0
ChannelRun cs s index =
    ChannelLeft (channel_at s index) (channel_at (states_after cs s) index) (heard_through cs s (channel_at s index).setting.id)
    (queued_through cs s (channel_at s index).setting.id (channel_at s index).queued) (status_through cs s (channel_at s index).setting.id (channel_at s index).status)

-- ---- in numbers that never wrap: the largest of a first number and of those that later words stood for when they were heard
pub record Largest (first : ℕ) (later : List FlowSequence) (number : ℕ) : Type 0 where
  pub least : first ≤ number
  pub none_above : (z : ℤ) → Memᴰ z (numbers_heard first later) → z ≤ℤ pos number
  pub one_of_them : (number ≡ first) ⊎ Memᴰ (pos number) (numbers_heard first later)

-- the window, seen from the highest number: it stands for that number plus exactly the larger of 0 and watermark + throughput - queued, cut at 2147483647
pub record Grants (c : Channel) (number watermark throughput bytes : ℕ) : Type 0 where
  pub window : FlowWindow
  pub allowance : ℕ
  pub stated : window_now c ≡ Some (Window.Given window)
  pub stands : Stands number window (pos (number + allowance))
  pub exactly : AllowanceIs watermark throughput bytes allowance
  pub distance : distance_of (sequence_at number) window ≡ pos allowance
