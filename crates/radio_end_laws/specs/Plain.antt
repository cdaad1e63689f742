-- The state of the radio's end in plain facts: which channel has an ID, what a message names, and the states that the calls make.
use Rattle.quantity.specs.declared.count.LinkInstanceId.{LinkInstanceId}
use Rattle.meaning.specs.declared.message.ContextBytes.{ContextBytes}
use Rattle.std.specs.Prelude.{ℕ, ◌+◌, ◌-◌, ◌%◌, ◌^◌, ◌≤◌, ◌<◌, min, true, false, cond, map, ◌≡◌, eqb, length, get_or, Option, Some, None}
use Rattle.quantity.specs.declared.count.FlowSequence.{FlowSequence}
use Rattle.meaning.specs.declared.message.Window.{Window}
use Rattle.meaning.specs.declared.message.Control.{Control}
use Rattle.meaning.specs.declared.message.Data.{Data}
use Rattle.radio_flow.specs.Granting.{hearing}
use Rattle.radio_end_state.specs.declared.channel.Channel.{Channel}
use Rattle.radio_end_state.specs.Channel.{window_now}
use Rattle.radio_end_state.specs.State.{State, channel_at}

-- the channel at an index of the configuration has the ID
pub record Stands (s : State) (id index : ℕ) : Type 0 where
  pub inside : index < length s.channels
  pub is : (channel_at s index).setting.id ≡ id

-- a channel has the ID
abbrev pub Has : State → ℕ → Type 0
Has s id = (index : ℕ) × Stands s id index

-- ---- what a control message states of a Channel ID
abbrev pub status_of : Control → ℕ → Option ℕ
status_of m id = (get_or m.statuses id None)

abbrev pub sequence_of : Control → ℕ → Option FlowSequence
sequence_of m id = (get_or m.sequences id None)

abbrev pub window_of : Control → ℕ → Option Window
window_of m id = (get_or m.windows id None)

-- "the larger of 0 and watermark plus throughput per period minus bytes queued, cut at 2^31 - 1"; a difference of natural numbers is 0 where it would be below
abbrev pub allowance_in : Channel → ℕ
allowance_in c = min 2147483647 ((c.setting.watermark.0 + c.setting.throughput.0) - c.queued.0)

-- "Until a sequence has been heard it sends Flow Window without the field"; a plain channel has none
pub record WindowIs (c : Channel) (window : Option Window) : Type 0 where
  pub plain : c.setting.controlled ≡ false → window ≡ None
  pub unheard : c.setting.controlled ≡ true → c.highest ≡ None → window ≡ Some Window.Empty
  pub heard : (h : FlowSequence) → c.setting.controlled ≡ true → c.highest ≡ Some h
      → window ≡ Some (Window.Given (record { 0 = (h.0 + allowance_in c) % 4294967296 }))

-- the message: Datalink Identifier, Link Instance and Context if there, Channel Status of every channel, Flow Window of every flow-controlled channel, and nothing else
pub record Names (s : State) (m : Control) : Type 0 where
  pub datalink : m.datalink ≡ Some s.datalink
  pub instance : m.instance ≡ s.instance
  pub context : m.context ≡ s.context
  pub status : (index : ℕ) → index < length s.channels → status_of m (channel_at s index).setting.id ≡ Some (channel_at s index).status
  pub window : (index : ℕ) → index < length s.channels → WindowIs (channel_at s index) (window_of m (channel_at s index).setting.id)
  pub no_other : (id : ℕ) → (Has s id → ⊥) → (status_of m id ≡ None) × (window_of m id ≡ None)
  pub no_sequence_lem : (id : ℕ) → sequence_of m id ≡ None

-- ---- the states that calls make
abbrev pub on_channel : ℕ → (Channel → Channel) → Channel → Channel
on_channel id change c = cond (eqb c.setting.id id) (change c) c

-- each channel becomes another
abbrev pub each_channel : State → (Channel → Channel) → State
each_channel s change = record { datalink = s.datalink; channels = map change s.channels; instance = s.instance; context = s.context }

-- the channel of an ID does
abbrev pub of_id : State → ℕ → (Channel → Channel) → State
of_id s id change = each_channel s (on_channel id change)

abbrev pub status_set : ℕ → Channel → Channel
status_set value c = record { setting = c.setting; status = value; queued = c.queued; highest = c.highest }

abbrev pub queued_set : ℕ → Channel → Channel
queued_set bytes c = record { setting = c.setting; status = c.status; queued = record { 0 = bytes }; highest = c.highest }

-- a Flow Sequence of a flow-controlled channel is heard; one of a plain channel is passed over (`rows_heard`, `plain_Passes` of the flow)
abbrev pub sequence_heard : Option FlowSequence → Channel → Channel
sequence_heard stated c =
    record { setting = c.setting; status = c.status; queued = c.queued; highest = hearing c.setting.controlled c.highest stated }

-- a data message's packet is queued: its length is added to the bytes queued on its channel, which are held at the largest number of 64 bits
abbrev pub packet_queued : ℕ → Channel → Channel
packet_queued bytes c = queued_set (min 18446744073709551615 (c.queued.0 + bytes)) c

-- a data message without a Channel Identifier names channel 0
abbrev pub named_channel : Option ℕ → ℕ
named_channel None = 0
named_channel (Some id) = id

abbrev pub counted_sequence : Option (ℕ × FlowSequence) → Option FlowSequence
counted_sequence None = None
counted_sequence (Some (id, sequence)) = Some sequence

-- every channel hears what a control message states of its Channel ID
abbrev pub control_taken : Control → Channel → Channel
control_taken m c = sequence_heard (sequence_of m c.setting.id) c

-- a data message's channel hears its Flow Sequence, and its packet is queued
abbrev pub data_taken : Data → (bytes : ℕ) → Channel → Channel
data_taken m bytes c = packet_queued bytes (sequence_heard (counted_sequence m.sequence) c)

-- "12 for a message naming a channel that it lacks", of a control message: each channel of which it states a Flow Sequence is there
abbrev pub NamesOwn : State → Control → Type 0
NamesOwn s m = (id : ℕ) → id < 255 → (sequence : FlowSequence) → sequence_of m id ≡ Some sequence → Has s id

-- 20, of a Link Instance or a Context: 1 to 8 bytes, and the number no larger than they can say
abbrev pub Spelled : (number length : ℕ) → Type 0
Spelled number length = (1 ≤ length) × (length ≤ 8) × (number < 256 ^ length)

abbrev pub ContextWritable : Option (ContextBytes × ℕ) → Type 0
ContextWritable None = Unit {0}
ContextWritable (Some (bytes, length)) = Spelled bytes.0 length

abbrev pub InstanceWritable : Option (LinkInstanceId × ℕ) → Type 0
InstanceWritable None = Unit {0}
InstanceWritable (Some (number, length)) = Spelled number.0 length

abbrev pub context_set : State → Option (ContextBytes × ℕ) → State
context_set s context = record { datalink = s.datalink; channels = s.channels; instance = s.instance; context = context }

abbrev pub instance_set : State → Option (LinkInstanceId × ℕ) → State
instance_set s instance = record { datalink = s.datalink; channels = s.channels; instance = instance; context = s.context }

-- ---- "sends one unasked when a status, a Context or a window changes"
pub record SameChannel (before after : Channel) : Type 0 where
  pub status : before.status ≡ after.status
  pub window : window_now before ≡ window_now after

pub record SameTold (before after : State) : Type 0 where
  pub context : before.context ≡ after.context
  pub each : (index : ℕ) → index < length before.channels → SameChannel (channel_at before index) (channel_at after index)

-- the channel of an ID had another status
abbrev pub StatusChanges : State → (id value : ℕ) → Type 0
StatusChanges s id value = (index : ℕ) × Stands s id index × ((channel_at s index).status ≡ value → ⊥)

-- its window becomes another
abbrev pub WindowChanges : State → (id : ℕ) → (Channel → Channel) → Type 0
WindowChanges s id change = (index : ℕ) × Stands s id index × (window_now (channel_at s index) ≡ window_now (change (channel_at s index)) → ⊥)

-- a number of bytes queued moves the window of a flow-controlled channel that has heard a sequence, where the allowance is another
pub record AllowanceChanges (c : Channel) (bytes : ℕ) : Type 0 where
  pub controlled : c.setting.controlled ≡ true
  pub highest : FlowSequence
  pub heard : c.highest ≡ Some highest
  pub other : allowance_in c ≡ allowance_in (queued_set bytes c) → ⊥

abbrev pub QueuedChanges : State → (id bytes : ℕ) → Type 0
QueuedChanges s id bytes = (index : ℕ) × Stands s id index × AllowanceChanges (channel_at s index) bytes
