-- The words of a message, word by word, in plain numbers.
use Rattle.quantity.specs.declared.count.DatalinkId.{DatalinkId}
use Rattle.quantity.specs.declared.count.LinkInstanceId.{LinkInstanceId}
use Rattle.quantity.specs.declared.count.FlowSequence.{FlowSequence}
use Rattle.meaning.specs.declared.message.ContextBytes.{ContextBytes}
use Rattle.std.specs.Prelude.{ℕ, ◌+◌, ◌*◌, ◌<◌, ◌≡◌, List, length, get_or, Option, Some, None}
use Rattle.meaning.specs.declared.message.Window.{Window}
use Rattle.meaning.specs.declared.message.Data.{Data}
use Rattle.meaning.specs.declared.message.Control.{Control}

-- ---- a tag and what stands behind it
abbrev pub DatalinkSays : Option DatalinkId → (tag value : ℕ) → Type 0
DatalinkSays None tag value = (tag ≡ 0) × (value ≡ 0)
DatalinkSays (Some id) tag value = (tag ≡ 1) × (value ≡ id.0)

abbrev pub InstanceSays : Option (LinkInstanceId × ℕ) → (tag value size : ℕ) → Type 0
InstanceSays None tag value size = (tag ≡ 0) × (value ≡ 0) × (size ≡ 0)
InstanceSays (Some (id, count)) tag value size = (tag ≡ 1) × (value ≡ id.0) × (size ≡ count)

abbrev pub ContextSays : Option (ContextBytes × ℕ) → (tag value size : ℕ) → Type 0
ContextSays None tag value size = (tag ≡ 0) × (value ≡ 0) × (size ≡ 0)
ContextSays (Some (bytes, count)) tag value size = (tag ≡ 1) × (value ≡ bytes.0) × (size ≡ count)

abbrev pub StatusSays : Option ℕ → (tag value : ℕ) → Type 0
StatusSays None tag value = (tag ≡ 0) × (value ≡ 0)
StatusSays (Some status) tag value = (tag ≡ 1) × (value ≡ status)

abbrev pub SequenceSays : Option FlowSequence → (tag value : ℕ) → Type 0
SequenceSays None tag value = (tag ≡ 0) × (value ≡ 0)
SequenceSays (Some sequence) tag value = (tag ≡ 1) × (value ≡ sequence.0)

abbrev pub WindowSays : Option Window → (tag value : ℕ) → Type 0
WindowSays None tag value = (tag ≡ 0) × (value ≡ 0)
WindowSays (Some Window.Empty) tag value = (tag ≡ 1) × (value ≡ 0)
WindowSays (Some (Window.Given window)) tag value = (tag ≡ 2) × (value ≡ window.0)

-- ---- the words, one by one
pub record SaysControl (m : Control) (words : List ℕ) : Type 0 where
  pub long : length words ≡ 1538
  pub datalink : DatalinkSays m.datalink (get_or words 0 0) (get_or words 1 0)
  pub instance : InstanceSays m.instance (get_or words 2 0) (get_or words 3 0) (get_or words 4 0)
  pub context : ContextSays m.context (get_or words 5 0) (get_or words 6 0) (get_or words 7 0)
  pub statuses : (id : ℕ) → id < 255 → StatusSays (get_or m.statuses id None) (get_or words (8 + 6 * id + 0) 0) (get_or words (8 + 6 * id + 1) 0)
  pub sequences : (id : ℕ) → id < 255 → SequenceSays (get_or m.sequences id None) (get_or words (8 + 6 * id + 2) 0) (get_or words (8 + 6 * id + 3) 0)
  pub windows : (id : ℕ) → id < 255 → WindowSays (get_or m.windows id None) (get_or words (8 + 6 * id + 4) 0) (get_or words (8 + 6 * id + 5) 0)

-- ---- and those of a data message
abbrev pub CountedSays : Option (ℕ × FlowSequence) → (tag channel value : ℕ) → Type 0
CountedSays None tag channel value = (tag ≡ 0) × (channel ≡ 0) × (value ≡ 0)
CountedSays (Some (id, sequence)) tag channel value = (tag ≡ 1) × (channel ≡ id) × (value ≡ sequence.0)

abbrev pub ChannelSays : Option ℕ → (tag value : ℕ) → Type 0
ChannelSays None tag value = (tag ≡ 0) × (value ≡ 0)
ChannelSays (Some id) tag value = (tag ≡ 1) × (value ≡ id)

abbrev pub ExpirationSays : Option ℕ → (tag value : ℕ) → Type 0
ExpirationSays None tag value = (tag ≡ 0) × (value ≡ 0)
ExpirationSays (Some time) tag value = (tag ≡ 1) × (value ≡ time)

pub record SaysData (m : Data) (start size : ℕ) (words : List ℕ) : Type 0 where
  pub long : length words ≡ 11
  pub datalink : DatalinkSays m.datalink (get_or words 0 0) (get_or words 1 0)
  pub sequence : CountedSays m.sequence (get_or words 2 0) (get_or words 3 0) (get_or words 4 0)
  pub channel : ChannelSays m.channel (get_or words 5 0) (get_or words 6 0)
  pub expiration : ExpirationSays m.expiration (get_or words 7 0) (get_or words 8 0)
  pub starts : get_or words 9 0 ≡ start
  pub lasts : get_or words 10 0 ≡ size
