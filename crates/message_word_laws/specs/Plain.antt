-- The words of a message in plain numbers: no name of an offset, a tag or a width is used here.
use Rattle.quantity.specs.declared.count.DatalinkId.{DatalinkId}
use Rattle.quantity.specs.declared.count.FlowSequence.{FlowSequence}
use Rattle.std.specs.Prelude.{ℕ, ◌+◌, ◌*◌, ◌≤◌, ◌<◌, ◌≡◌, List, length, get_or, Option, Some, None}
use Rattle.meaning.specs.declared.message.Window.{Window}
use Rattle.meaning.specs.declared.message.Control.{Control}
use Rattle.meaning.specs.declared.message.Data.{Data}

-- a tag that there is, and a value below the limit where the tag gives one
pub record Fits (tag given value limit : ℕ) : Type 0 where
  pub tag_is : tag ≤ given
  pub value_is : tag ≡ given → value < limit

-- the six words of a Channel ID: status, sequence, window
pub record PlainChannel (words : List ℕ) (from : ℕ) : Type 0 where
  pub status : Fits (get_or words (from + 0) 0) 1 (get_or words (from + 1) 0) 256
  pub sequence : Fits (get_or words (from + 2) 0) 1 (get_or words (from + 3) 0) 4294967296
  pub window : Fits (get_or words (from + 4) 0) 2 (get_or words (from + 5) 0) 4294967296

-- the 1538 words of a control message
pub record PlainControl (words : List ℕ) : Type 0 where
  pub long : length words ≡ 1538
  pub datalink : Fits (get_or words 0 0) 1 (get_or words 1 0) 256
  pub instance : get_or words 2 0 ≤ 1
  pub context : get_or words 5 0 ≤ 1
  pub channels : (id : ℕ) → id < 255 → PlainChannel words (8 + 6 * id)

-- the eleven words of a data message
pub record PlainData (words : List ℕ) : Type 0 where
  pub long : length words ≡ 11
  pub datalink : Fits (get_or words 0 0) 1 (get_or words 1 0) 256
  pub counted_channel_lem : Fits (get_or words 2 0) 1 (get_or words 3 0) 256
  pub counted_sequence_lem : Fits (get_or words 2 0) 1 (get_or words 4 0) 4294967296
  pub channel : Fits (get_or words 5 0) 1 (get_or words 6 0) 256
  pub expiration : Fits (get_or words 7 0) 1 (get_or words 8 0) 4294967296

-- the same tag, and the same value where the tag gives one
pub record Alike (given tag tag' value value' : ℕ) : Type 0 where
  pub tags : tag ≡ tag'
  pub values : given ≤ tag → value ≡ value'

-- words that differ behind absent tags at most
pub record AlikeChannel (words words' : List ℕ) (from : ℕ) : Type 0 where
  pub status : Alike 1 (get_or words (from + 0) 0) (get_or words' (from + 0) 0) (get_or words (from + 1) 0) (get_or words' (from + 1) 0)
  pub sequence : Alike 1 (get_or words (from + 2) 0) (get_or words' (from + 2) 0) (get_or words (from + 3) 0) (get_or words' (from + 3) 0)
  pub window : Alike 2 (get_or words (from + 4) 0) (get_or words' (from + 4) 0) (get_or words (from + 5) 0) (get_or words' (from + 5) 0)

pub record AlikeControl (words words' : List ℕ) : Type 0 where
  pub long : length words ≡ length words'
  pub datalink : Alike 1 (get_or words 0 0) (get_or words' 0 0) (get_or words 1 0) (get_or words' 1 0)
  pub instance : Alike 1 (get_or words 2 0) (get_or words' 2 0) (get_or words 3 0) (get_or words' 3 0)
  pub instance_length_lem : Alike 1 (get_or words 2 0) (get_or words' 2 0) (get_or words 4 0) (get_or words' 4 0)
  pub context : Alike 1 (get_or words 5 0) (get_or words' 5 0) (get_or words 6 0) (get_or words' 6 0)
  pub context_length_lem : Alike 1 (get_or words 5 0) (get_or words' 5 0) (get_or words 7 0) (get_or words' 7 0)
  pub channels : (id : ℕ) → id < 255 → AlikeChannel words words' (8 + 6 * id)

pub record AlikeData (words words' : List ℕ) : Type 0 where
  pub long : length words ≡ length words'
  pub datalink : Alike 1 (get_or words 0 0) (get_or words' 0 0) (get_or words 1 0) (get_or words' 1 0)
  pub counted_channel_lem : Alike 1 (get_or words 2 0) (get_or words' 2 0) (get_or words 3 0) (get_or words' 3 0)
  pub counted_sequence_lem : Alike 1 (get_or words 2 0) (get_or words' 2 0) (get_or words 4 0) (get_or words' 4 0)
  pub channel : Alike 1 (get_or words 5 0) (get_or words' 5 0) (get_or words 6 0) (get_or words' 6 0)
  pub expiration : Alike 1 (get_or words 7 0) (get_or words' 7 0) (get_or words 8 0) (get_or words' 8 0)

-- ---- numbers in range, of a meaning
abbrev pub DatalinkRange : Option DatalinkId → Type 0
DatalinkRange None = Unit {0}
DatalinkRange (Some id) = id.0 < 256

abbrev pub StatusRange : Option ℕ → Type 0
StatusRange None = Unit {0}
StatusRange (Some value) = value < 256

abbrev pub SequenceRange : Option FlowSequence → Type 0
SequenceRange None = Unit {0}
SequenceRange (Some sequence) = sequence.0 < 4294967296

abbrev pub WindowRange : Option Window → Type 0
WindowRange None = Unit {0}
WindowRange (Some Window.Empty) = Unit {0}
WindowRange (Some (Window.Given window)) = window.0 < 4294967296

abbrev pub CountedRange : Option (ℕ × FlowSequence) → Type 0
CountedRange None = Unit {0}
CountedRange (Some (channel, sequence)) = (channel < 256) × (sequence.0 < 4294967296)

abbrev pub ChannelRange : Option ℕ → Type 0
ChannelRange None = Unit {0}
ChannelRange (Some id) = id < 256

abbrev pub ExpirationRange : Option ℕ → Type 0
ExpirationRange None = Unit {0}
ExpirationRange (Some time) = time < 4294967296

pub record ControlRange (m : Control) : Type 0 where
  pub datalink : DatalinkRange m.datalink
  pub statuses : (id : ℕ) → id < 255 → StatusRange (get_or m.statuses id None)
  pub sequences : (id : ℕ) → id < 255 → SequenceRange (get_or m.sequences id None)
  pub windows : (id : ℕ) → id < 255 → WindowRange (get_or m.windows id None)

pub record DataRange (m : Data) : Type 0 where
  pub datalink : DatalinkRange m.datalink
  pub sequence : CountedRange m.sequence
  pub channel : ChannelRange m.channel
  pub expiration : ExpirationRange m.expiration
