-- Number 19 of a state in words, and what such words say, in literal numbers: 8 words of the radio's own, then 8 for each channel, in configuration order.
use Rattle.std.specs.Prelude.{ℕ, ◌+◌, ◌*◌, ◌≤◌, ◌<◌, true, false, List, ◌≡◌, length, get_or, Some, None}
use Rattle.radio_end_state.specs.declared.channel.Channel.{Channel}
use Rattle.radio_end_state.specs.State.{State, channel_at}
use Rattle.radio_end_laws.specs.Plain.{Spelled}

-- ---- words that stand for a state within the limits

-- from `b` on: "ID 255", "watermark or throughput above 2^31 - 1", "a status above 15"; kinds and tags that there are, a sequence of 32 bits, and 0 where none was heard
pub record ChannelWordsWithin (words : List ℕ) (b : ℕ) : Type 0 where
  pub unreserved : get_or words b 0 < 255
  pub kind : get_or words (b + 1) 0 ≤ 1
  pub watermark : get_or words (b + 2) 0 ≤ 2147483647
  pub throughput : get_or words (b + 3) 0 ≤ 2147483647
  pub status : get_or words (b + 4) 0 ≤ 15
  pub tag : get_or words (b + 6) 0 ≤ 1
  pub unheard : get_or words (b + 6) 0 ≡ 0 → get_or words (b + 7) 0 ≡ 0
  pub highest : get_or words (b + 7) 0 < 4294967296

-- "a kept Link Instance or Context outside its lengths": a tag, the bytes as a number, and how many they are; zeros where there is none
pub record NameWordsWithin (tag value size : ℕ) : Type 0 where
  pub low : tag ≤ 1
  pub absent : tag ≡ 0 → (value ≡ 0) × (size ≡ 0)
  pub given : tag ≡ 1 → Spelled value size

-- "channel count", "an ID twice", "no channel 0"; as many words as the channels ask, a Datalink ID that is a byte
pub record WordsWithin (words : List ℕ) : Type 0 where
  pub long : length words ≡ 8 + 8 * get_or words 1 0
  pub datalink : get_or words 0 0 < 256
  pub some : 1 ≤ get_or words 1 0
  pub few : get_or words 1 0 ≤ 64
  pub instance : NameWordsWithin (get_or words 2 0) (get_or words 3 0) (get_or words 4 0)
  pub context : NameWordsWithin (get_or words 5 0) (get_or words 6 0) (get_or words 7 0)
  pub each : (i : ℕ) → i < get_or words 1 0 → ChannelWordsWithin words (8 + 8 * i)
  pub apart : (i j : ℕ) → i < get_or words 1 0 → j < get_or words 1 0 → get_or words (8 + 8 * i) 0 ≡ get_or words (8 + 8 * j) 0 → i ≡ j
  pub primary : (i : ℕ) × (i < get_or words 1 0) × (get_or words (8 + 8 * i) 0 ≡ 0)

-- ---- what such words say

-- a channel from its words
pub record ChannelSaid (words : List ℕ) (b : ℕ) (c : Channel) : Type 0 where
  pub id : c.setting.id ≡ get_or words b 0
  pub plain : get_or words (b + 1) 0 ≡ 0 → c.setting.controlled ≡ false
  pub controlled : get_or words (b + 1) 0 ≡ 1 → c.setting.controlled ≡ true
  pub watermark : c.setting.watermark.0 ≡ get_or words (b + 2) 0
  pub throughput : c.setting.throughput.0 ≡ get_or words (b + 3) 0
  pub status : c.status ≡ get_or words (b + 4) 0
  pub queued : c.queued.0 ≡ get_or words (b + 5) 0
  pub unheard : get_or words (b + 6) 0 ≡ 0 → c.highest ≡ None
  pub heard : get_or words (b + 6) 0 ≡ 1 → c.highest ≡ Some (record { 0 = get_or words (b + 7) 0 })

pub record StateSaid (words : List ℕ) (s : State) : Type 0 where
  pub datalink : s.datalink.0 ≡ get_or words 0 0
  pub many : length s.channels ≡ get_or words 1 0
  pub no_instance_lem : get_or words 2 0 ≡ 0 → s.instance ≡ None
  pub instance : get_or words 2 0 ≡ 1 → s.instance ≡ Some (record { 0 = get_or words 3 0 }, get_or words 4 0)
  pub no_context_lem : get_or words 5 0 ≡ 0 → s.context ≡ None
  pub context : get_or words 5 0 ≡ 1 → s.context ≡ Some (record { 0 = get_or words 6 0 }, get_or words 7 0)
  pub channel : (i : ℕ) → i < get_or words 1 0 → ChannelSaid words (8 + 8 * i) (channel_at s i)
