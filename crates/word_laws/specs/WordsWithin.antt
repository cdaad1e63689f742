-- Number 19 of a state in words, and what such words say, in literal numbers: 14 words of the endpoint's own, then 74 for each channel, in configuration order.
use Rattle.std.specs.Prelude.{ℕ, zero, suc, ◌+◌, ◌*◌, ◌^◌, ◌≤◌, ◌<◌, true, false, List, ◌≡◌, length, get_or, Some, None}
use Rattle.store.specs.Waiting.{no_entry}
use Rattle.flow.specs.declared.Flow.{Flow}
use Rattle.ips_channel.specs.declared.state.Channel.{Channel}
use Rattle.ips_state.specs.State.{State, channel_at}

-- "waiting bytes": the lengths of the first so many waiting packets of the channel whose words start at `b`, together
unfoldable pub lengths_in : (words : List ℕ) (b count : ℕ) → ℕ
lengths_in words b zero = 0
lengths_in words b (suc n) = lengths_in words b n + get_or words (b + 10 + 2 * n) 0

-- ---- words that stand for a state within the limits

-- "ID 255", "store length", "a status above 15", "a plain channel not free", "more than 32 waiting, a waiting length outside 40 to" 9,000, "waiting bytes over the store";
-- and tags that there are, a status that is a byte, a window and a sequence of 32 bits
pub record ChannelWordsWithin (words : List ℕ) (b : ℕ) : Type 0 where
  pub unreserved : get_or words b 0 < 255
  pub kind : get_or words (b + 1) 0 ≤ 1
  pub smallest : 1500 ≤ get_or words (b + 2) 0
  pub largest : get_or words (b + 2) 0 ≤ 65536
  pub status_tag_lem : get_or words (b + 3) 0 ≤ 1
  pub status_byte : get_or words (b + 4) 0 < 256
  pub highest : get_or words (b + 3) 0 ≡ 1 → get_or words (b + 4) 0 ≤ 15
  pub flow_tag_lem : get_or words (b + 5) 0 ≤ 2
  pub plain : get_or words (b + 1) 0 ≡ 0 → get_or words (b + 5) 0 ≡ 0
  pub window : get_or words (b + 6) 0 < 2 ^ 32
  pub sequence : get_or words (b + 7) 0 < 2 ^ 32
  pub few : get_or words (b + 9) 0 ≤ 32
  pub shortest : (k : ℕ) → k < get_or words (b + 9) 0 → 40 ≤ get_or words (b + 10 + 2 * k) 0
  pub longest : (k : ℕ) → k < get_or words (b + 9) 0 → get_or words (b + 10 + 2 * k) 0 ≤ 9000
  pub room : lengths_in words b (get_or words (b + 9) 0) ≤ get_or words (b + 2) 0

-- "a kept Link Instance or Context outside its lengths": three words from `b` on, a tag, the bytes as a number, and how many they are
pub record NameWordsWithin (words : List ℕ) (b : ℕ) : Type 0 where
  pub tag : get_or words b 0 ≤ 1
  pub shortest : get_or words b 0 ≡ 1 → 1 ≤ get_or words (b + 2) 0
  pub longest : get_or words b 0 ≡ 1 → get_or words (b + 2) 0 ≤ 8
  pub fits : get_or words b 0 ≡ 1 → get_or words (b + 1) 0 < 256 ^ get_or words (b + 2) 0

-- "channel count", "an ID twice", "no channel 0", HelloTime or silence limit of 0 ("a configuration in it that would be refused"); as many words as the channels ask, a Datalink ID
-- and a setting of the statuses 8 to 15 that are bytes
pub record WordsWithin (words : List ℕ) : Type 0 where
  pub long : length words ≡ 14 + 74 * get_or words 1 0
  pub datalink : get_or words 0 0 < 256
  pub some : 1 ≤ get_or words 1 0
  pub few : get_or words 1 0 ≤ 64
  pub instance_within : NameWordsWithin words 2
  pub context_within : NameWordsWithin words 5
  pub hello : 1 ≤ get_or words 8 0
  pub limit : 1 ≤ get_or words 9 0
  pub codes : get_or words 13 0 < 256
  pub each : (i : ℕ) → i < get_or words 1 0 → ChannelWordsWithin words (14 + 74 * i)
  pub apart : (i j : ℕ) → i < get_or words 1 0 → j < get_or words 1 0 → get_or words (14 + 74 * i) 0 ≡ get_or words (14 + 74 * j) 0 → i ≡ j
  pub primary : ℕ
  pub primary_inside : primary < get_or words 1 0
  pub primary_is : get_or words (14 + 74 * primary) 0 ≡ 0

-- ---- what such words say

-- a channel from its words: every field, and every place of its queue
pub record ChannelSaid (words : List ℕ) (b : ℕ) (c : Channel) : Type 0 where
  pub id : c.setting.id ≡ get_or words b 0
  pub plain : get_or words (b + 1) 0 ≡ 0 → c.setting.controlled ≡ false
  pub controlled : get_or words (b + 1) 0 ≡ 1 → c.setting.controlled ≡ true
  pub size : c.setting.size.0 ≡ get_or words (b + 2) 0
  pub absent : get_or words (b + 3) 0 ≡ 0 → c.status ≡ None
  pub given : get_or words (b + 3) 0 ≡ 1 → c.status ≡ Some (get_or words (b + 4) 0)
  pub free : get_or words (b + 5) 0 ≡ 0 → c.flow ≡ Flow.Free
  pub no_window_lem : get_or words (b + 5) 0 ≡ 1 → c.flow ≡ Flow.NoWindow
  pub in_force : get_or words (b + 5) 0 ≡ 2 → c.flow ≡ Flow.InForce (record { 0 = get_or words (b + 6) 0 })
  pub sequence : c.sequence.0 ≡ get_or words (b + 7) 0
  pub latest : c.latest ≡ get_or words (b + 8) 0
  pub waiting : c.queue.count ≡ get_or words (b + 9) 0
  pub places : length c.queue.entries ≡ 32
  pub entry : (k : ℕ) → k < get_or words (b + 9) 0
      → get_or c.queue.entries k no_entry ≡ record { length = record { 0 = get_or words (b + 10 + 2 * k) 0 }; expiry = get_or words (b + 11 + 2 * k) 0 }
  pub behind : (k : ℕ) → get_or words (b + 9) 0 ≤ k → get_or c.queue.entries k no_entry ≡ record { length = record { 0 = 0 }; expiry = 0 }

-- a state from its words
pub record StateSaid (words : List ℕ) (s : State) : Type 0 where
  pub datalink : s.datalink.id.0 ≡ get_or words 0 0
  pub count : length s.channels ≡ get_or words 1 0
  pub no_instance_lem : get_or words 2 0 ≡ 0 → s.instance ≡ None
  pub instance : get_or words 2 0 ≡ 1 → s.instance ≡ Some (record { 0 = get_or words 3 0 }, get_or words 4 0)
  pub no_context_lem : get_or words 5 0 ≡ 0 → s.context ≡ None
  pub context : get_or words 5 0 ≡ 1 → s.context ≡ Some (record { 0 = get_or words 6 0 }, get_or words 7 0)
  pub hello : s.pacer.hello ≡ get_or words 8 0
  pub limit : s.pacer.limit ≡ get_or words 9 0
  pub clock : s.pacer.clock ≡ get_or words 10 0
  pub due : s.pacer.due ≡ get_or words 11 0
  pub heard : s.pacer.heard ≡ get_or words 12 0
  pub codes : s.datalink.codes.0 ≡ get_or words 13 0
  pub channel : (i : ℕ) → i < get_or words 1 0 → ChannelSaid words (14 + 74 * i) (channel_at s i)
