-- Number 19 without an order of tests, in literal numbers: the facts that hold of a state within the limits.
use Rattle.std.specs.Prelude.{ℕ, ◌^◌, ◌≤◌, ◌<◌, false, ◌≡◌, length, get_or, Some}
use Rattle.quantity.specs.declared.count.LinkInstanceId.{LinkInstanceId}
use Rattle.meaning.specs.declared.message.ContextBytes.{ContextBytes}
use Rattle.store.specs.declared.queue.Queue.{Queue}
use Rattle.store.specs.Waiting.{waiting, total, no_entry}
use Rattle.flow.specs.declared.Flow.{Flow}
use Rattle.ips_channel.specs.declared.state.Channel.{Channel}
use Rattle.ips_state.specs.State.{State, channel_at}

-- "more than 32 waiting, a waiting length outside 40 to" 9,000, "waiting bytes over the store"
pub record QueueWithin (queue : Queue) (size : ℕ) : Type 0 where
  pub few : queue.count ≤ 32
  pub lengths : (k : ℕ) → k < length (waiting queue) → (40 ≤ (get_or (waiting queue) k no_entry).length.0) × ((get_or (waiting queue) k no_entry).length.0 ≤ 9000)
  pub room : total (waiting queue) ≤ size

-- "ID 255", "store length", "a status above 15", "a plain channel not free"
pub record ChannelWithin (c : Channel) : Type 0 where
  pub unreserved : c.setting.id < 255
  pub smallest : 1500 ≤ c.setting.size.0
  pub largest : c.setting.size.0 ≤ 65536
  pub highest : (value : ℕ) → c.status ≡ Some value → value ≤ 15
  pub plain : c.setting.controlled ≡ false → c.flow ≡ Flow.Free
  pub queue_within : QueueWithin c.queue c.setting.size.0

-- "a kept Link Instance or Context outside its lengths": a number too big for its length is
pub record NameWithin (value size : ℕ) : Type 0 where
  pub shortest : 1 ≤ size
  pub longest : size ≤ 8
  pub fits : value < 256 ^ size

-- "channel count", "an ID twice", "no channel 0"
pub record WithinLimits (s : State) : Type 0 where
  pub some : 1 ≤ length s.channels
  pub few : length s.channels ≤ 64
  pub each : (index : ℕ) → index < length s.channels → ChannelWithin (channel_at s index)
  pub apart : (i j : ℕ) → i < length s.channels → j < length s.channels → (channel_at s i).setting.id ≡ (channel_at s j).setting.id → i ≡ j
  pub primary : ℕ
  pub primary_inside : primary < length s.channels
  pub primary_is : (channel_at s primary).setting.id ≡ 0
  pub hello : 1 ≤ s.pacer.hello
  pub limit : 1 ≤ s.pacer.limit
  pub instance_within : (value : LinkInstanceId) (size : ℕ) → s.instance ≡ Some (value, size) → NameWithin value.0 size
  pub context_within : (value : ContextBytes) (size : ℕ) → s.context ≡ Some (value, size) → NameWithin value.0 size
