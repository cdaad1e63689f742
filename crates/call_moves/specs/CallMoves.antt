-- Request 4, of a call on one channel: the packets that count as leaving (`leaving_by`) beside what the call leaves by the rules.
use Rattle.std.specs.Prelude.{ℕ, ◌+◌, List, [], ◌∷◌, ◌++◌, ◌≡◌, length, take}
use Rattle.store.specs.Packets.{Packet, joined}
use Rattle.store.specs.Moves.{Stretch, staying}
use Rattle.store.specs.Waiting.{packets_of}
use Rattle.store_moves.specs.Moving.{remaining, Marked}
use Rattle.ips_channel_rules.specs.Rules.{ChannelCall, offer, next, withdraw, taken, Says, Answer, refused, answered, AfterCall}
use Rattle.ips_channel_rules.specs.Machine.{machine}
use Rattle.ips_channel.specs.declared.state.DatalinkSetting.{DatalinkSetting}
use Rattle.ips_channel.specs.declared.state.Channel.{Channel}
use Rattle.ips_channel_calls.specs.Calls.{store_after, result_of, leaving_by}

-- "Offer: a packet with an expiry time joins the end of its queue"; by no other call does one join
abbrev pub joining_by : (call : ChannelCall) → Answer (Says call) → List Packet
joining_by (offer packet time) (refused number) = []
joining_by (offer packet time) (answered taken) = packet ∷ []
joining_by (next time out) answer = []
joining_by withdraw answer = []

-- of a result: the packets marked as staying are those that wait after it, before those that join, and their bytes, so many as are said to stay, start the store
pub record Leaves {A : Type 0} (c : Channel) (store : List ℕ) (xs : List Stretch) (joining : List Packet) (r : AfterCall machine A) : Type 0 where
  pub kept : List Packet
  pub marked : Marked (packets_of c.queue store) xs kept
  pub waiting_is : r.condition.keeping ≡ kept ++ joining
  pub count_is : staying xs + length (joined joining) ≡ length (joined r.condition.keeping)
  pub start_is : take (staying xs) (store_after c store r) ≡ remaining xs store

abbrev pub stretches_by : DatalinkSetting → ChannelCall → Channel → List ℕ → List Stretch
stretches_by datalink call c store = leaving_by call (result_of datalink call c store).answer (packets_of c.queue store)

abbrev pub LeavesBy : DatalinkSetting → ChannelCall → Channel → List ℕ → Type 0
LeavesBy datalink call c store = Leaves c store (stretches_by datalink call c store) (joining_by call (result_of datalink call c store).answer) (result_of datalink call c store)
