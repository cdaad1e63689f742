-- Demand 3, for any sequence of calls: what a world is that calls reached, and what one channel of it is.
use Rattle.std.specs.Prelude.{ℕ, ◌<◌, true, false, List, [], ◌∷◌, ◌≡◌, length}
use Rattle.wire.specs.Numbers.{Octets}
use Rattle.store.specs.Waiting.{Holds, packets_of}
use Rattle.ips_channel_rules.specs.Rules.{Event, Happened, Terms, Condition, history, final}
use Rattle.ips_channel_rules.specs.Machine.{machine, fresh_machine}
use Rattle.ips_channel_rules.specs.Simple.{simple, fresh_simple}
use Rattle.ips_channel.specs.declared.state.DatalinkSetting.{DatalinkSetting}
use Rattle.ips_channel.specs.declared.state.Channel.{Channel}
use Rattle.ips_channel.specs.Channel.{terms_of, condition_of}
use Rattle.ips_state.specs.State.{Configuration, start_at}
use Rattle.ips_state.specs.Limits.{state_fits}
use Rattle.ips_state.specs.Memory.{memory_fits, World, channel_in, store_in}
use Rattle.ips_run.specs.Calling.{terms_in}
use Rattle.ips_run.specs.Run.{Call, on, radio, pace, query, fresh_world, after_all, accepted_all, silent_all, sees_all, happens_all}

-- ---- what is called: a datagram is made of bytes
abbrev pub bytes_in : Call → Type 0
bytes_in (on id c) = Unit {0}
bytes_in (radio time datagram) = Octets datagram
bytes_in (pace time) = Unit {0}
bytes_in (query out) = Unit {0}

abbrev pub BytesIn : List Call → Type 0
BytesIn [] = Unit {0}
BytesIn (c ∷ cs) = bytes_in c × BytesIn cs

-- ---- the channel at an index of the configuration: its ID, how it is configured, as the rules have it when fresh, and as the simple channel is then
abbrev pub id_at : Configuration → ℕ → ℕ
id_at k index = (start_at k index).setting.id

abbrev pub ruled : Configuration → ℕ → Terms
ruled k index = terms_of k.datalink (start_at k index).setting

abbrev pub fresh_at : Configuration → ℕ → Condition machine
fresh_at k index = fresh_machine (start_at k index).setting.controlled (start_at k index).first

abbrev pub simply_at : Configuration → ℕ → Condition simple
simply_at k index = fresh_simple (start_at k index).setting.controlled (start_at k index).first

-- ---- a run from a fresh start, and that channel in it
abbrev pub reached : Configuration → List Call → World
reached k cs = after_all cs (fresh_world k)

-- what it saw, and what happened to it
abbrev pub seen : Configuration → ℕ → List Call → List Event
seen k index cs = sees_all (id_at k index) cs (fresh_world k)

abbrev pub happened : Configuration → ℕ → List Call → List Happened
happened k index cs = happens_all (id_at k index) cs (fresh_world k)

-- the same of calls `ds` after calls `cs`
abbrev pub seen_since : Configuration → ℕ → (cs ds : List Call) → List Event
seen_since k index cs ds = sees_all (id_at k index) ds (reached k cs)

abbrev pub happened_since : Configuration → ℕ → (cs ds : List Call) → List Happened
happened_since k index cs ds = happens_all (id_at k index) ds (reached k cs)

-- ---- calls from a world among which no radio control message is accepted, and no silence is
pub record NoNews (cs : List Call) (w : World) : Type 0 where
  pub unheard : accepted_all cs w ≡ []
  pub unsilenced : silent_all cs w ≡ false

-- ---- a world that 19 does not refuse
pub record InOrder (count : ℕ) (w : World) : Type 0 where
  pub counted : length w.state.channels ≡ count
  pub state_fits_lem : state_fits w.state ≡ true
  pub memory_fits_lem : memory_fits w.state w.memory ≡ true

-- ---- a channel's queue and its store hold the packets that wait and nothing else: "A store holds the waiting packets end to end in order from its start .. behind
-- them stand zeros."
abbrev pub Tidy : Channel → List ℕ → Type 0
Tidy c store = Holds c.setting.size.0 (packets_of c.queue store) c.queue store

abbrev pub TidyIn : World → ℕ → Type 0
TidyIn w index = Tidy (channel_in w index) (store_in w index)

-- ---- one channel and its store: configured so, in such a condition
pub record AsRuled (k : Terms) (datalink : DatalinkSetting) (c : Channel) (store : List ℕ) (st : Condition machine) : Type 0 where
  pub terms : terms_of datalink c.setting ≡ k
  pub condition : condition_of c store ≡ st
  pub tidy : Tidy c store

-- such a channel at an index of a world that is in order
pub record RuledIn (k : Terms) (count index : ℕ) (w : World) (st : Condition machine) : Type 0 where
  pub order : InOrder count w
  pub as_ruled : AsRuled k w.state.datalink (channel_in w index) (store_in w index) st

-- what calls leave of the channel, and what happened to it, is what the rules give on what it saw
pub record Follows (k : Terms) (count index : ℕ) (w : World) (hs : List Happened) (es : List Event) (st : Condition machine) : Type 0 where
  pub ruled_in : RuledIn k count index w (final machine k es st)
  pub history_is : hs ≡ history machine k es st

-- a channel and its store as they were, every byte
pub record Untouched (index : ℕ) (w w' : World) : Type 0 where
  pub channel : channel_in w' index ≡ channel_in w index
  pub store : store_in w' index ≡ store_in w index

-- where any calls lead from a fresh start: 19 refuses nothing of it, and all that is configured is as it was
pub record Reached (k : Configuration) (w : World) : Type 0 where
  pub order : InOrder (length k.starts) w
  pub datalink : w.state.datalink ≡ k.datalink
  pub terms : (index : ℕ) → index < length k.starts → terms_in w index ≡ ruled k index
