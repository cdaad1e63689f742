-- One call on one channel of the endpoint. "Calls on a state test 19 first. Then, offering a packet: 12, 13, 14, 15, 16, 17. Asking for the next: 12, 15, 18.
-- Withdrawing: 12." From 13 on the channel judges.
use Rattle.std.specs.Prelude.{ℕ, true, false, cond, not, ◌≡◌}
use Rattle.quantity.specs.Limits.{LONGEST-PACKET, Limits, CURRENT-LIMITS}
use Rattle.quantity.specs.Refusals.{NO-CHANNEL, OUTSIDE-LIMITS}
use Rattle.ips_channel_rules.specs.Rules.{ChannelCall, Says, Answer, refused, Terms, Condition, AfterCall}
use Rattle.ips_channel_rules.specs.Machine.{machine}
use Rattle.ips_channel.specs.Channel.{terms_under, condition_of}
use Rattle.ips_channel_calls.specs.Calls.{channel_after, store_after, result_under}
use Rattle.ips_state.specs.State.{with_channel}
use Rattle.ips_state.specs.Memory.{with_store, World, world_fits_under, world_fits, is_configured, index_in, channel_in, store_in}

-- ---- the channel at an index of the configuration: how it is configured, the condition that it is in, and what the rules give for a call on it
abbrev pub terms_in_under : (longest : ℕ) → World → ℕ → Terms
terms_in_under longest w index = terms_under longest w.state.datalink (channel_in w index).setting

abbrev pub terms_in : World → ℕ → Terms
terms_in w index = terms_in_under LONGEST-PACKET w index

abbrev pub condition_in : World → ℕ → Condition machine
condition_in w index = condition_of (channel_in w index) (store_in w index)

abbrev pub result_in_under : (longest : ℕ) (c : ChannelCall) → World → ℕ → AfterCall machine (Says c)
result_in_under longest c w index = result_under longest w.state.datalink c (channel_in w index) (store_in w index)

abbrev pub result_in : (c : ChannelCall) → World → ℕ → AfterCall machine (Says c)
result_in c w index = result_in_under LONGEST-PACKET c w index

-- ---- what a call comes to: the answer of the rules, and the world that it leaves
pub record WorldResult (A : Type 0) : Type 0 where
  pub answer : Answer A
  pub world : World

-- "changes no state and no lent byte"
abbrev pub refusing : {A : Type 0} → ℕ → World → WorldResult A
refusing number w = record { answer = refused number; world = w }

-- the channel and its store, put back
abbrev pub putting_back : {A : Type 0} → AfterCall machine A → World → ℕ → World
putting_back r w index =
    record {
      state = with_channel w.state index (channel_after (channel_in w index) r);
      memory = with_store w.state index w.memory (store_after (channel_in w index) (store_in w index) r);
    }

-- a call on the channel at an index, and on its store
abbrev pub at_channel_under : (longest : ℕ) (c : ChannelCall) → World → ℕ → WorldResult (Says c)
at_channel_under longest c w index = record { answer = (result_in_under longest c w index).answer; world = putting_back (result_in_under longest c w index) w index }

abbrev pub at_channel : (c : ChannelCall) → World → ℕ → WorldResult (Says c)
at_channel c w index = at_channel_under LONGEST-PACKET c w index

-- 19, 12, then the call
unfoldable pub calling_under : Limits → (id : ℕ) (c : ChannelCall) → World → WorldResult (Says c)
calling_under limits id c w =
    cond (not (world_fits_under limits w)) (refusing OUTSIDE-LIMITS w)
    (cond (not (is_configured w id)) (refusing NO-CHANNEL w) (at_channel_under limits.packet c w (index_in w id)))

abbrev pub calling : (id : ℕ) (c : ChannelCall) → World → WorldResult (Says c)
calling id c w = calling_under CURRENT-LIMITS id c w

-- the same by what is given: number 19, number 12, or what the channel judges
pub data Judged (id : ℕ) (c : ChannelCall) (w : World) : WorldResult (Says c) → Type 0 where
  outside : world_fits w ≡ false → Judged id c w (refusing OUTSIDE-LIMITS w)
  unknown : world_fits w ≡ true → is_configured w id ≡ false → Judged id c w (refusing NO-CHANNEL w)
  served : world_fits w ≡ true → is_configured w id ≡ true → Judged id c w (at_channel c w (index_in w id))
