-- Number 19: "configuration: channel count, ID 255, an ID twice, no channel 0, store length, a Datalink ID without meaning in 3.3.1" (each has one there); "in any
-- call that takes them, a state outside these limits (a configuration in it that would be refused, a kept Link Instance or Context outside its lengths, a status
-- above 15, more than 32 waiting, a waiting length outside 40 to 1,500, waiting bytes over the store, a plain channel not free) or a lent memory whose length
-- isn't the sum of the stores". Document 02: "19 moves with the limits", which are parameters here.
use Rattle.std.specs.Prelude.{ℕ, suc, ◌+◌, Bool, true, false, cond, not, ◌&&◌, List, [], ◌∷◌, map, length, eqb, leb, ltb}
use Rattle.quantity.specs.Limits.{FEWEST-CHANNELS, MOST-CHANNELS, LONGEST-PACKET, RESERVED-CHANNEL, SMALLEST-STORE, LARGEST-STORE, Limits, CURRENT-LIMITS}
use Rattle.meaning.specs.declared.message.End.TheVariants as ends
use Rattle.meaning.specs.Kinds.{among}
use Rattle.writable.specs.Allowed.{instance_allowed, context_allowed, status_allowed}
use Rattle.store.specs.Waiting.{well_formed_under}
use Rattle.flow.specs.declared.Flow.{Flow}
use Rattle.ips_channel.specs.declared.state.Setting.{Setting}
use Rattle.ips_channel.specs.declared.state.Channel.{Channel}
use Rattle.pacer.specs.Pacing.{fresh_pacer, pacer_fits}
use Rattle.ips_state.specs.State.{ChannelStart, Configuration, State}

-- ---- a setting: "ID 255", "store length"
abbrev pub setting_fits : Setting → Bool
setting_fits k = ltb k.id RESERVED-CHANNEL && (leb SMALLEST-STORE k.size.0 && leb k.size.0 LARGEST-STORE)

-- ---- a channel: its setting, "a status above 15", "a plain channel not free", and what waits
abbrev pub flow_fits : Bool → Flow → Bool
flow_fits true flow = true
flow_fits false Flow.Free = true
flow_fits false Flow.NoWindow = false
flow_fits false (Flow.InForce window) = false

unfoldable pub channel_fits_under : (longest : ℕ) → Channel → Bool
channel_fits_under longest c =
    setting_fits c.setting
    && (status_allowed ends.Radio c.status && (flow_fits c.setting.controlled c.flow && well_formed_under longest c.queue c.setting.size.0))

unfoldable pub all_fit_under : (longest : ℕ) → List Channel → Bool
all_fit_under longest [] = true
all_fit_under longest (c ∷ cs) = channel_fits_under longest c && all_fit_under longest cs

-- ---- the channels together: "an ID twice", "no channel 0"
unfoldable pub ids : List Channel → List ℕ
ids cs = map (λ (c : Channel). c.setting.id) cs

unfoldable pub distinct : List ℕ → Bool
distinct [] = true
distinct (n ∷ ns) = not (among n ns) && distinct ns

unfoldable pub channels_fit_under : (longest : ℕ) → List Channel → Bool
channels_fit_under longest cs = all_fit_under longest cs && (distinct (ids cs) && among 0 (ids cs))

-- "channel count"
abbrev pub count_fits_under : (most n : ℕ) → Bool
count_fits_under most n = leb FEWEST-CHANNELS n && leb n most

-- "a kept Link Instance or Context outside its lengths": as a radio control message may state them
unfoldable pub names_fit : State → Bool
names_fit s = instance_allowed ends.Radio s.instance && context_allowed ends.Radio s.context

-- these, and "a configuration in it that would be refused": by 22, too
unfoldable pub head_fits : State → Bool
head_fits s = names_fit s && pacer_fits s.pacer

-- A STATE WITHIN THE LIMITS
unfoldable pub state_fits_under : Limits → State → Bool
state_fits_under limits s = count_fits_under limits.channels (length s.channels) && (head_fits s && channels_fit_under limits.packet s.channels)

-- the same of a configuration: "channel count, ID 255, an ID twice, no channel 0, store length"
unfoldable pub starts_fit : List ChannelStart → Bool
starts_fit [] = true
starts_fit (k ∷ ks) = setting_fits k.setting && starts_fit ks

unfoldable pub start_ids : List ChannelStart → List ℕ
start_ids ks = map (λ (k : ChannelStart). k.setting.id) ks

unfoldable pub configuration_fits_under : (most : ℕ) → Configuration → Bool
configuration_fits_under most k =
    count_fits_under most (length k.starts)
    && (starts_fit k.starts && (distinct (start_ids k.starts) && among 0 (start_ids k.starts)))

-- number 22 is "tested last in configuration": given where this doesn't hold, and 19 is not
abbrev pub waits_fit : Configuration → Bool
waits_fit k = pacer_fits (fresh_pacer k.hello k.limit)

-- ---- the same under the limits in force
abbrev pub channel_fits : Channel → Bool
channel_fits c = channel_fits_under LONGEST-PACKET c

abbrev pub all_fit : List Channel → Bool
all_fit cs = all_fit_under LONGEST-PACKET cs

abbrev pub channels_fit : List Channel → Bool
channels_fit cs = channels_fit_under LONGEST-PACKET cs

abbrev pub count_fits : ℕ → Bool
count_fits n = count_fits_under MOST-CHANNELS n

abbrev pub state_fits : State → Bool
state_fits s = state_fits_under CURRENT-LIMITS s

abbrev pub configuration_fits : Configuration → Bool
configuration_fits k = configuration_fits_under MOST-CHANNELS k

-- a configuration that neither 19 nor 22 refuses
abbrev pub configuration_taken : Configuration → Bool
configuration_taken k = configuration_fits k && waits_fit k

-- ---- "one store .. for each channel, all of them end to end in configuration order in one lent memory"
unfoldable pub sizes : List Channel → ℕ
sizes [] = 0
sizes (c ∷ cs) = c.setting.size.0 + sizes cs

-- where a channel stands in the configuration; one that is not configured, behind the last
unfoldable pub index_of : ℕ → List ℕ → ℕ
index_of id [] = 0
index_of id (n ∷ ns) = cond (eqb n id) 0 (suc (index_of id ns))
