-- Number 19 of the radio's end, and 23: "watermark or throughput above 2^31 - 1, tested in configuration after 19"; in a state both are 19.
use Rattle.quantity.specs.declared.count.FlowSequence.{FlowSequence}
use Rattle.std.specs.Prelude.{ℕ, zero, suc, ◌^◌, Bool, true, cond, ◌&&◌, List, [], ◌∷◌, map, length, get_or, eqb, leb, ltb, Option, Some, None}
use Rattle.quantity.specs.declared.count.DatalinkId.{DatalinkId}
use Rattle.quantity.specs.Limits.{FEWEST-CHANNELS, MOST-CHANNELS, RESERVED-CHANNEL, HIGHEST-STATUS, MOST-ALLOWANCE}
use Rattle.meaning.specs.declared.message.End.TheVariants as ends
use Rattle.writable.specs.Allowed.{instance_allowed, context_allowed}
use Rattle.radio_end_state.specs.declared.channel.Setting.{Setting}
use Rattle.radio_end_state.specs.declared.channel.Channel.{Channel}
use Rattle.radio_end_state.specs.State.{Configuration, State, no_setting, no_channel}

-- ---- a test that holds of each number below another
unfoldable pub up_to : (ℕ → Bool) → ℕ → Bool
up_to test zero = true
up_to test (suc n) = up_to test n && test n

-- ---- where a channel stands in the configuration; one that it lacks, behind the last
unfoldable pub index_of : ℕ → List ℕ → ℕ
index_of id [] = 0
index_of id (n ∷ ns) = cond (eqb n id) 0 (suc (index_of id ns))

unfoldable pub has_id : ℕ → List ℕ → Bool
has_id id ids = ltb (index_of id ids) (length ids)

-- "an ID twice": each ID stands at its first place
abbrev pub stands_first : List ℕ → ℕ → Bool
stands_first ids index = eqb (index_of (get_or ids index 0) ids) index

-- the channels together: "an ID twice", "no channel 0"
unfoldable pub ids_fit : List ℕ → Bool
ids_fit ids = up_to (stands_first ids) (length ids) && has_id 0 ids

-- "channel count": 1 to 64
abbrev pub count_fits : ℕ → Bool
count_fits n = leb FEWEST-CHANNELS n && leb n MOST-CHANNELS

-- a Datalink ID is a byte, and every byte is one (section 3.3.1)
abbrev pub datalink_fits : DatalinkId → Bool
datalink_fits datalink = ltb datalink.0 256

-- ---- a setting: "ID 255"; 23
abbrev pub setting_fits : Setting → Bool
setting_fits k = ltb k.id RESERVED-CHANNEL

abbrev pub allowance_fits : Setting → Bool
allowance_fits k = leb k.watermark.0 MOST-ALLOWANCE && leb k.throughput.0 MOST-ALLOWANCE

-- ---- a channel: "a status above 15"; a sequence is a number of 32 bits
abbrev pub highest_fits : Option FlowSequence → Bool
highest_fits None = true
highest_fits (Some sequence) = ltb sequence.0 (2 ^ 32)

unfoldable pub channel_fits : Channel → Bool
channel_fits c = setting_fits c.setting && (allowance_fits c.setting && (leb c.status HIGHEST-STATUS && highest_fits c.highest))

unfoldable pub all_fit : List Channel → Bool
all_fit cs = up_to (λ index. channel_fits (get_or cs index no_channel)) (length cs)

unfoldable pub ids : List Channel → List ℕ
ids cs = map (λ (c : Channel). c.setting.id) cs

-- "a kept Link Instance or Context outside its lengths": as a radio control message may state them
unfoldable pub names_fit : State → Bool
names_fit s = instance_allowed ends.Radio s.instance && context_allowed ends.Radio s.context

-- A STATE WITHIN THE LIMITS
unfoldable pub state_fits : State → Bool
state_fits s = datalink_fits s.datalink && (count_fits (length s.channels) && (names_fit s && (all_fit s.channels && ids_fit (ids s.channels))))

-- ---- the same of a configuration: 19, then 23, of plain channels too
unfoldable pub settings_fit : List Setting → Bool
settings_fit ks = up_to (λ index. setting_fits (get_or ks index no_setting)) (length ks)

unfoldable pub allowances_fit : List Setting → Bool
allowances_fit ks = up_to (λ index. allowance_fits (get_or ks index no_setting)) (length ks)

unfoldable pub setting_ids : List Setting → List ℕ
setting_ids ks = map (λ (k : Setting). k.id) ks

unfoldable pub configuration_fits : Configuration → Bool
configuration_fits k = datalink_fits k.datalink && (count_fits (length k.settings) && (settings_fit k.settings && ids_fit (setting_ids k.settings)))

-- ---- a channel is found by its ID
abbrev pub is_configured : State → ℕ → Bool
is_configured s id = has_id id (ids s.channels)

abbrev pub index_in : State → ℕ → ℕ
index_in s id = index_of id (ids s.channels)
