-- What a state says of one channel and of itself, and how many words a state asks for.
use Rattle.quantity.specs.declared.refusal.Refusal.{Refusal}
use Rattle.ips_words_survey.specs.declared.place.Found.{Found}
use Rattle.pacer.specs.declared.Pacer.{Pacer}
use Rattle.endpoint.specs.declared.shown.KeptShown.{KeptShown}
use Rattle.std.specs.Prelude.{ℕ, cond, Result, Ok, Err}
use Rattle.quantity.specs.Refusals.{OUTSIDE-LIMITS}
use Rattle.ips_channel.specs.declared.state.Channel.{Channel}
use Rattle.ips_state.specs.State.{State, no_start, channel_at, fresh_of}
use Rattle.ips_state.specs.Limits.{count_fits, sizes, state_fits}
use Rattle.ips_words.specs.Words.{words_for}
use Rattle.ips_words_survey.specs.Places.{place_of}
use Rattle.endpoint.specs.declared.shown.ChannelShown.{ChannelShown}

-- 0 where no state has so many channels
unfoldable pub words_needed : ℕ → ℕ
words_needed channels = cond (count_fits channels) (words_for channels) 0

-- the channel at a place; where there is none, a fresh one with no store
abbrev pub channel_of : State → Result Found ℕ → Channel
channel_of s (Ok found) = channel_at s found.index
channel_of s (Err number) = fresh_of no_start

-- 19, then 12, with a memory as long as the stores ask; else the channel of an ID, and where its store starts
unfoldable pub shown_of : State → ℕ → ChannelShown
shown_of s id = record { place = place_of s id (sizes s.channels); channel = channel_of s (place_of s id (sizes s.channels)) }

-- 19, or the pacer
unfoldable pub pacer_of : State → Result Pacer Refusal
pacer_of s = cond (state_fits s) (Ok s.pacer) (Err (record { number = OUTSIDE-LIMITS; place = 0 }))

-- 19, or "Link Instance is kept when given", and the Context of "the control message just before"
unfoldable pub kept_of : State → Result KeptShown Refusal
kept_of s = cond (state_fits s) (Ok (record { instance = s.instance; context = s.context })) (Err (record { number = OUTSIDE-LIMITS; place = 0 }))
