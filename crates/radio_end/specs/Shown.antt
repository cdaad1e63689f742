-- What a state says of one channel, and how many words a state asks for.
use Rattle.quantity.specs.declared.refusal.Refusal.{Refusal}
use Rattle.radio_end_state.specs.declared.channel.Channel.{Channel}
use Rattle.std.specs.Prelude.{ℕ, cond, Result, Ok, Err}
use Rattle.quantity.specs.Refusals.{NO-CHANNEL, OUTSIDE-LIMITS}
use Rattle.radio_end_state.specs.State.{State, channel_at}
use Rattle.radio_end_state.specs.Limits.{count_fits, state_fits, is_configured, index_in}
use Rattle.radio_end_words.specs.Words.{words_for}

-- 0 where no state has so many channels
unfoldable pub words_needed : ℕ → ℕ
words_needed channels = cond (count_fits channels) (words_for channels) 0

-- a refusal of one channel to be shown
abbrev pub refused_show : ℕ → Result Channel Refusal
refused_show number = Err (record { number = number; place = 0 })

-- 19, then 12, else the channel of an ID
unfoldable pub shown_of : State → ℕ → Result Channel Refusal
shown_of s id =
    cond (state_fits s) (cond (is_configured s id) (Ok (channel_at s (index_in s id))) (refused_show NO-CHANNEL)) (refused_show OUTSIDE-LIMITS)
