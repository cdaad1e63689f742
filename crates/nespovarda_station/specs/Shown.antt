-- What stands in the state of a channel, as numbers.
use Rattle.std.specs.Prelude.{ℕ, cond, List, [], ◌∷◌, ◌≡◌}
use Rattle.quantity.specs.Refusals.{NO-CHANNEL, OUTSIDE-LIMITS}
use Rattle.answer_codes.specs.declared.Answer.{Answer}
use Rattle.answer_codes.specs.Codes.{Outcome, code_of}
use Rattle.lent_messages.specs.Stated.{window_stated}
use Rattle.radio_end_state.specs.declared.channel.Channel.{Channel}
use Rattle.radio_end_state.specs.Channel.{window_now}
use Rattle.radio_end_state.specs.State.{State, channel_at}
use Rattle.radio_end_state.specs.Limits.{state_fits, is_configured, index_in}
use Rattle.radio_end_words.specs.Words.{highest_tag, highest_value}

-- the status; whether there is a Flow Window, without the field or with it, and the window; whether a sequence was heard, and the highest; the bytes queued
abbrev pub channel_numbers : Channel → List ℕ
channel_numbers c =
    c.status ∷ (window_stated (window_now c)).tag ∷ (window_stated (window_now c)).first ∷ highest_tag c.highest ∷ highest_value c.highest ∷ c.queued.0 ∷ []

-- 19, then 12; a refusal leaves the numbers as they were
abbrev pub shown_as : State → (id : ℕ) → Outcome
shown_as s id = cond (state_fits s) (cond (is_configured s id) Outcome.shown (Outcome.refused NO-CHANNEL 0)) (Outcome.refused OUTSIDE-LIMITS 0)

abbrev pub numbers_for : State → (id : ℕ) → (before : List ℕ) → List ℕ
numbers_for s id before = cond (state_fits s) (cond (is_configured s id) (channel_numbers (channel_at s (index_in s id))) before) before

pub record ShowsChannel (s : State) (id : ℕ) (before : List ℕ) (r : Answer) (after : List ℕ) : Type 0 where
  pub answer_is : r ≡ code_of (shown_as s id)
  pub numbers_are : after ≡ numbers_for s id before
