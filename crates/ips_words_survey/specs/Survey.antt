-- What one pass over a state tells: whether it is within the limits (number 19), and where a channel and its store stand.
use Rattle.std.specs.Prelude.{ℕ, ◌≤◌, Bool, true, cond, ◌≡◌, List, length, take, eqb, Option, None, Some, Result, Ok, Err}
use Rattle.quantity.specs.declared.refusal.Refusal.{Refusal}
use Rattle.quantity.specs.Limits.{MOST-CHANNELS}
use Rattle.quantity.specs.Refusals.{OUTSIDE-LIMITS}
use Rattle.meaning.specs.Kinds.{among}
use Rattle.ips_channel.specs.declared.state.Channel.{Channel}
use Rattle.ips_state.specs.State.{State}
use Rattle.ips_state.specs.Limits.{ids, channels_fit, state_fits, sizes, index_of}
use Rattle.ips_words.specs.Words.{COUNT-WORD, CONTROLLED, FREE, words_for, word, state_of, all_spelled}
use Rattle.ips_words_survey.specs.declared.survey.Survey.{Survey}

abbrev pub unfit : Option Survey
unfit = None

unfoldable pub surveyed : List Channel → ℕ → Survey
surveyed cs id =
    record { total = record { 0 = sizes cs }; index = index_of id (ids cs); start = record { 0 = cond (among id (ids cs)) (sizes (take (index_of id (ids cs)) cs)) 0 } }

unfoldable pub walked : List Channel → ℕ → Option Survey
walked cs id = cond (channels_fit cs) (Some (surveyed cs id)) unfit

unfoldable pub survey_of : State → ℕ → Option Survey
survey_of s id = cond (state_fits s) (Some (surveyed s.channels id)) unfit

-- number 19 alone
unfoldable pub within_limits : State → Result (Unit {0}) Refusal
within_limits s = cond (state_fits s) (Ok tt) (Err (record { number = OUTSIDE-LIMITS; place = 0 }))

-- ---- the same over words
-- a plain channel is free
abbrev pub plain_free : (kind tag : ℕ) → Bool
plain_free kind tag = cond (eqb kind CONTROLLED) true (eqb tag FREE)

-- what has been tested before the pass, and what the pass gives
pub record Counted (words : List ℕ) (count : ℕ) : Type 0 where
  pub long : length words ≡ words_for count
  pub count_is : count ≡ word words COUNT-WORD
  pub few : count ≤ MOST-CHANNELS

unfoldable pub walked_in : List ℕ → ℕ → ℕ → Option Survey
walked_in words count id = cond (all_spelled words count) (walked (state_of words).channels id) unfit
