-- The one contract of every call on words: the answer, every word and every byte of the output, for refused calls too.
use Rattle.quantity.specs.declared.refusal.Refusal.{Refusal}
use Rattle.std.specs.Prelude.{ℕ, ◌≤◌, Bool, true, false, cond, List, ◌≡◌, Result, Ok, Err}
use Rattle.quantity.specs.Refusals.{NO-CHANNEL, OUTSIDE-LIMITS}
use Rattle.radio_end_state.specs.declared.answer.Answer.{Answer}
use Rattle.radio_end_state.specs.declared.channel.Channel.{Channel}
use Rattle.radio_end_state.specs.State.{State, channel_at}
use Rattle.radio_end_state.specs.Limits.{state_fits, is_configured, index_in}
use Rattle.radio_end_state.specs.Calls.{After}
use Rattle.radio_end_words.specs.Words.{state_words, Placed}

abbrev pub is_refused : Result Answer Refusal → Bool
is_refused (Ok (Answer.Answered bytes)) = false
is_refused (Ok (Answer.Unasked bytes)) = false
is_refused (Ok Answer.Quiet) = false
is_refused (Err refusal) = true

-- what a call leaves: the words of the state that it comes to, or those that it found
pub record Left (after : After) (words : List ℕ) (answer : Result Answer Refusal) (words' out' : List ℕ) : Type 0 where
  pub answer_is : answer ≡ after.answer
  pub words_are : words' ≡ cond (is_refused after.answer) words (state_words after.state)
  pub output_is : out' ≡ after.output

-- where a channel is found: 19, then 12
unfoldable pub found_of : State → ℕ → Result ℕ Refusal
found_of s id = cond (state_fits s) (cond (is_configured s id) (Ok (index_in s id)) (Err (record { number = NO-CHANNEL; place = 0 }))) (Err (record { number = OUTSIDE-LIMITS; place = 0 }))

-- a channel that may take the place of another: its ID is the same, its status has 4 bits
pub record Settles (words : List ℕ) (s : State) (index : ℕ) (c : Channel) : Type 0 where
  pub placed : Placed words index
  pub same_id : c.setting.id ≡ (channel_at s index).setting.id
  pub low : c.status ≤ 15
