-- What a call of the radio's end gives a caller that shares no types with Rattle: two numbers, and every lent word and byte.
use Rattle.std.specs.Prelude.{ℕ, cond, List, ◌≡◌, Ok}
use Rattle.quantity.specs.Refusals.{OUTSIDE-LIMITS, LARGE-ALLOWANCE}
use Rattle.answer_codes.specs.declared.Answer.{Answer}
use Rattle.answer_codes.specs.Codes.{code_of}
use Rattle.radio_end_state.specs.State.{fresh_state}
use Rattle.radio_end_state.specs.Limits.{allowances_fit}
use Rattle.radio_end_state.specs.Calls.{After}
use Rattle.radio_end_words.specs.Words.{state_words}
use Rattle.radio_end_telling.specs.Left.{is_refused}
use Rattle.radio_end_start.specs.Start.{configuration_in, starts_in, begins_in, not_started}
use Rattle.nespovarda_station.specs.Outcomes.{started_as, said_as}

-- THE CONTRACT OF AN EXPORTED CALL: the numbers of its answer, the words of the state that it comes to or those that it found, and the output
pub record Exported (after : After) (words : List ℕ) (r : Answer) (words' out' : List ℕ) : Type 0 where
  pub answer_is : r ≡ code_of (said_as after.answer)
  pub words_are : words' ≡ cond (is_refused after.answer) words (state_words after.state)
  pub output_is : out' ≡ after.output

-- THE CONTRACT OF AN EXPORTED START
pub record StartExported (configuration words : List ℕ) (r : Answer) (words' : List ℕ) : Type 0 where
  pub answer_is : r
      ≡ code_of
      (started_as (cond (starts_in configuration words) (cond (allowances_fit (configuration_in configuration).settings) (Ok tt) (not_started LARGE-ALLOWANCE)) (not_started OUTSIDE-LIMITS)))
  pub words_are : words' ≡ cond (begins_in configuration words) (state_words (fresh_state (configuration_in configuration))) words
