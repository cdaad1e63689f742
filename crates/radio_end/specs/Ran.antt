-- Any sequence of calls on the state in lent words: each takes the words as the one before left them, and gives what its own contract says.
use Rattle.quantity.specs.declared.refusal.Refusal.{Refusal}
use Rattle.std.specs.Prelude.{ℕ, List, [], ◌∷◌, Result}
use Rattle.radio_end_state.specs.declared.answer.Answer.{Answer}
use Rattle.radio_end_state.specs.Calls.{After}
use Rattle.radio_end_run.specs.Run.{Call, after_call}
use Rattle.radio_end_words.specs.Words.{state_in}
use Rattle.radio_end_telling.specs.Left.{Left}

-- THE CONTRACT OF A CALL: the answer, every word and every byte of the output
abbrev pub PerformedIn : Call → (words : List ℕ) → Result Answer Refusal → (words' out' : List ℕ) → Type 0
PerformedIn c words answer words' out' = Left (after_call c (state_in words)) words answer words' out'

-- what a caller sees of a call besides the words
pub record Reply : Type 0 where
  pub answer : Result Answer Refusal
  pub output : List ℕ

abbrev pub reply_of : After → Reply
reply_of x = record { answer = x.answer; output = x.output }

-- from words: the calls, the replies, and the words that were left
pub data RanIn : List ℕ → List Call → List Reply → List ℕ → Type 0 where
  over : {words : List ℕ} → RanIn words [] [] words
  ran : {words words' last out' : List ℕ} {c : Call} {answer : Result Answer Refusal} {cs : List Call} {xs : List Reply} → PerformedIn c words answer words' out' → RanIn words' cs xs last
      → RanIn words (c ∷ cs) (record { answer = answer; output = out' } ∷ xs) last
