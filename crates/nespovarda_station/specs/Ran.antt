-- Any sequence of exported calls, and what two numbers say of an answer, in literals.
use Rattle.quantity.specs.declared.refusal.Refusal.{Refusal}
use Rattle.std.specs.Prelude.{ℕ, ◌-◌, cond, List, [], ◌∷◌, eqb, Result, Ok, Err}
use Rattle.answer_codes.specs.declared.Answer as codes
use Rattle.radio_end_state.specs.declared.answer.Answer.{Answer}
use Rattle.radio_end_run.specs.Run.{Call, after_call}
use Rattle.radio_end_words.specs.Words.{state_in}
use Rattle.radio_end.specs.Ran.{Reply}
use Rattle.nespovarda_station.specs.Exports.{Exported}

-- 20 and 21: a message of so many bytes; 22: none; above 256: a refusal and its place
abbrev pub answer_said : codes.Answer → Result Answer Refusal
answer_said r =
    cond (eqb r.kind 20) (Ok (Answer.Answered (record { 0 = r.value })))
    (cond (eqb r.kind 21) (Ok (Answer.Unasked (record { 0 = r.value })))
    (cond (eqb r.kind 22) (Ok Answer.Quiet) (Err (record { number = r.kind - 256; place = r.value }))))

-- 1: started
abbrev pub start_said : codes.Answer → Result (Unit {0}) Refusal
start_said r = cond (eqb r.kind 1) (Ok tt) (Err (record { number = r.kind - 256; place = r.value }))

-- what a caller sees of a call besides the words
pub record Told : Type 0 where
  pub numbers : codes.Answer
  pub output : List ℕ

abbrev pub reply_said : Told → Reply
reply_said x = record { answer = answer_said x.numbers; output = x.output }

-- from words: the calls, what is seen of each, and the words that were left
pub data RanExported : List ℕ → List Call → List Told → List ℕ → Type 0 where
  over : {words : List ℕ} → RanExported words [] [] words
  ran : {words words' last out' : List ℕ} {c : Call} {r : codes.Answer} {cs : List Call} {xs : List Told} → Exported (after_call c (state_in words)) words r words' out' → RanExported words' cs xs last
      → RanExported words (c ∷ cs) (record { numbers = r; output = out' } ∷ xs) last
