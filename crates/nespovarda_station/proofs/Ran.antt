-- An exported call's numbers say its answer, so that whatever is promised of a run is promised of exported calls. Assumes nothing.
use Rattle.std.specs.Prelude.{Result, Ok, Err}
use Rattle.quantity.specs.declared.refusal.Refusal.{Refusal}
use Prim.Native.Nat.{ℕ, ◌+◌, ◌-◌, ◌<◌}
use mathlib.Core.Bool.{false}
use mathlib.Core.List.{List, [], map}
use mathlib.Core.Path.{◌≡◌, refl, ap, ◌∙◌}
use native.Mathlib.Omega.{arith}
use borrow.Author.Tests.{ne_eqb}
use lib.Dec.{eqb}
use Rattle.answer_codes.specs.declared.Answer as codes
use Rattle.answer_codes.specs.Codes.{code_of}
use Rattle.radio_end_state.specs.declared.answer.Answer.{Answer}
use Rattle.radio_end_state.specs.State.{fresh_state}
use Rattle.radio_end_state.specs.Calls.{After, heard, status_told, queued_told, context_told, link_told, told}
use Rattle.radio_end_run.specs.Run.{Call, hear, status, queued, context, link, tell, after_call, states_after, answers_of}
use Rattle.radio_end_words.specs.Words.{state_in}
use Rattle.radio_end_telling.specs.Left.{Left}
use Rattle.radio_end_start.specs.Start.{configuration_in, StartedIn}
use Rattle.radio_end.specs.Ran as radio
use Rattle.radio_end.proofs.Started.{started_ran}
use Rattle.nespovarda_station.specs.Outcomes.{started_as, said_as}
use Rattle.nespovarda_station.specs.Named.{instance_said, context_said}
use Rattle.nespovarda_station.specs.Exports.{Exported, StartExported}
use Rattle.nespovarda_station.specs.Ran.{answer_said, start_said, Told, reply_said, RanExported, over, ran}

-- a refusal's kind is no other answer's
no_kind : (number kind : ℕ) → kind < 256 → eqb (256 + number) kind ≡ false
no_kind number kind less = ne_eqb (256 + number) kind (λ e. omega (arith, less, e))

number_back : (number : ℕ) → (256 + number) - 256 ≡ number
number_back number = omega arith

pub said_back : (a : Result Answer Refusal) → answer_said (code_of (said_as a)) ≡ a
said_back (Ok (Answer.Answered bytes)) = refl
said_back (Ok (Answer.Unasked bytes)) = refl
said_back (Ok Answer.Quiet) = refl
said_back (Err refusal) =
    rw (no_kind refusal.number 20 (omega arith), no_kind refusal.number 21 (omega arith), no_kind refusal.number 22 (omega arith), number_back refusal.number)

pub start_back : (a : Result (Unit {0}) Refusal) → start_said (code_of (started_as a)) ≡ a
start_back (Ok tt) = refl
start_back (Err refusal) = rw (no_kind refusal.number 1 (omega arith), number_back refusal.number)

-- ---- the contracts of the six exports are the contract of an exported call
module _ (words : List ℕ) (r : codes.Answer) (words' out' : List ℕ) where
  pub hear_exported : (datagram out : List ℕ) → Exported (heard (state_in words) datagram out) words r words' out' → Exported (after_call (hear datagram out) (state_in words)) words r words' out'
  unfolding after_call
  hear_exported datagram out h = h

  pub status_exported : (id value : ℕ) (out : List ℕ) → Exported (status_told (state_in words) id value out) words r words' out' → Exported (after_call (status id value out) (state_in words)) words r words' out'
  unfolding after_call
  status_exported id value out h = h

  pub queued_exported : (id bytes : ℕ) (out : List ℕ) → Exported (queued_told (state_in words) id (record { 0 = bytes }) out) words r words' out'
      → Exported (after_call (queued id (record { 0 = bytes }) out) (state_in words)) words r words' out'
  unfolding after_call
  queued_exported id bytes out h = h

  pub context_exported : (value size : ℕ) (out : List ℕ) → Exported (context_told (state_in words) (context_said value size) out) words r words' out'
      → Exported (after_call (context (context_said value size) out) (state_in words)) words r words' out'
  unfolding after_call
  context_exported value size out h = h

  pub link_exported : (value size : ℕ) → Exported (link_told (state_in words) (instance_said value size) []) words r words' [] → Exported (after_call (link (instance_said value size)) (state_in words)) words r words' []
  unfolding after_call
  link_exported value size h = h

  pub tell_exported : (out : List ℕ) → Exported (told (state_in words) out) words r words out' → Exported (after_call (tell out) (state_in words)) words r words out'
  unfolding after_call
  tell_exported out h = h

-- ---- from an export to its call
pub exports_say : {after : After} {words words' out' : List ℕ} {r : codes.Answer} → Exported after words r words' out' → Left after words (answer_said r) words' out'
exports_say {after = after} h = record { answer_is = ap answer_said h.answer_is ∙ said_back after.answer; words_are = h.words_are; output_is = h.output_is }

pub start_says : {configuration words words' : List ℕ} {r : codes.Answer} → StartExported configuration words r words' → StartedIn configuration words (start_said r) words'
start_says h = record { answer_is = ap start_said h.answer_is ∙ start_back _; words_are = h.words_are }

pub ran_says : {words last : List ℕ} {cs : List Call} {xs : List Told} → RanExported words cs xs last → radio.RanIn words cs (map reply_said xs) last
ran_says over = radio.over
ran_says (ran h more) = radio.ran (exports_say h) (ran_says more)

-- FROM AN EXPORTED START THAT ANSWERS 1, any exported calls: the words stand for what those calls make of the fresh state, and numbers and outputs are theirs
pub exported_ran : {configuration words words' last : List ℕ} {cs : List Call} {xs : List Told} → StartExported configuration words (record { kind = 1; value = 0 }) words' → RanExported words' cs xs last
    → (state_in last ≡ states_after cs (fresh_state (configuration_in configuration))) × (map reply_said xs ≡ map radio.reply_of (answers_of cs (fresh_state (configuration_in configuration))))
exported_ran started run = started_ran (start_says started) (ran_says run)
