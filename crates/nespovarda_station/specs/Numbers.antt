-- THE NUMBERS THAT A CALLER SEES, in literals: what C's header and other languages write down for themselves.
use Rattle.quantity.specs.declared.count.FlowSequence.{FlowSequence}
use Rattle.std.specs.Prelude.{ℕ, ◌+◌, ◌*◌, ◌<◌, true, false, cond, ◌&&◌, List, [], ◌∷◌, ◌≡◌, leb, length, Option, Some, None, Ok, Err}
use Rattle.quantity.specs.declared.refusal.Refusal.{Refusal}
use Rattle.meaning.specs.declared.message.Window.{Window}
use Rattle.answer_codes.specs.declared.Answer as codes
use Rattle.answer_codes.specs.Codes.{Outcome, code_of}
use Rattle.radio_end_state.specs.declared.answer.Answer.{Answer}
use Rattle.radio_end_state.specs.declared.channel.Channel.{Channel}
use Rattle.radio_end_state.specs.Channel.{window_now}
use Rattle.radio_end_state.specs.State.{State, channel_at}
use Rattle.radio_end_state.specs.Limits.{state_fits}
use Rattle.nespovarda_station.specs.Outcomes.{started_as, said_as}
use Rattle.nespovarda_station.specs.Named.{instance_said, context_said}

abbrev pub numbers : (kind value : ℕ) → codes.Answer
numbers kind value = record { kind = kind; value = value }

abbrev pub refusal : (number place : ℕ) → Refusal
refusal number place = record { number = number; place = place }

-- ---- the numbers of each call's own answers (`numbers_exactly`)
pub record Numbers : Type 0 where
  pub started : code_of (started_as (Ok tt)) ≡ numbers 1 0
  pub start_refused : (number place : ℕ) → code_of (started_as (Err (refusal number place))) ≡ numbers (256 + number) place
  pub answered : (bytes : ℕ) → code_of (said_as (Ok (Answer.Answered (record { 0 = bytes })))) ≡ numbers 20 bytes
  pub unasked : (bytes : ℕ) → code_of (said_as (Ok (Answer.Unasked (record { 0 = bytes })))) ≡ numbers 21 bytes
  pub no_message : code_of (said_as (Ok Answer.Quiet)) ≡ numbers 22 0
  pub call_refused : (number place : ℕ) → code_of (said_as (Err (refusal number place))) ≡ numbers (256 + number) place
  pub shown : code_of Outcome.shown ≡ numbers 12 0

-- ---- how many words a state of so many channels asks for (`words_exactly`)
abbrev pub words_number : (channels : ℕ) → ℕ
words_number channels = cond (leb 1 channels && leb channels 64) (8 + 8 * channels) 0

-- ---- what is shown of a channel (`shown_exactly`): status; 0 without a Flow Window, 1 without the field, 2 and the window; 0 unheard, 1 and the highest; queued
abbrev pub window_numbers : Option Window → (rest : List ℕ) → List ℕ
window_numbers None rest = 0 ∷ 0 ∷ rest
window_numbers (Some Window.Empty) rest = 1 ∷ 0 ∷ rest
window_numbers (Some (Window.Given window)) rest = 2 ∷ window.0 ∷ rest

abbrev pub highest_numbers : Option FlowSequence → (rest : List ℕ) → List ℕ
highest_numbers None rest = 0 ∷ 0 ∷ rest
highest_numbers (Some sequence) rest = 1 ∷ sequence.0 ∷ rest

abbrev pub six_numbers : Channel → List ℕ
six_numbers c = c.status ∷ window_numbers (window_now c) (highest_numbers c.highest (c.queued.0 ∷ []))

-- of the channel that has the ID; where none has it 256 and 12, outside the limits 256 and 19, and then the numbers are as they were
pub record ShownExactly (s : State) (id : ℕ) (before : List ℕ) (r : codes.Answer) (after : List ℕ) : Type 0 where
  pub shows : state_fits s ≡ true → (index : ℕ) → index < length s.channels → (channel_at s index).setting.id ≡ id → (r ≡ numbers 12 0) × (after ≡ six_numbers (channel_at s index))
  pub lacks : state_fits s ≡ true → ((index : ℕ) → index < length s.channels → (channel_at s index).setting.id ≡ id → ⊥) → (r ≡ numbers 268 0) × (after ≡ before)
  pub outside : state_fits s ≡ false → (r ≡ numbers 275 0) × (after ≡ before)

-- ---- what two numbers say of a Link Instance and of a Context (`named_exactly`): 0 and 0 none; else the value at its length, a length of 0 too, which 20 refuses
pub record NamedExactly : Type 0 where
  pub no_instance_lem : instance_said 0 0 ≡ None
  pub instance : (value length : ℕ) → instance_said value (1 + length) ≡ Some (record { 0 = value }, 1 + length)
  pub instance_unwritten : (value : ℕ) → instance_said (1 + value) 0 ≡ Some (record { 0 = 1 + value }, 0)
  pub no_context_lem : context_said 0 0 ≡ None
  pub context : (value length : ℕ) → context_said value (1 + length) ≡ Some (record { 0 = value }, 1 + length)
  pub context_unwritten : (value : ℕ) → context_said (1 + value) 0 ≡ Some (record { 0 = 1 + value }, 0)
